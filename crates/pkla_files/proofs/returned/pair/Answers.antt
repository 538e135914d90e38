-- An item is cut at its first `=`.
use Rattle.std.proofs.Common.{◌∙◌, ap, sym}
use Rattle.std.specs.Prelude.{Some, None, is_some, not, if◌then◌else◌}
use Rattle.pkla_files.specs.declared.fault.PklaFaultKind.TheVariants as kind
use Rattle.pkla_files.proofs.Parts.{cut_texts, no_pair, pair_found}
use Rattle.pkla_files.proofs.returned.pair.Goals as goal

pub returns-in_default-clause-fault : goal.returns-in_default-clause-fault
returns-in_default-clause-fault c =
    ap (λ p. if not (is_some p) then Some kind.ReturnValue else None) (no_pair _ _ c.bytes.ensures.bytes c.in_default.ensures.none)

pub of_known-requires : goal.of_known-requires
of_known-requires c = record { text = (cut_texts _ _ _ _ c.bytes.ensures.bytes c.bytes.ensures.text c.in-Some.ensures.found).0 }

pub of_known-requires-2 : goal.of_known-requires-2
of_known-requires-2 c = record { text = (cut_texts _ _ _ _ c.bytes.ensures.bytes c.bytes.ensures.text c.in-Some.ensures.found).1 }

pub returns-clause-pair : goal.returns-clause-pair
returns-clause-pair c =
    pair_found _ _ _ _ _ _ c.bytes.ensures.bytes c.in-Some.ensures.found (sym c.is_empty.ensures ∙ c.if-is_empty.false) c.in_ok-key.ensures.text c.in_ok-value.ensures.text
