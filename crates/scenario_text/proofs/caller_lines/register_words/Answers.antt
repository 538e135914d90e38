use Rattle.std.proofs.Common.{refl, lit≤, codes}
use Rattle.pk_types.proofs.Texts.{plain_text}
use Rattle.scenario_text.proofs.caller_lines.register_words.Goals as goal

pub of_known-requires : goal.of_known-requires
of_known-requires c = record { text = rw c.as_slice.ensures (plain_text (codes "C") refl (lit≤ tt)) }
