use Rattle.std.proofs.Common.{◌∙◌, [], refl}
use Rattle.journal_scan.specs.Standing.{place_of}
use Rattle.journal_scan.proofs.Lining.{own_alone, own_both, place_alone, place_both}
use Rattle.journal_scan.proofs.Tables.{table_to}
use Rattle.journal_scan.proofs.callers.Callers.mark.Goals as goal

pub returns-in-Some : goal.returns-in-Some
returns-in-Some c = record {
  marked = (λ yes size lines table.
      let l = c.args.line in
      let s = c.in-Some.sighter in
      let first = c.if-not-mark_number.ensures.marked refl size (place_of lines []) table in
      let second = c.mark_sighter.ensures.marked yes size _ first.2 in (
        first.0,
        own_both lines l s c.in-Some.is second.0 first.1 second.1,
        table_to second.2 (λ n place is. is ∙ place_both lines l s n c.in-Some.is first.1),
      ));
}

pub returns-in-None : goal.returns-in-None
returns-in-None c = record {
  marked = (λ yes size lines table.
      let l = c.args.line in
      let first = c.if-not-mark_number.ensures.marked refl size (place_of lines []) table in (
        first.0,
        own_alone lines l c.in-None.is first.1,
        table_to first.2 (λ n place is. is ∙ place_alone lines l n c.in-None.is first.1),
      ));
}
