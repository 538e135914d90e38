use Rattle.std.proofs.Common.{◌∙◌, refl, subst, rules}
use Rattle.journal_scan.specs.Standing.{IsUntaken, with_sighter}
use Rattle.journal_scan.proofs.Lining.{place_set}
use Rattle.journal_scan.proofs.callers.Callers.mark_sighter.Goals as goal

pub returns : goal.returns
returns c = record {
  marked = (λ yes size f table.
      let rows = c.args.self.now.places.items in
      let inside = c.if-at-len.false in
      let told = place_set size c.args.number f (with_sighter) rows c.index_mut.result.now table (search rules) c.index_mut.ensures.value in
      let same = table.each c.args.number c.index.result.now (search rules) in
      (search rules, subst IsUntaken (c.index.ensures ∙ same) (c.if-not-is_untaken.ensures.untaken refl), told.1));
}
