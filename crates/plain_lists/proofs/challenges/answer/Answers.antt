use Rattle.std.proofs.Common.{◌∙◌, sym, ap, slice_set}
use Rattle.std.proofs.lemmas.List.Edits.{map_over_more}
use Rattle.authority_model.specs.declared.pending.Pending.{Pending}
use Rattle.entry_changes.specs.Changes.{answered_by}
use Rattle.plain_lists.proofs.challenges.answer.Goals as goal

pub loop-row-preserved : goal.loop-row-preserved
loop-row-preserved c =
    ap (λ (x : Pending). slice_set c.loop-row.challenges c.loop-row.row-index x) (c.answer_one.ensures.row ∙ ap (answered_by c.args.entry c.args.identity) (sym c.row-item.is))
    ∙ map_over_more (answered_by c.args.entry c.args.identity) c.args.challenges.now _ _ c.row-item.result c.loop-row-test.true c.loop-row.invariant c.row-item.is
