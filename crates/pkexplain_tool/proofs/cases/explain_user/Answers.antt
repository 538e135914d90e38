-- The three rows of the user.
use Rattle.std.proofs.Common.{◌∙◌, ap}
use Rattle.std.proofs.lemmas.Result.{on_ok_weaker}
use Rattle.authority_model.specs.declared.load.Loaded.{Loaded}
use Rattle.pkexplain_tool.proofs.Explaining.{three_rows}
use Rattle.pkexplain_tool.proofs.cases.explain_user.Goals as goal

pub returns : goal.returns
returns c = record {
  explains = on_ok_weaker c.explain_row-3.result
      (λ active. three_rows c.args.book.now c.args.user.now c.as_slice-actions.result.now _ _ _ _ (c.as_slice-actions.ensures.items ∙ ap (λ (l : Loaded). l.policy.actions) c.loaded.ensures.loaded)
      c.in_ok-explain_row.ensures.explains c.in_ok-explain_row-2.ensures.explains active)
      c.explain_row-3.ensures.explains;
}
