-- The journal's loads are those of its items.
use Rattle.std.proofs.Common.{◌≡◌, List, IfOk, refl, subst}
use Rattle.authority_model.specs.declared.load.Loaded.{Loaded}
use Rattle.authority_model.specs.Items.{items_of}
use Rattle.scenario_text.specs.Answers.{message_line}
use Rattle.scenario_run.proofs.Loads.{loads_are}
use Rattle.scenario_run.proofs.whole.answer.Goals as goal

pub returns : goal.returns
returns c = record {
  line = subst (λ (loads : List Loaded). IfOk c.answer_text.result (λ line. line ≡ message_line loads c.args.output.now.to c.args.serial c.args.output.now.message))
      (loads_are c.args.authority.now.history c.history.result.now (items_of c.args.authority.now.history) c.history.ensures.same c.history.ensures.legal refl) c.answer_text.ensures.line;
}
