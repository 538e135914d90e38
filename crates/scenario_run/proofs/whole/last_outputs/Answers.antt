-- The newest item has the outputs of the last entry.
use Rattle.std.proofs.Common.{ap, ◌∙◌}
use Rattle.authority_model.specs.declared.journal.History.{History}
use Rattle.scenario_run.proofs.Begun.{last_is}
use Rattle.scenario_run.proofs.whole.last_outputs.Goals as goal

pub returns : goal.returns
returns c = record {
  outputs = c.as_slice-2.ensures.items
      ∙ last_is c.args.authority.now.history c.in_ok-entry.entry.now c.as_slice.result.now (c.as_slice.ensures.items ∙ ap (λ (h : History). h.entries) c.history.ensures.same) c.in_ok-entry.ensures.value;
}
