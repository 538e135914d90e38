-- A history without an entry has no item.
use Rattle.std.proofs.Common.{ap, ◌∙◌}
use Rattle.authority_model.specs.declared.journal.History.{History}
use Rattle.scenario_run.proofs.Begun.{first_of}
use Rattle.scenario_run.proofs.whole.is_empty.Goals as goal

pub returns : goal.returns
returns c = record { empty = c.is_empty.ensures.empty ∙ first_of c.args.authority.now.history c.history.result.now.entries (ap (λ (h : History). h.entries) c.history.ensures.same) }
