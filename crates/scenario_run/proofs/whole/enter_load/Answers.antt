-- What the authority refuses, its journal refuses so.
use Rattle.std.proofs.Common.{subst, sym}
use Rattle.authority_core.specs.Refusals.{IsHalted}
use Rattle.authority_model.specs.Items.{items_of}
use Rattle.scenario_run.specs.Journals.{IsDue}
use Rattle.scenario_run.specs.Room.{whole}
use Rattle.scenario_run.proofs.Entering.{halted_due}
use Rattle.scenario_run.proofs.whole.enter_load.Goals as goal

pub returns-in-Err-clause-refused : goal.returns-in-Err-clause-refused
returns-in-Err-clause-refused c =
    let authority = c.args.authority.now in
    subst (IsDue (whole authority.limits) (items_of authority.history)) (sym c.from.ensures) (
    halted_due authority c.into_parts-halt.result.0 (subst (IsHalted authority) (sym c.into_parts-halt.ensures.halt) c.in-Err.ensures.refused.0)
    )
