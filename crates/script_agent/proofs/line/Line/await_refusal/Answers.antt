use Rattle.std.proofs.Common.{refl}
use Rattle.script_agent.specs.Waits.{refusal_of}
use Rattle.script_agent.proofs.Moves.{waits_from}
use Rattle.script_agent.proofs.line.Line.await_refusal.Goals as goal

pub returns : goal.returns
returns g c = record { waits = waits_from (refusal_of c.args.serial) _ _ _ _ c.self.view_is c.await_refusal.ensures.hears c.await_refusal.ensures.origin refl refl c.await_refusal.ensures.faults refl }
