use Rattle.std.proofs.Common.{refl}
use Rattle.client_messages.specs.Agents.{begin_of}
use Rattle.script_agent.proofs.Moves.{waits_from}
use Rattle.script_agent.proofs.line.Line.await_begin.Goals as goal

pub returns-clause-waits : goal.returns-clause-waits
returns-clause-waits g c = waits_from begin_of _ _ _ _ c.self.view_is c.await_begin.ensures.hears c.await_begin.ensures.origin refl refl c.await_begin.ensures.faults refl

pub returns-clause-serial : goal.returns-clause-serial
returns-clause-serial g c = c.await_begin.ensures.serial
