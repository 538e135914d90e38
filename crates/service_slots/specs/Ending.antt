-- How the slots and the loader end beside each other.
use Rattle.std.specs.Prelude.{Result, Ok, Err}
use Rattle.history_lock.specs.Known.{Known}
use Rattle.history_lock.specs.declared.machine.EndCause.{EndCause}
use Rattle.authority_model.specs.declared.event.Event.TheVariants.{Stop}
use Rattle.authority_model.specs.declared.journal.Item.{Item}
use Rattle.authority_model.specs.declared.journal.Limits.{Limits}
use Rattle.authority_model.specs.Given.{event_given}
use Rattle.shared_authority.specs.Journals.{Fits}
use Rattle.shared_authority.specs.Passes.{Entered}

-- The control pass stopped the loader: its Stop, with the moment 0 and the salt 0, is the last that it knows. Or the lock has ended, by this cause.
abbrev pub StopsLoader : Limits → Known Item → Known Item → Result (Unit {0}) EndCause → Type 0
StopsLoader limits v w (Ok done) = Entered v (event_given v.number 0 0 Stop) w
StopsLoader limits v w (Err cause) = Fits limits cause w.history w.made
