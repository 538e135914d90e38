-- Why the lock of a service has ended.
use Rattle.std.specs.Prelude.{◌≡◌, ℕ, List, Some}
use Rattle.history_lock.specs.Known.{Known}
use Rattle.history_lock.specs.declared.machine.EndCause.{EndCause}
use Rattle.authority_model.specs.declared.journal.Item.{Item}
use Rattle.authority_model.specs.declared.journal.Limits.{Limits}
use Rattle.shared_authority.specs.Journals.{Fits}
use Rattle.authority_service.specs.declared.admitting.PrepareRefused.{PrepareRefused}
use Rattle.authority_service.specs.declared.admitting.PrepareRefused.TheVariants as refused

-- the cause by which a service has not begun fits what the loader's pass knows
abbrev pub PrepareCause : Limits → Known Item → PrepareRefused → Type 0
PrepareCause limits w refused.NoMemory = Unit {0}
PrepareCause limits w (refused.Ended cause) = Fits limits cause w.history w.made × (w.ended ≡ Some cause)

-- a cause fits a journal, whatever number of passes was made
pub record FitsJournal (limits : Limits) (cause : EndCause) (journal : List Item) : Type 0 where
  pub made : ℕ
  pub fits : Fits limits cause journal made
