-- What becomes of an event that is handed in.
use Rattle.std.specs.Prelude.{ℕ, List, [], ◌∷◌, Option, Result, Ok, Err}
use Rattle.pk_outside.specs.Streams.{Got}
use Rattle.history_lock.specs.Known.{Known}
use Rattle.history_lock.specs.declared.machine.EndCause.{EndCause}
use Rattle.authority_model.specs.declared.event.Event.{Event}
use Rattle.authority_model.specs.declared.journal.Item.{Item}
use Rattle.authority_model.specs.declared.journal.Limits.{Limits}
use Rattle.authority_model.specs.Given.{Given, event_given}
use Rattle.shared_authority.specs.Passes.{Entered, IsEnded}

-- It was entered; or it was refused, others' items came alone, and the lock has ended by a kept cause that the pass knows.
abbrev pub Enters : Limits → Known Item → Given → Known Item → {T : Type 0} → Result T EndCause → Type 0
Enters limits v g w (Ok done) = Entered v g w
Enters limits v g w (Err cause) = IsEnded limits v cause w

-- An event of the pass's connection was handed in, with one reading of the clock and one random word.
pub record HandsIn {T : Type 0} (limits : Limits) (event : Event) (v w : Known Item) (readings_before readings words_before words : Option (List ℕ)) (result : Result T EndCause) : Type 0 where
  pub moment : ℕ
  pub word : ℕ
  pub reading : Got readings_before readings (moment ∷ [])
  pub drawn : Got words_before words (word ∷ [])
  pub enters : Enters limits v (event_given v.number moment word event) w result
