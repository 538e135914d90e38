-- What the writing half of a connection has done. Its pass stood for v and stands for w, and n is the number of the connection.
use Rattle.std.specs.Prelude.{◌≡◌, ℕ, ◌+◌, ◌<◌, ◌≤◌, zero, suc, Bool, true, false, List, [], ◌∷◌, ◌++◌, Option, None, Some, Result, Ok, Err, length}
use Rattle.history_lock.specs.Known.{Known}
use Rattle.authority_core.specs.declared.collecting.Batch.{Batch}
use Rattle.authority_laws.specs.Batches.{AreSendable, collect_given, greatest_load, loads_in, taken}
use Rattle.authority_messages.specs.Texts.{texts}
use Rattle.authority_model.specs.declared.journal.Item.{Item}
use Rattle.authority_model.specs.declared.journal.Limits.{Limits}
use Rattle.authority_model.specs.Given.{Given}
use Rattle.authority_model.specs.Peers.{departed}
use Rattle.authority_model.specs.Sent.{sent_to}
use Rattle.connection_laws.specs.Doings.{Did}
use Rattle.connection_laws.specs.Knowing.{KnowsMore}
use Rattle.connection_laws.specs.Takings.{Finds}
use Rattle.pk_outside.specs.Causes.{Rose}
use Rattle.pk_outside.specs.Streams.{Got, GotFront}
use Rattle.shared_authority.specs.Journals.{Fits, past_of}
use Rattle.connection_writer.specs.declared.ends.WriterEnd.{WriterEnd}
use Rattle.connection_writer.specs.declared.ends.WriterEnd.TheVariants as writer
use Rattle.pk_types.specs.declared.decimals.TheConstants.{MAX_NUMBER}

-- so many Collects of n by the connection b
abbrev pub collects_of : ℕ → ℕ → ℕ → List Given
collects_of b n zero = []
collects_of b n (suc k) = collects_of b n k ++ collect_given b n ∷ []

-- the messages of the outputs to n that the connection b has taken; they have the serials 1, 2, and so on
abbrev pub taken_texts : List Item → ℕ → ℕ → List ℕ
taken_texts past b n = texts (loads_in past) 1 (taken past b n)

-- The pass made nothing but Collects of n. Each found outputs, but the last where `gone` says so. What was written is as P says of the messages of what it has taken.
pub record Writing (gone : Bool) (P : List ℕ → Type 0) (n : ℕ) (v w : Known Item) : Type 0 where
  pub knows : KnowsMore v w
  pub collects : ℕ
  pub did : Did v.number (past_of w.history) (collects_of v.number n collects)
  pub finds : Finds v.number n (past_of w.history) gone
  pub wrote : P (taken_texts (past_of w.history) v.number n)

-- The connection has departed, and all that was sent to it was taken.
pub record HasGone (n : ℕ) (v w : Known Item) : Type 0 where
  pub all : sent_to (past_of w.history) n ≡ taken (past_of w.history) v.number n
  pub departed : departed (past_of w.history) n ≡ true

-- How writing has ended. The two counts are those of the sink's faults.
abbrev pub WritesTo : Limits → ℕ → Option (List ℕ) → ℕ → Known Item → Option (List ℕ) → ℕ → Known Item → WriterEnd → Type 0
WritesTo limits n held faults v held' faults' w writer.All = Writing true (Got held held') n v w × HasGone n v w
WritesTo limits n held faults v held' faults' w (writer.Ended cause) = Writing false (Got held held') n v w × Fits limits cause w.history w.made × (w.ended ≡ Some cause)
WritesTo limits n held faults v held' faults' w writer.WriteFault = Writing false (GotFront held held') n v w × Rose faults faults'
WritesTo limits n held faults v held' faults' w writer.NoMemory = Writing false (GotFront held held') n v w

-- a pass that stands for nothing; no writing begins with it
abbrev pub no_pass : Known Item
no_pass = record { number = 0; history = []; made = 0; ended = None }

-- how writing has ended, if it has
abbrev pub end_in : {A : Type 0} → Result A WriterEnd → Option WriterEnd
end_in (Ok more) = None
end_in (Err end) = Some end

-- Where writing stands: it goes on, and all that was taken was written; or it has ended so. The pass stood for v when it began, and the two counts are those of the sink's faults.
abbrev pub StandsAt : Limits → ℕ → Option (List ℕ) → ℕ → Known Item → Option (List ℕ) → ℕ → Known Item → Option WriterEnd → Type 0
StandsAt limits n held faults v held' faults' w None = Writing false (Got held held') n v w × (faults ≤ faults')
StandsAt limits n held faults v held' faults' w (Some end) = WritesTo limits n held faults v held' faults' w end

-- A batch can be written: its loads are there, its numbers fit 32 bits, and its messages are for a connection.
pub record IsWritable (b : Batch) : Type 0 where
  pub first : 0 < b.from
  pub few : b.from + length b.outputs ≤ MAX_NUMBER
  pub named : greatest_load b.outputs ≤ length b.loads
  pub sendable : AreSendable b.outputs
