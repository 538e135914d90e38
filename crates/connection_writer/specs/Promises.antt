-- What a connection may be sent, at each moment and whatever comes later.
use Rattle.std.specs.Prelude.{ℕ, List, Option}
use Rattle.authority_model.specs.declared.journal.Item.{Item}
use Rattle.authority_model.specs.declared.journal.Limits.{Limits}
use Rattle.authority_model.specs.Licensed.{AllLicensed}
use Rattle.connection_laws.specs.Doings.{Did}
use Rattle.history_lock.specs.Known.{Known}
use Rattle.pk_outside.specs.Allowing.{MayFronts}
use Rattle.shared_authority.specs.Journals.{IsJournal, past_of}
use Rattle.connection_writer.specs.declared.ends.WriterEnd.{WriterEnd}
use Rattle.connection_writer.specs.Writing.{StandsAt, collects_of, taken_texts}

-- Where this is held, each prefix of the messages to n that b has taken may be written: of each journal in which each yes is licensed, and in which b did nothing but collect for n.
abbrev pub MayAnswer : (List ℕ → Type 0) → Option (List ℕ) → ℕ → ℕ → Type 0
MayAnswer Allowed held b n = (h : List Item) (collects : ℕ) → IsJournal h → AllLicensed (past_of h) → Did b (past_of h) (collects_of b n collects) → MayFronts Allowed held (taken_texts (past_of h) b n)

-- Writing stands so since some beginning, and from there it may write what it is to write.
pub record Began (limits : Limits) (Allowed : List ℕ → Type 0) (n : ℕ) (held : Option (List ℕ)) (faults : ℕ) (w : Known Item) (end : Option WriterEnd) : Type 0 where
  pub held_first : Option (List ℕ)
  pub faults_first : ℕ
  pub pass_first : Known Item
  pub may : MayAnswer Allowed held_first pass_first.number n
  pub stands : StandsAt limits n held_first faults_first pass_first held faults w end
