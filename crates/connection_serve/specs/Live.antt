-- What a connection did that may look at processes, besides what one does that never looks.
use Rattle.std.specs.Prelude.{◌≡◌, ◌⊎◌, ⊤, ℕ, List, [], ◌++◌, Option, None, Some, length, map}
use Rattle.authority_calls.specs.Events.{event_of}
use Rattle.authority_model.specs.declared.journal.Item.{Item}
use Rattle.connection_laws.specs.Doings.{Did}
use Rattle.connection_lookout.specs.Watching.{Watch, Watched, own}
use Rattle.connection_serve.specs.Headline.{Story, Tells, sent_texts}
use Rattle.history_lock.specs.Known.{Known}
use Rattle.pk_outside.specs.Streams.{Got}
use Rattle.shared_authority.specs.Journals.{past_of}

-- The messages began: the connection's items in the history are those of its story, and the sighter looked before what its messages ask.
pub record LooksBefore (uid number : ℕ) (H : List Item) (v w : Option Watch) : Type 0 where
  pub stream : List ℕ
  pub story : Story
  pub tells : Tells uid number stream H story
  pub watched : Watched (own number (length story.entered) H) (map event_of story.messages) v w

-- The connection has no item in the history, and the sighter did not look; or the messages began.
abbrev pub HasLooked : ℕ → ℕ → List Item → Option Watch → Option Watch → Type 0
HasLooked uid number H v w = (Did number (past_of H) [] × Watched (own number 0 H) [] v w) ⊎ LooksBefore uid number H v w

-- A sighter knows what the pass knows.
abbrev pub KnowsSame : Known Item → Option Watch → Type 0
KnowsSame p None = ⊤
KnowsSame p (Some w) = (w.pass.history ≡ p.history) × (w.pass.made ≡ p.made) × (w.pass.ended ≡ p.ended)

-- Replies to the handshake were written, and then all that was sent to the connection.
abbrev pub WroteAll : ℕ → List Item → Option (List ℕ) → Option (List ℕ) → Type 0
WroteAll number H held_before held = (replies : List ℕ) × Got held_before held (replies ++ sent_texts (past_of H) number)
