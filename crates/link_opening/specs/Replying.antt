-- What may be replied to the client's bytes, at each moment and whatever follows them.
use Rattle.std.specs.Prelude.{ℕ, List, ◌++◌, Option}
use Rattle.pk_outside.specs.Allowing.{MayFronts}
use Rattle.link_handshake.specs.Shakes.{shake}
use Rattle.link_handshake.specs.Machines.{Shaking}
use Rattle.link_handshake.specs.Replies.{reply_lines}
use Rattle.link_opening.specs.Feeds.{Fed, Underway}

-- Where this is held, each prefix of the replies to these bytes and any others may be written.
abbrev pub MayReply : (List ℕ → Type 0) → Option (List ℕ) → ℕ → ℕ → List ℕ → Type 0
MayReply Allowed held door guid first = (more : List ℕ) → MayFronts Allowed held (reply_lines guid (shake door (first ++ more)).replies)

-- The handshake was fed some bytes since some beginning. The next bytes are these, and the replies to all of them, and to what follows, may be written.
pub record IsFed (Allowed : List ℕ → Type 0) (guid : ℕ) (next : List ℕ) (held : Option (List ℕ)) (h : Shaking) : Type 0 where
  pub door : ℕ
  pub bytes : List ℕ
  pub before : Option (List ℕ)
  pub fed : Fed door guid bytes before held h
  pub rest : List ℕ
  pub may : MayFronts Allowed before (reply_lines guid (shake door ((bytes ++ next) ++ rest)).replies)

-- The opening goes on since some beginning, and from there what is replied may be written.
pub record MayGoOn (Allowed : List ℕ → Type 0) (guid : ℕ) (left held : Option (List ℕ)) (buffer : List ℕ) (h : Shaking) : Type 0 where
  pub door : ℕ
  pub first : List ℕ
  pub left_before : Option (List ℕ)
  pub held_before : Option (List ℕ)
  pub underway : Underway door guid first left_before left held_before held buffer h
  pub may : MayReply Allowed held_before door guid first
