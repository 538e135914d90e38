-- How far a handshake has come, over all bytes that it was fed.
use Rattle.std.specs.Prelude.{◌≡◌, ℕ, List, [], ◌++◌, Option, None}
use Rattle.pk_outside.specs.Causes.{FailsLast}
use Rattle.pk_outside.specs.Streams.{Gave, Got}
use Rattle.link_handshake.specs.Shakes.{Open, Begun, Failed, Shaken, silent, shake}
use Rattle.link_handshake.specs.Machines.{Shaking, to_come, over}
use Rattle.link_handshake.specs.Replies.{reply_lines}
use Rattle.link_handshake.specs.declared.server.ShakeReply.{ShakeReply}
use Rattle.link_opening.specs.declared.ends.ShakeStop.{ShakeStop}
use Rattle.link_opening.specs.declared.ends.ShakeStop.TheVariants as stop
use Rattle.link_opening.specs.Opens.{Settles, WroteFront}

-- replies, and then what is answered further
abbrev pub replies_first : List ShakeReply → Shaken → Shaken
replies_first replies shaken = record { replies = replies ++ shaken.replies; standing = shaken.standing }

-- The handshake was fed these bytes and awaits more. All that it replied was written.
pub record Fed (door guid : ℕ) (bytes : List ℕ) (before held : Option (List ℕ)) (h : Shaking) : Type 0 where
  pub goes_on : over h ≡ None
  pub waits : to_come h [] ≡ silent Open
  pub replies : List ShakeReply
  pub answered : (more : List ℕ) → shake door (bytes ++ more) ≡ replies_first replies (to_come h more)
  pub wrote : Got before held (reply_lines guid replies)

-- Why it is fed no further than these bytes.
abbrev pub StopsAt : ℕ → ℕ → List ℕ → Option (List ℕ) → Option (List ℕ) → ShakeStop → Type 0
StopsAt door guid bytes before held stop.Begun = Settles door guid bytes before held (λ more. Begun more)
StopsAt door guid bytes before held (stop.Fault fault) = Settles door guid bytes before held (λ more. Failed fault)
StopsAt door guid bytes before held stop.WriteFault = (more : List ℕ) → WroteFront door guid (bytes ++ more) before held

-- A write fault was counted by the last write. Every other stop leaves the count.
abbrev pub StopFaults : {S : Type 0} → (S → Option (List ℕ)) → (S → ℕ) → S → S → ShakeStop → Type 0
StopFaults held faults before now stop.WriteFault = FailsLast held faults before now
StopFaults held faults before now other = faults now ≡ faults before

-- The opening goes on: of the client's bytes, the first and those that were read, the handshake was fed all but what the buffer holds.
pub record Underway (door guid : ℕ) (first : List ℕ) (left_before left held_before held : Option (List ℕ)) (buffer : List ℕ) (h : Shaking) : Type 0 where
  pub read : List ℕ
  pub gave : Gave left_before left read
  pub bytes : List ℕ
  pub all : first ++ read ≡ bytes ++ buffer
  pub fed : Fed door guid bytes held_before held h
