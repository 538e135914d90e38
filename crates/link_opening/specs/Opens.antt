-- What an opening says: of the bytes that were read, of the replies that were written for them, and of the bytes that are left.
use Rattle.std.specs.Prelude.{◌≡◌, ℕ, List, ◌++◌, Option, Bool, IsTrue}
use Rattle.pk_outside.specs.Causes.{FailsLast}
use Rattle.pk_outside.specs.Streams.{Gave, Got, GotFront}
use Rattle.link_handshake.specs.Shakes.{Standing, Open, Begun, Failed, shake}
use Rattle.link_handshake.specs.Replies.{reply_lines}
use Rattle.link_handshake.specs.declared.server.ShakeReply.{ShakeReply}
use Rattle.link_opening.specs.declared.ends.Opening.{Opening}
use Rattle.link_opening.specs.declared.ends.Opening.TheVariants as opening
use Rattle.link_opening.specs.declared.ends.ShakeStop.{ShakeStop}
use Rattle.link_opening.specs.declared.ends.ShakeStop.TheVariants as stop

-- The client's bytes settle the handshake, whatever follows them: it has these replies, which were all written, and it stands so.
pub record Settles (door guid : ℕ) (bytes : List ℕ) (before held : Option (List ℕ)) (standing : List ℕ → Standing) : Type 0 where
  pub replies : List ShakeReply
  pub answered : (more : List ℕ) → shake door (bytes ++ more) ≡ record { replies = replies; standing = standing more }
  pub wrote : Got before held (reply_lines guid replies)

-- The handshake awaits more than the client's bytes, and all replies to them were written.
pub record Awaits (door guid : ℕ) (bytes : List ℕ) (before held : Option (List ℕ)) : Type 0 where
  pub standing : (shake door bytes).standing ≡ Open
  pub wrote : Got before held (reply_lines guid (shake door bytes).replies)

-- A prefix of the replies to the client's bytes was written.
abbrev pub WroteFront : ℕ → ℕ → List ℕ → Option (List ℕ) → Option (List ℕ) → Type 0
WroteFront door guid bytes before held = GotFront before held (reply_lines guid (shake door bytes).replies)

-- how the opening ended, where the client's bytes are these and the rest is left
abbrev pub EndsSo : ℕ → ℕ → List ℕ → Bool → Option (List ℕ) → Option (List ℕ) → List ℕ → Opening → Type 0
EndsSo door guid bytes ended before held rest opening.Begun = Settles door guid bytes before held (λ more. Begun (rest ++ more))
EndsSo door guid bytes ended before held rest (opening.BadShake fault) = Settles door guid bytes before held (λ more. Failed fault)
EndsSo door guid bytes ended before held rest opening.Cut = Awaits door guid bytes before held × IsTrue ended
EndsSo door guid bytes ended before held rest opening.ReadFault = Awaits door guid bytes before held
EndsSo door guid bytes ended before held rest opening.WriteFault = WroteFront door guid bytes before held
EndsSo door guid bytes ended before held rest opening.NoMemory = WroteFront door guid bytes before held

-- The opening of a link. The client's bytes are the first, which were there, and those that were read.
pub record Opens (door guid : ℕ) (first : List ℕ) (left_before left : Option (List ℕ)) (ended : Bool) (held_before held : Option (List ℕ)) (rest : List ℕ) (result : Opening) : Type 0 where
  pub read : List ℕ
  pub gave : Gave left_before left read
  pub ends : EndsSo door guid (first ++ read) ended held_before held rest result

-- A read fault was counted by the last read of the source, and by no read before it. Every other answer leaves the count, want of memory too.
abbrev pub ReadFaults : {S : Type 0} → (S → Option (List ℕ)) → (S → ℕ) → S → S → Opening → Type 0
ReadFaults left faults before now opening.ReadFault = FailsLast left faults before now
ReadFaults left faults before now other = faults now ≡ faults before

-- A write fault was counted by the last write to the sink, and by no write before it. Every other answer leaves the count.
abbrev pub WriteFaults : {S : Type 0} → (S → Option (List ℕ)) → (S → ℕ) → S → S → Opening → Type 0
WriteFaults held faults before now opening.WriteFault = FailsLast held faults before now
WriteFaults held faults before now other = faults now ≡ faults before

-- how the opening ends where the handshake is fed no further
abbrev pub opening_of : ShakeStop → Opening
opening_of stop.Begun = opening.Begun
opening_of (stop.Fault fault) = opening.BadShake fault
opening_of stop.WriteFault = opening.WriteFault
