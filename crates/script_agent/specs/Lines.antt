-- A connection of the agent: what it tells, and the same as plain lists.
use Rattle.std.specs.Prelude.{◌≡◌, ℕ, Bool, IsTrue, false, List, [], Option, None, Some, IfSome}
use Rattle.pk_outside.specs.Links.{Origin, bytes_of}
use Rattle.pk_outside.specs.Streams.{Gave, IsUsedUp}
use Rattle.dbus_values.specs.Next.{Seen}
use Rattle.authority_model.specs.Words.{Bytes}
use Rattle.dbus_values.specs.Streams.{Follow}
use Rattle.client_link.specs.Shakings.{BeginsIn}

-- What a connection tells now: where it is from, what it will still give and whether it has met the
-- end, what was written to it, what was read of it and not taken, how often each of its directions
-- failed, and how many messages were sent on it.
pub record LineNow : Type 0 where
  pub origin : Option Origin
  pub left : Option Bytes
  pub ended : Bool
  pub held : Option Bytes
  pub rest : Bytes
  pub read_faults : ℕ
  pub write_faults : ℕ
  pub sent : ℕ

-- A connection as plain lists: the path that was dialled, the bytes that were read, whether they are
-- all that it gives, the messages that were taken behind the handshake, the bytes behind these, and
-- the bytes that were written.
pub record LineStory : Type 0 where
  pub path : Bytes
  pub read : Bytes
  pub ended : Bool
  pub messages : List Seen
  pub rest : Bytes
  pub written : Bytes

-- these bytes are held, where it is told
abbrev pub Holds : Option Bytes → Bytes → Type 0
Holds None written = Unit {0}
Holds (Some held) written = held ≡ written

-- the story is that of the connection, as far as it tells it
pub record IsToldBy (now : LineNow) (story : LineStory) : Type 0 where
  pub gave : Gave (bytes_of now.origin) now.left story.read
  pub holds : Holds now.held story.written
  pub ended : IsTrue story.ended → IsTrue now.ended

-- It is the connection over a link from there, on which nothing was read or sent.
pub record IsNew (origin : Option Origin) (now : LineNow) : Type 0 where
  pub origin_is : now.origin ≡ origin
  pub left : now.left ≡ bytes_of origin
  pub held : IsUsedUp now.held
  pub rest : now.rest ≡ []
  pub reads : now.read_faults ≡ 0
  pub writes : now.write_faults ≡ 0
  pub sent : now.sent ≡ 0

-- What its two ends tell when it is given up.
pub record IsGivenBack (now : LineNow) (origin : Option Origin) (left held : Option Bytes) (read_faults write_faults : ℕ) : Type 0 where
  pub origin_is : origin ≡ now.origin
  pub left_is : left ≡ now.left
  pub held_is : held ≡ now.held
  pub reads : read_faults ≡ now.read_faults
  pub writes : write_faults ≡ now.write_faults

-- no direction of it failed
pub record IsSound (now : LineNow) : Type 0 where
  pub reads : now.read_faults ≡ 0
  pub writes : now.write_faults ≡ 0

-- The server accepted the client, these messages follow its line, and the rest follows them.
pub record IsBegun (story : LineStory) : Type 0 where
  pub behind : Bytes
  pub begun : BeginsIn story.read behind
  pub follow : Follow behind story.messages story.rest

-- a connection that was dialled, and nothing else
abbrev pub dialled : Bytes → LineStory
dialled path = record { path = path; read = []; ended = false; messages = []; rest = []; written = [] }
