-- What a stream of bytes begins with.
use Rattle.std.specs.Prelude.{ℕ, nat_lt, if◌then◌else◌, List, [], length, Option, Result, Ok, Err}
use Rattle.std.specs.Option.{option_map}
use Rattle.dbus_values.specs.declared.fault.Fault.{Fault}
use Rattle.dbus_values.specs.declared.fault.FaultKind.{FaultKind}
use Rattle.dbus_values.specs.declared.fault.Stop.{Stop}
use Rattle.dbus_values.specs.declared.fault.Stop.TheVariants as stop
use Rattle.dbus_values.specs.declared.wire_message.WireMessage.{WireMessage}
use Rattle.dbus_values.specs.declared.message.Next.{Next}
use Rattle.dbus_values.specs.declared.message.Next.TheVariants as next
use Rattle.dbus_values.specs.Reading.{Spot}
use Rattle.dbus_values.specs.Parts.{Piece}
use Rattle.dbus_values.specs.Walk.{parts, state}
use Rattle.dbus_values.specs.Header.{Header}
use Rattle.dbus_values.specs.Messages.{Start, total, start_of, signature_of, message_of}

-- a message as it is shown: its header values, and the parts of its body one by one
pub record Seen : Type 0 where
  pub kind : ℕ
  pub flags : ℕ
  pub serial : ℕ
  pub path : Option (List ℕ)
  pub interface : Option (List ℕ)
  pub member : Option (List ℕ)
  pub error_name : Option (List ℕ)
  pub reply_serial : Option ℕ
  pub signature : List ℕ
  pub parts : List Piece

-- the parts of a message's body
abbrev pub parts_of : WireMessage → List Piece
parts_of m = parts m.parts 64 m.big (state [] m.signature.now m.body.at m.body.rest.now)

abbrev pub seen : WireMessage → Seen
seen m = record {
  kind = m.kind;
  flags = m.flags;
  serial = m.serial;
  path = option_map (λ b. b.now) m.path;
  interface = option_map (λ b. b.now) m.interface;
  member = option_map (λ b. b.now) m.member;
  error_name = option_map (λ b. b.now) m.error_name;
  reply_serial = m.reply_serial;
  signature = m.signature.now;
  parts = parts_of m;
}

-- what is at the front: a whole message of so many bytes, less than one, or the first fault and its place
pub data Answer : Type 0 where
  Whole : Seen → ℕ → Answer
  Partial : Answer
  Bad : FaultKind → ℕ → Answer

abbrev pub answer : Next → Answer
answer (next.Whole m used) = Whole (seen m) used
answer next.Partial = Partial
answer (next.Bad kind at) = Bad kind at

-- a message of these fields, of a body with so many parts from this place
abbrev pub shown : Start → Header → ℕ → Spot → Seen
shown s h n p = record {
  kind = s.kind;
  flags = s.flags;
  serial = s.serial;
  path = h.path;
  interface = h.interface;
  member = h.member;
  error_name = h.error_name;
  reply_serial = h.reply_serial;
  signature = signature_of h;
  parts = parts n 64 s.big (state [] (signature_of h) p.at p.rest);
}

abbrev pub message_on : Start → Result (Header × (ℕ × Spot)) Fault → Answer
message_on s (Ok (h, (n, body))) = Whole (shown s h n body) (total s)
message_on s (Err e) = Bad e.kind e.at

abbrev pub start_on : List ℕ → Result Start Stop → Answer
start_on bytes (Err stop.Partial) = Partial
start_on bytes (Err (stop.Bad e)) = Bad e.kind e.at
start_on bytes (Ok s) = if nat_lt (length bytes) (total s) then Partial else message_on s (message_of s bytes)

-- What the bytes begin with. Less than a message is there where fewer bytes than 16, or than the whole
-- length, are there, and those of the first 16 that are there show no fault.
abbrev pub next_of : List ℕ → Answer
next_of bytes = start_on bytes (start_of bytes)
