-- "Message Format": the first 16 bytes, the fields and the body of a message.
use Rattle.std.specs.Prelude.{ℕ, ◌+◌, ◌==◌, nat_lt, Bool, true, false, if◌then◌else◌, List, [], length, take, drop, slice_index, Result, Ok, Err}
use Rattle.std.specs.Option.{unwrap_or}
use Rattle.std.specs.Int.{w32}
use Rattle.dbus_values.specs.declared.codes.TheConstants.{MAX_BODY, MAX_MESSAGE}
use Rattle.dbus_values.specs.declared.fault.Fault.{Fault}
use Rattle.dbus_values.specs.declared.fault.FaultKind.{FaultKind}
use Rattle.dbus_values.specs.declared.fault.FaultKind.TheVariants as fault
use Rattle.dbus_values.specs.declared.fault.Stop.{Stop}
use Rattle.dbus_values.specs.declared.fault.Stop.TheVariants as stop
use Rattle.dbus_values.specs.Reading.{◌>>=◌, bad, Spot}
use Rattle.dbus_values.specs.Basics.{gap, pad, number}
use Rattle.dbus_values.specs.Walk.{values_at}
use Rattle.dbus_values.specs.Header.{Header, no_fields, fields_at, lacks}

-- what the first 16 bytes say: the byte order, the message type, the flags, the length of the body, the
-- serial and the length of the array of header fields
pub record Start : Type 0 where
  pub big : Bool
  pub kind : ℕ
  pub flags : ℕ
  pub body : ℕ
  pub serial : ℕ
  pub fields : ℕ

-- the number of four bytes at a place
abbrev pub u32_of : Bool → List ℕ → ℕ → ℕ
u32_of big bytes at = number big w32 (take 4 (drop at bytes))

-- the length of the whole message
abbrev pub total : Start → ℕ
total s = 16 + (s.fields + gap 8 s.fields) + s.body

abbrev pub wrong : {A : Type 0} → FaultKind → ℕ → Result A Stop
wrong kind at = Err (stop.Bad (record { kind = kind; at = at }))

-- what is judged once so many bytes are there
abbrev pub needs : {A : Type 0} → ℕ → List ℕ → Result A Stop → Result A Stop
needs n bytes judged = if nat_lt (length bytes) n then Err stop.Partial else judged

-- the byte order: `l` or `B`
unfoldable pub order_of : List ℕ → Result Bool Stop
order_of bytes = needs 1 bytes (if slice_index bytes 0 == 108 then Ok false else (if slice_index bytes 0 == 66 then Ok true else wrong fault.Endian 0))

-- the message type, which is not 0
unfoldable pub kind_of : List ℕ → Result ℕ Stop
kind_of bytes = needs 2 bytes (if slice_index bytes 1 == 0 then wrong fault.Kind 1 else Ok (slice_index bytes 1))

-- the flags, before the protocol version 1
unfoldable pub flags_of : List ℕ → Result ℕ Stop
flags_of bytes = needs 4 bytes (if slice_index bytes 3 == 1 then Ok (slice_index bytes 2) else wrong fault.Version 3)

-- the length of the body
unfoldable pub body_of : Bool → List ℕ → Result ℕ Stop
body_of big bytes = needs 8 bytes (if nat_lt MAX_BODY (u32_of big bytes 4) then wrong fault.Length 4 else Ok (u32_of big bytes 4))

-- the serial, which is not 0
unfoldable pub serial_of : Bool → List ℕ → Result ℕ Stop
serial_of big bytes = needs 12 bytes (if u32_of big bytes 8 == 0 then wrong fault.Serial 8 else Ok (u32_of big bytes 8))

-- the length of the array of header fields; the whole message has at most 16,777,216 bytes
unfoldable pub fields_of : Bool → ℕ → List ℕ → Result ℕ Stop
fields_of big body bytes = needs 16 bytes
    (if nat_lt MAX_MESSAGE (16 + (u32_of big bytes 12 + gap 8 (u32_of big bytes 12)) + body) then wrong fault.Length 12 else Ok (u32_of big bytes 12))

-- The first 16 bytes, as far as they are there.
unfoldable pub start_of : List ℕ → Result Start Stop
start_of bytes = do
  big ← order_of bytes
  kind ← kind_of bytes
  flags ← flags_of bytes
  body ← body_of big bytes
  serial ← serial_of big bytes
  fields ← fields_of big body bytes
  Ok (record { big = big; kind = kind; flags = flags; body = body; serial = serial; fields = fields })

-- how many parts the body has, which is read by its signature to its last byte
unfoldable pub body_at : Bool → List ℕ → ℕ → List ℕ → Result ℕ Fault
body_at big sig at bytes = values_at 64 big sig at bytes >>= λ w. if length w.rest == 0 then Ok w.parts else bad fault.Length w.at

-- padding, and then the body
unfoldable pub padded_body : Bool → List ℕ → ℕ → List ℕ → Result (ℕ × Spot) Fault
padded_body big sig at bytes = do
  p ← pad 8 at bytes
  n ← body_at big sig p.at p.rest
  Ok (n, p)

-- the signature of the body, which is empty without a SIGNATURE
abbrev pub signature_of : Header → List ℕ
signature_of h = unwrap_or h.signature []

-- the fields and the body behind the first 16 bytes
unfoldable pub message_of : Start → List ℕ → Result (Header × (ℕ × Spot)) Fault
message_of s bytes = do
  h ← fields_at (length (take s.fields (drop 16 bytes))) s.big no_fields 16 (take s.fields (drop 16 bytes))
  if lacks s.kind h then bad fault.Fields 12 else (do
    b ← padded_body s.big (signature_of h) (16 + s.fields) (take (gap 8 s.fields + s.body) (drop s.fields (drop 16 bytes)))
    Ok (h, b))
