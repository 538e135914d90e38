-- "Header Fields": what the fields of a header say, one field after the other.
use Rattle.std.specs.Prelude.{ℕ, zero, suc, ◌==◌, ◌||◌, ◌&&◌, nat_lt, Bool, true, false, not, if◌then◌else◌, List, [], ◌∷◌, length, slice_index, Option, Some, None, is_some, Result, Ok}
use Rattle.std.specs.Option.{option_map}
use Rattle.std.specs.Int.{w32}
use Rattle.dbus_values.specs.declared.fault.Fault.{Fault}
use Rattle.dbus_values.specs.declared.fault.FaultKind.TheVariants as fault
use Rattle.dbus_values.specs.declared.fields.Fields.{Fields}
use Rattle.dbus_values.specs.Reading.{◌>>=◌, bad, Spot, spot_at}
use Rattle.dbus_values.specs.Types.{class_of, align_of}
use Rattle.dbus_values.specs.Basics.{pad, byte_at, number_at, string_at, signature_at}
use Rattle.dbus_values.specs.Walk.{values_at}

-- the fields that a header has: the value, or for some only that the field is there
pub record Header : Type 0 where
  pub path : Option (List ℕ)
  pub interface : Option (List ℕ)
  pub member : Option (List ℕ)
  pub error_name : Option (List ℕ)
  pub reply_serial : Option ℕ
  pub destination : Bool
  pub sender : Bool
  pub signature : Option (List ℕ)
  pub unix_fds : Bool

abbrev pub header : Fields → Header
header f = record {
  path = option_map (λ b. b.now) f.path;
  interface = option_map (λ b. b.now) f.interface;
  member = option_map (λ b. b.now) f.member;
  error_name = option_map (λ b. b.now) f.error_name;
  reply_serial = f.reply_serial;
  destination = f.destination;
  sender = f.sender;
  signature = option_map (λ b. b.now) f.signature;
  unix_fds = f.unix_fds;
}

abbrev pub no_fields : Header
no_fields = record { path = None; interface = None; member = None; error_name = None; reply_serial = None; destination = false; sender = false; signature = None; unix_fds = false }

-- whether the header has the field of this code already
abbrev pub has : Header → ℕ → Bool
has h c = if c == 1 then is_some h.path else (if c == 2 then is_some h.interface else (if c == 3 then is_some h.member else (if c == 4 then is_some h.error_name else
    (if c == 5 then is_some h.reply_serial else (if c == 6 then h.destination else (if c == 7 then h.sender else (if c == 8 then is_some h.signature else (if c == 9 then h.unix_fds else false))))))))

-- the header with a field of a text type
abbrev pub put_text : Header → ℕ → List ℕ → Header
put_text h c text = if c == 1 then record h { path = Some text } else (if c == 2 then record h { interface = Some text } else (if c == 3 then record h { member = Some text } else (if c == 4 then record h { error_name = Some text } else
    (if c == 6 then record h { destination = true } else (if c == 7 then record h { sender = true } else (if c == 8 then record h { signature = Some text } else h))))))

-- the header with a field of type u
abbrev pub put_number : Header → ℕ → ℕ → Header
put_number h c n = if c == 5 then record h { reply_serial = Some n } else (if c == 9 then record h { unix_fds = true } else h)

-- the type code of a known field: PATH o, REPLY_SERIAL and UNIX_FDS u, SIGNATURE g, the others s
abbrev pub type_code : ℕ → ℕ
type_code c = if c == 1 then 111 else (if (c == 5) || (c == 9) then 117 else (if c == 8 then 103 else 115))

-- a field of type u, the structure of which begins at `start`; REPLY_SERIAL is not 0
unfoldable pub number_field : Bool → ℕ → ℕ → Header → ℕ → List ℕ → Result (Header × Spot) Fault
number_field big start c h at bytes = do
  p ← pad 4 at bytes
  (n, behind) ← number_at big w32 p.at p.rest
  if (c == 5) && (n == 0) then bad fault.Fields start else Ok (put_number h c n, behind)

-- a field of a text type
unfoldable pub text_field : Bool → ℕ → Header → ℕ → List ℕ → Result (Header × Spot) Fault
text_field big c h at bytes = do
  p ← pad (align_of (class_of (type_code c))) at bytes
  (text, behind) ← string_at (class_of (type_code c)) big p.at p.rest
  Ok (put_text h c text, behind)

-- a known field behind its code: a variant of the field's type
unfoldable pub known_field : Bool → ℕ → ℕ → Header → ℕ → List ℕ → Result (Header × Spot) Fault
known_field big start c h at bytes = do
  (sig, value) ← signature_at at bytes
  if not (length sig == 1) || not (slice_index sig 0 == type_code c) then bad fault.Fields start else
      (if type_code c == 117 then number_field big start c h value.at value.rest else text_field big c h value.at value.rest)

-- An unknown field behind its code: a variant, which is passed over. It stands in an array and a structure,
-- so at most 62 more containers stand inside each other, the variant too.
unfoldable pub passed_field : Bool → ℕ → List ℕ → Result Spot Fault
passed_field big at bytes = values_at 62 big (118 ∷ []) at bytes >>= λ w. Ok (spot_at w.at w.rest)

-- A field: no code is 0, and no known code comes twice.
unfoldable pub field_at : Bool → Header → ℕ → List ℕ → Result (Header × Spot) Fault
field_at big h at bytes = do
  p ← pad 8 at bytes
  (c, value) ← byte_at p.at p.rest
  if (c == 0) || has h c then bad fault.Fields p.at else
      (if nat_lt c 10 then known_field big p.at c h value.at value.rest else (passed_field big value.at value.rest >>= λ behind. Ok (h, behind)))

-- The fields up to the end of the bytes. The steps count down.
unfoldable pub fields_at : ℕ → Bool → Header → ℕ → List ℕ → Result Header Fault
fields_at zero big h at bytes = if length bytes == 0 then Ok h else bad fault.Length at
fields_at (suc n) big h at bytes = if length bytes == 0 then Ok h else field_at big h at bytes >>= λ (with_field, behind). fields_at n big with_field behind.at behind.rest

-- Whether a field that such a message needs lacks: a call needs PATH and MEMBER, a return REPLY_SERIAL, an
-- error ERROR_NAME and REPLY_SERIAL, a signal PATH, INTERFACE and MEMBER.
abbrev pub lacks : ℕ → Header → Bool
lacks kind h =
    if kind == 1 then not (is_some h.path) || not (is_some h.member) else
    (if kind == 2 then not (is_some h.reply_serial) else
    (if kind == 3 then not (is_some h.error_name) || not (is_some h.reply_serial) else
    (if kind == 4 then not (is_some h.path) || not (is_some h.interface) || not (is_some h.member) else false)))
