-- Padding, numbers and texts from the front of the bytes that are left: "Marshaling Basic Types",
-- "Valid Object Paths" and "Valid Signatures".
use Rattle.std.specs.Prelude.{ℕ, zero, suc, ◌+◌, ◌-◌, ◌%◌, ◌==◌, ◌&&◌, ◌||◌, nat_lt, nat_le, Bool, true, false, not, if◌then◌else◌, List, [], ◌∷◌, length, take, drop, slice_index, Result, Ok}
use Rattle.std.specs.Int.{Width, w16, w32, w64, byte_len, from_be_bytes, from_le_bytes}
use Rattle.std.specs.List.{list_any}
use Rattle.std.specs.Str.{is_utf8}
use Rattle.dbus_values.specs.declared.class.Class.{Class}
use Rattle.dbus_values.specs.declared.class.Class.TheVariants as class
use Rattle.dbus_values.specs.declared.fault.Fault.{Fault}
use Rattle.dbus_values.specs.declared.fault.FaultKind.TheVariants as fault
use Rattle.dbus_values.specs.Signatures.{is_signature}
use Rattle.dbus_values.specs.Reading.{◌>>=◌, bad, Spot, spot_at}
use Rattle.dbus_values.specs.Parts.{Piece}
use Rattle.dbus_values.specs.Parts as part

-- how far it is to the next multiple of n
abbrev pub gap : ℕ → ℕ → ℕ
gap n at = (n - at % n) % n

-- What follows so many bytes 0. Where they are cut off, the fault is at the place behind them.
unfoldable pub zeros : ℕ → ℕ → List ℕ → Result Spot Fault
zeros zero at bytes = Ok (spot_at at bytes)
zeros (suc n) at [] = bad fault.Length (at + suc n)
zeros (suc n) at (b ∷ bytes) = if b == 0 then zeros n (at + 1) bytes else bad fault.Padding at

-- what follows the padding up to the next multiple of n
abbrev pub pad : ℕ → ℕ → List ℕ → Result Spot Fault
pad n at bytes = zeros (gap n at) at bytes

-- the unsigned number that these bytes are, in either byte order
abbrev pub number : Bool → Width → List ℕ → ℕ
number big w bytes = if big then from_be_bytes w bytes else from_le_bytes w bytes

unfoldable pub number_at : Bool → Width → ℕ → List ℕ → Result (ℕ × Spot) Fault
number_at big w at bytes =
    if nat_lt (length bytes) (byte_len w) then bad fault.Length at
    else Ok (number big w (take (byte_len w) bytes), spot_at (at + byte_len w) (drop (byte_len w) bytes))

unfoldable pub byte_at : ℕ → List ℕ → Result (ℕ × Spot) Fault
byte_at at [] = bad fault.Length at
byte_at at (b ∷ bytes) = Ok (b, spot_at (at + 1) bytes)

-- n bytes and the byte 0 behind them, of a text that begins with its length at `at`
unfoldable pub ended : ℕ → ℕ → ℕ → List ℕ → Result (List ℕ × Spot) Fault
ended at n here bytes =
    if nat_lt n (length bytes) then
    (if slice_index bytes n == 0 then Ok (take n bytes, spot_at (here + n + 1) (drop (n + 1) bytes)) else bad fault.Text at)
    else bad fault.Length at

-- UTF-8 without a byte 0
abbrev pub is_text : List ℕ → Bool
is_text bytes = not (list_any (λ b. b == 0) bytes) && is_utf8 bytes

-- a text behind its length
unfoldable pub text_at : Bool → ℕ → List ℕ → Result (List ℕ × Spot) Fault
text_at big at bytes = do
  (n, begin) ← number_at big w32 at bytes
  (text, behind) ← ended at n begin.at begin.rest
  if is_text text then Ok (text, behind) else bad fault.Text at

-- a letter, a digit or _
abbrev pub is_path_byte : ℕ → Bool
is_path_byte b = (nat_le 97 b && nat_le b 122) || (nat_le 65 b && nat_le b 90) || (nat_le 48 b && nat_le b 57) || (b == 95)

-- the rest of a path, behind a / or not: no part is empty
abbrev pub path_goes_on : Bool → List ℕ → Bool
path_goes_on slash [] = not slash
path_goes_on slash (b ∷ path) = if b == 47 then (not slash && path_goes_on true path) else (is_path_byte b && path_goes_on false path)

-- / alone, or parts with / before each
abbrev pub is_path : List ℕ → Bool
is_path [] = false
is_path (b ∷ []) = b == 47
is_path (b ∷ c ∷ path) = (b == 47) && path_goes_on true (c ∷ path)

-- a signature behind its length, which is one byte
unfoldable pub signature_at : ℕ → List ℕ → Result (List ℕ × Spot) Fault
signature_at at bytes = do
  (n, begin) ← byte_at at bytes
  (sig, behind) ← ended at n begin.at begin.rest
  if is_signature sig then Ok (sig, behind) else bad fault.Text at

-- a text, an object path or a signature, from its first byte
unfoldable pub string_at : Class → Bool → ℕ → List ℕ → Result (List ℕ × Spot) Fault
string_at class.Text big at bytes = text_at big at bytes
string_at class.Path big at bytes = text_at big at bytes >>= λ (path, behind). if is_path path then Ok (path, behind) else bad fault.Text at
string_at class.Signature big at bytes = signature_at at bytes
string_at _ big at bytes = bad fault.Text at

-- a value of a basic type, from its first byte
unfoldable pub leaf_at : Class → Bool → ℕ → ℕ → List ℕ → Result (Piece × Spot) Fault
leaf_at class.Byte big c at bytes = byte_at at bytes >>= λ (n, behind). Ok (part.Number c n, behind)
leaf_at class.Half big c at bytes = number_at big w16 at bytes >>= λ (n, behind). Ok (part.Number c n, behind)
leaf_at class.Boolean big c at bytes = number_at big w32 at bytes >>= λ (n, behind). if nat_lt n 2 then Ok (part.Number c n, behind) else bad fault.Bool at
leaf_at class.Word big c at bytes = number_at big w32 at bytes >>= λ (n, behind). Ok (part.Number c n, behind)
leaf_at class.Long big c at bytes = number_at big w64 at bytes >>= λ (n, behind). Ok (part.Number c n, behind)
leaf_at k big c at bytes = string_at k big at bytes >>= λ (text, behind). Ok (part.Text c text, behind)
