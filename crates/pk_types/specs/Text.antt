-- Which bytes are a text.
use Rattle.std.specs.Prelude.{◌≡◌, ◌≢◌, ℕ, ◌==◌, Bool, ◌||◌, nat_lt, List, [], ◌∷◌, length, take, Option, None, Some, Result, Ok, Err, position, if◌then◌else◌}
use Rattle.std.specs.Str.Lossy.{utf8_valid_len}
use Rattle.pk_types.specs.declared.text.TheConstants.{MAX_TEXT}
use Rattle.pk_types.specs.declared.text.TextFault.{TextFault}
use Rattle.pk_types.specs.declared.text.TextFault.TheVariants as text_fault

-- no byte is 0
abbrev pub NoZero : List ℕ → Type 0
NoZero [] = Unit {0}
NoZero (b ∷ bytes) = (b ≢ 0) × NoZero bytes

-- the place that is there, or else the second one unless it is the end
abbrev pub place_or_end : Option ℕ → ℕ → ℕ → Option ℕ
place_or_end (Some at) valid end = Some at
place_or_end None valid end = if nat_lt valid end then Some valid else None

-- where the first byte stands that is 0 or that ends the longest front that is UTF-8
abbrev pub text_bad : List ℕ → Option ℕ
text_bad bytes = place_or_end (position (λ b. b == 0) (take (utf8_valid_len bytes) bytes)) (utf8_valid_len bytes) (length bytes)

-- the fault of a bad byte, where there is one
abbrev pub bad_byte_fault : Option ℕ → Option TextFault
bad_byte_fault (Some at) = Some (text_fault.BadByte at)
bad_byte_fault None = None

-- why the bytes are no text: too many, or a bad byte
abbrev pub text_fault_of : List ℕ → Option TextFault
text_fault_of bytes = if nat_lt MAX_TEXT (length bytes) then Some (text_fault.TooLong (length bytes)) else bad_byte_fault (text_bad bytes)

-- the bytes are a text
abbrev pub IsText : List ℕ → Type 0
IsText bytes = text_fault_of bytes ≡ None

-- the fault is the one that is due, and want of memory is free
abbrev pub TextFaultIs : TextFault → Option TextFault → Type 0
TextFaultIs text_fault.NoMemory due = Unit {0}
TextFaultIs fault due = due ≡ Some fault

-- the bytes are this text, or they are no text for this cause
abbrev pub TextIs : List ℕ → Result (List ℕ) TextFault → Type 0
TextIs bytes (Ok text) = (text ≡ bytes) × IsText bytes
TextIs bytes (Err fault) = TextFaultIs fault (text_fault_of bytes)

-- whether a byte is a space, a tab or an LF
abbrev pub is_blank : ℕ → Bool
is_blank b = (b == 32) || (b == 9) || (b == 10)
