-- What the words of a line say.
use Rattle.std.specs.Prelude.{ℕ, Bool, true, false, ◌-◌, ◌^◌, ◌==◌, ◌&&◌, List, [], ◌∷◌, length, Option, None, Some, Result, Ok, Err, codes, is_none, if◌then◌else◌}
use Rattle.std.specs.Str.{bytes_eq}
use Rattle.pk_types.specs.ActionId.{id_fault_of}
use Rattle.pk_types.specs.Decimals.{decimal_up_to}
use Rattle.pk_types.specs.Text.{text_fault_of}
use Rattle.pk_types.specs.Values.{implicit_of_word}
use Rattle.pk_types.specs.declared.values.Implicit.{Implicit}
use Rattle.pk_types.specs.Pieces.{pieces_of}
use Rattle.scenario_text.specs.declared.fault.LineKind.{LineKind}
use Rattle.scenario_text.specs.declared.fault.LineKind.TheVariants as kind
use Rattle.scenario_text.specs.Faults.{◌>>=◌, or_fault}
use Rattle.pk_types.specs.declared.decimals.TheConstants.{MAX_NUMBER}

-- a number up to the greatest
abbrev pub number_in : ℕ → List ℕ → Result ℕ LineKind
number_in greatest word = or_fault kind.Number (decimal_up_to greatest word)

-- a number of 32 bits
unfoldable pub number_32_in : List ℕ → Result ℕ LineKind
number_32_in word = number_in MAX_NUMBER word

-- a number of 64 bits
unfoldable pub number_64_in : List ℕ → Result ℕ LineKind
number_64_in word = number_in (2 ^ 64 - 1) word

-- a number above 0
abbrev pub positive : ℕ → Result ℕ LineKind
positive n = if n == 0 then Err kind.Number else Ok n

-- a number from 1 up to the greatest
abbrev pub positive_in : ℕ → List ℕ → Result ℕ LineKind
positive_in greatest word = number_in greatest word >>= positive

-- the number of a connection
unfoldable pub caller_in : List ℕ → Result ℕ LineKind
caller_in word = positive_in 1048575 word

-- the serial of a message
unfoldable pub serial_in : List ℕ → Result ℕ LineKind
serial_in word = positive_in MAX_NUMBER word

-- an implicit value
unfoldable pub implicit_in : List ℕ → Result Implicit LineKind
implicit_in word = or_fault kind.Value (implicit_of_word word)

-- an implicit value that is optional: `-` for none
unfoldable pub optional_implicit_in : List ℕ → Result (Option Implicit) LineKind
optional_implicit_in word = if bytes_eq word (codes "-") then Ok None else implicit_in word >>= (λ value. Ok (Some value))

-- whether one of three words stands for a value, so that not each of them is `-`
unfoldable pub some_value_in : List ℕ → List ℕ → List ℕ → Result Bool LineKind
some_value_in any inactive active = if bytes_eq any (codes "-") && bytes_eq inactive (codes "-") && bytes_eq active (codes "-") then Err kind.Value else Ok true

-- a text
abbrev pub any_text_in : List ℕ → Result (List ℕ) LineKind
any_text_in word = if is_none (text_fault_of word) then Ok word else Err kind.Value

-- a text that isn't empty
unfoldable pub text_in : List ℕ → Result (List ℕ) LineKind
text_in word = if length word == 0 then Err kind.Value else any_text_in word

-- an action id
unfoldable pub id_in : List ℕ → Result (List ℕ) LineKind
id_in word = if is_none (text_fault_of word) && is_none (id_fault_of word) then Ok word else Err kind.Value

-- true for the first of these words, false for the second
abbrev pub either_in : List ℕ → List ℕ → List ℕ → Result Bool LineKind
either_in yes_word no_word word = if bytes_eq word yes_word then Ok true else if bytes_eq word no_word then Ok false else Err kind.Value

-- whether a session is local
unfoldable pub local_in : List ℕ → Result Bool LineKind
local_in word = either_in (codes "local") (codes "remote") word

-- whether a session is active
unfoldable pub active_in : List ℕ → Result Bool LineKind
active_in word = either_in (codes "active") (codes "idle") word

-- the session of a process, or `-` for none
unfoldable pub session_in : List ℕ → Result (Option (List ℕ)) LineKind
session_in word = if bytes_eq word (codes "-") then Ok None else text_in word >>= (λ id. Ok (Some id))

-- each of the words
abbrev pub each_in : {A : Type 0} → (List ℕ → Result A LineKind) → List (List ℕ) → Result (List A) LineKind
each_in read [] = Ok []
each_in read (word ∷ words) = do
  x ← read word
  xs ← each_in read words
  Ok (x ∷ xs)

-- texts with `;` between them
unfoldable pub texts_in : List ℕ → Result (List (List ℕ)) LineKind
texts_in word = each_in text_in (pieces_of 59 word)

-- gids with commas between them, or `-` for none
unfoldable pub gids_in : List ℕ → Result (List ℕ) LineKind
gids_in word = if bytes_eq word (codes "-") then Ok [] else each_in number_32_in (pieces_of 44 word)
