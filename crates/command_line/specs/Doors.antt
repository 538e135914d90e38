-- Doors as words name them.
use Rattle.std.specs.Prelude.{ℕ, ◌==◌, List, [], ◌∷◌, Option, Some, None, if◌then◌else◌, length, option_and_then, option_map}
use Rattle.pk_types.specs.Decimals.{number_of}
use Rattle.pk_types.specs.Text.{text_fault_of}
use Rattle.pk_types.specs.declared.text.TextFault.{TextFault}
use Rattle.command_line.specs.declared.door.DoorPath.{DoorPath}

-- a byte at the front of the first half
abbrev pub onto_first : ℕ → Option (List ℕ × List ℕ) → Option (List ℕ × List ℕ)
onto_first b None = None
onto_first b (Some (before, behind)) = Some (b ∷ before, behind)

-- what stands before the first separator, and what stands behind it
abbrev pub cut_at : ℕ → List ℕ → Option (List ℕ × List ℕ)
cut_at separator [] = None
cut_at separator (b ∷ bytes) = if b == separator then Some ([], bytes) else onto_first b (cut_at separator bytes)

-- bytes that are not empty
abbrev pub some_bytes : List ℕ → Option (List ℕ)
some_bytes bytes = if length bytes == 0 then None else Some bytes

-- the uid and the path of UID:PATH, a number of 32 bits and bytes that are not empty; 58 is the colon
abbrev pub parts_of : List ℕ → Option (ℕ × List ℕ)
parts_of word = option_and_then (λ (before, behind). option_and_then (λ uid. option_map (λ path. (uid, path)) (some_bytes behind)) (number_of before)) (cut_at 58 word)

-- a text, where nothing speaks against it
abbrev pub unless : Option TextFault → List ℕ → Option (List ℕ)
unless None bytes = Some bytes
unless (Some why) bytes = None

-- the text that the bytes are
abbrev pub text_in : List ℕ → Option (List ℕ)
text_in bytes = unless (text_fault_of bytes) bytes

-- the door that a word names
abbrev pub door_of : List ℕ → Option DoorPath
door_of word = option_and_then (λ (uid, path). option_map (λ text. record { uid = uid; path = text }) (text_in path)) (parts_of word)
