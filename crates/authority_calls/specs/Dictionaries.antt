-- The dictionaries `a{sv}` of subjects and identities, and the pairs `a{ss}` of a check.
use Rattle.std.specs.Prelude.{ℕ, if◌then◌else◌, List, [], ◌∷◌, Option, Some, None, is_some, map, filter}
use Rattle.std.specs.Str.{bytes_eq}
use Rattle.pk_types.specs.declared.values.Pair.{Pair}
use Rattle.dbus_values.specs.Parts.{Piece, Enter, Leave, piece}
use Rattle.dbus_values.specs.Walk.{most_parts}
use Rattle.authority_model.specs.Words.{Bytes}
use Rattle.authority_calls.specs.declared.dictionary.Field.{Field}
use Rattle.authority_calls.specs.Arguments.{Reading, ◌>>=◌, given, out_of_form, chosen, part, as_bytes, as_enter, as_leave, as_variant, part_as, text, behind, many}

-- an entry of a dictionary: its key, and the first part of the value in its variant
pub record Keyed : Type 0 where
  pub key : Bytes
  pub value : Piece

abbrev pub keyed : Field → Keyed
keyed f = record { key = f.key.now; value = piece f.value }

-- how many containers are open behind the first part of the value of an entry: the entry, and a value that is one
abbrev pub open_in : Piece → ℕ
open_in (Enter c) = 2
open_in _ = 1

-- an entry that has begun
abbrev pub entry : Reading Keyed
entry = do
  key ← part_as as_bytes
  begins ← part_as as_variant
  value ← part
  ends ← behind (open_in value)
  given (record { key = key; value = value })

-- what begins with a part of a dictionary: an entry, or nothing at its end
abbrev pub entry_from : Piece → Reading (Option Keyed)
entry_from (Enter c) = entry >>= λ e. given (Some e)
entry_from (Leave c) = given None
entry_from _ = out_of_form

abbrev pub next_entry : Reading (Option Keyed)
next_entry = part >>= entry_from

-- the entries of a dictionary
abbrev pub entries : Reading (List Keyed)
entries = do
  begins ← part_as as_enter
  many most_parts next_entry

-- the values under a key
abbrev pub values_of : Bytes → List Keyed → List Piece
values_of key es = map (λ e. e.value) (filter (λ e. bytes_eq e.key key) es)

-- the one item of a list, where there are not none or several
abbrev pub the_only : List Piece → Option Piece
the_only [] = None
the_only (v ∷ []) = Some v
the_only (v ∷ w ∷ vs) = None

-- the value of the one entry that has a key; an entry with another key is passed over
abbrev pub only : Bytes → List Keyed → Option Piece
only key es = the_only (values_of key es)

-- the value under a key of a dictionary
abbrev pub one : Bytes → Reading Piece
one key = do
  es ← entries
  chosen (only key es)

-- the values under two keys of a dictionary
abbrev pub two : Bytes → Bytes → Reading (Piece × Piece)
two first second = do
  es ← entries
  a ← chosen (only first es)
  b ← chosen (only second es)
  given (a, b)

-- the value under a key with one more entry; nothing, where it is the second with this key
abbrev pub found_with : Option Piece → Bytes → Keyed → Option (Option Piece)
found_with found key e = if bytes_eq e.key key then (if is_some found then None else Some (Some e.value)) else Some found

-- a pair that has begun
abbrev pub pair : Reading Pair
pair = do
  key ← text
  value ← text
  ends ← part_as as_leave
  given (record { key = key; value = value })

-- what begins with a part of a row of pairs: a pair, or nothing at its end
abbrev pub pair_from : Piece → Reading (Option Pair)
pair_from (Enter c) = pair >>= λ p. given (Some p)
pair_from (Leave c) = given None
pair_from _ = out_of_form

abbrev pub next_pair : Reading (Option Pair)
next_pair = part >>= pair_from

-- pairs, in their order
abbrev pub pairs : Reading (List Pair)
pairs = do
  begins ← part_as as_enter
  many most_parts next_pair
