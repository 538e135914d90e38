-- The pairs of `ReturnValue`.
use Rattle.std.specs.Prelude.{ℕ, ◌==◌, Bool, true, false, not, ◌&&◌, ◌||◌, if◌then◌else◌, List, [], ◌∷◌, Option, Some, None, is_some, option_and_then}
use Rattle.std.specs.List.{list_any, filter_map}
use Rattle.pk_types.specs.declared.values.Pair.{Pair}
use Rattle.keyfile_text.specs.Bytes.{is_empty, cut_at}
use Rattle.keyfile_text.specs.Escapes.{escaped}
use Rattle.keyfile_text.specs.Items.{items_of}
use Rattle.authority_model.specs.Words.{Bytes}

-- whether a byte after a `\` makes an escape other than `\;` (59)
abbrev pub is_other_escape : ℕ → Bool
is_other_escape b = is_some (escaped b) && not (b == 59)

-- whether the bytes, which come after a `\` (92) or after none, have an escape other than `\;`
abbrev pub escapes_other : Bool → Bytes → Bool
escapes_other behind [] = false
escapes_other true (b ∷ bytes) = is_other_escape b || escapes_other false bytes
escapes_other false (b ∷ bytes) = escapes_other (b == 92) bytes

-- the pair of a key and a value; the key is not empty
abbrev pub pair_of_parts : Bytes × Bytes → Option Pair
pair_of_parts (key, value) = if is_empty key then None else Some (record { key = key; value = value })

-- the pair that an item `KEY=VALUE` says, cut at its first `=` (61)
abbrev pub pair_of : Bytes → Option Pair
pair_of item = option_and_then pair_of_parts (cut_at 61 item)

-- whether an item says no pair
abbrev pub is_no_pair : Bytes → Bool
is_no_pair item = not (is_some (pair_of item))

-- whether a value of the key has an escape other than `\;`, or an item that says no pair
abbrev pub is_bad_return : Bytes → Bool
is_bad_return value = escapes_other false value || list_any is_no_pair (items_of value)

-- the pairs of a value, in the order of its items
abbrev pub pairs_of : Bytes → List Pair
pairs_of value = filter_map pair_of (items_of value)
