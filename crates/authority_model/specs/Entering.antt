-- What a thing handed in comes to in a journal that may hold so much: one more entry, or how full the journal is.
use Rattle.std.specs.Prelude.{◌≤◌, ℕ, ◌+◌, Bool, ◌||◌, nat_le, if◌then◌else◌, List, [], ◌∷◌, Option, Some, None, length, sum_by}
use Rattle.std.specs.Option.{option_map_or}
use Rattle.authority_model.specs.declared.journal.Item.{Item}
use Rattle.authority_model.specs.declared.journal.Limits.{Limits}
use Rattle.authority_model.specs.declared.journal.TheConstants.{MAX_BYTES, MAX_ENTRIES}
use Rattle.authority_model.specs.Costs.{cost_of_entry, cost_of_load}
use Rattle.authority_model.specs.Given.{Given, next}

-- the limits are at most the greatest
abbrev pub AreAllowed : Limits → Type 0
AreAllowed limits = (limits.entries ≤ MAX_ENTRIES) × (limits.bytes ≤ MAX_BYTES)

-- the greatest limits of a journal
abbrev pub greatest_limits : Limits
greatest_limits = record { entries = MAX_ENTRIES; bytes = MAX_BYTES }

-- an item costs what its entry costs, and the load that it names
abbrev pub cost_of_item : Item → ℕ
cost_of_item i = cost_of_entry i.entry + option_map_or cost_of_load i.loaded 0

-- the counted bytes of items
abbrev pub counted_bytes : List Item → ℕ
counted_bytes past = sum_by cost_of_item past

-- How full a journal is: its entries, and its counted bytes.
pub record Fullness : Type 0 where
  pub entries : ℕ
  pub bytes : ℕ

-- how full a journal of these items is
abbrev pub fullness : List Item → Fullness
fullness past = record { entries = length past; bytes = counted_bytes past }

-- whether a journal of these items is full: it has as many entries, or as many counted bytes, as the limits say
abbrev pub is_full : Limits → List Item → Bool
is_full limits past = nat_le limits.entries (length past) || nat_le limits.bytes (counted_bytes past)

-- Where things handed in lead: the items, and how full the journal was where one of them was refused.
pub record Reached : Type 0 where
  pub past : List Item
  pub full : Option Fullness

-- where things handed in lead one after another, the first of them first; the first that finds the journal full is the last
abbrev pub all_entered : Limits → List Item → List Given → Reached
all_entered limits past [] = record { past = past; full = None }
all_entered limits past (g ∷ given) = if is_full limits past then record { past = past; full = Some (fullness past) } else all_entered limits (next past g ∷ past) given
