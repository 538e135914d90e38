-- Where the outputs to each connection stand in the journal.
use Rattle.std.specs.Prelude.{◌≡◌, ℕ, ◌+◌, ◌-◌, ◌==◌, ◌≤◌, ◌<◌, ◌^◌, if◌then◌else◌, List, [], ◌∷◌, ◌++◌, Option, None, length, nat_eq, option_and_then, reverse, slice_get, unwrap_or}
use Rattle.std.specs.Option.{option_map_or}
use Rattle.std.specs.Map.{lookup}
use Rattle.pk_types.specs.Roomy.{Roomy}
use Rattle.authority_model.specs.declared.journal.Item.{Item}
use Rattle.authority_model.specs.declared.message.Output.{Output}
use Rattle.peer_book.specs.declared.places.OutputPlace.{OutputPlace}

-- the places of the outputs to each connection, with room for more
abbrev pub PlaceRows : Type 0
PlaceRows = List (ℕ × Roomy OutputPlace)

-- the places of the outputs to a connection
abbrev pub places_in : PlaceRows → ℕ → List OutputPlace
places_in rows c = option_map_or (λ row. row.items) (lookup (nat_eq c) rows) []

-- how many more places of a connection have room
abbrev pub room_in : PlaceRows → ℕ → ℕ
room_in rows c = option_map_or (λ row. row.room) (lookup (nat_eq c) rows) 0

-- a row that has places, before others
abbrev pub with_row : ℕ → List OutputPlace → List (ℕ × List OutputPlace) → List (ℕ × List OutputPlace)
with_row c [] rows = rows
with_row c (p ∷ places) rows = (c, p ∷ places) ∷ rows

-- the rows that have places, without their room
abbrev pub shown : PlaceRows → List (ℕ × List OutputPlace)
shown [] = []
shown (e ∷ rows) = with_row e.0 e.1.items (shown rows)

-- the places of the outputs to a connection, by the rows that have places
abbrev pub places_of : List (ℕ × List OutputPlace) → ℕ → List OutputPlace
places_of rows c = unwrap_or (lookup (nat_eq c) rows) []

-- the rows that have places tell the same places
abbrev pub ShowsPlaces : PlaceRows → Type 0
ShowsPlaces rows = (c : ℕ) → places_of (shown rows) c ≡ places_in rows c

-- the k-th of some places, counted from 1
abbrev pub place_at : List OutputPlace → ℕ → Option OutputPlace
place_at places k = if k == 0 then None else slice_get places (k - 1)

-- the places stay, and no room is lost
pub record KeepsPlaces (old new : PlaceRows) : Type 0 where
  pub shown_same : shown new ≡ shown old
  pub same : (c : ℕ) → places_in new c ≡ places_in old c
  pub room : (c : ℕ) → room_in old c ≤ room_in new c

-- there is room for so many more places of a connection, and 32 bits count them all
pub record CanTake (rows : PlaceRows) (c n : ℕ) : Type 0 where
  pub room : n ≤ room_in rows c
  pub few : length (places_in rows c) + n < 2 ^ 32

-- how often a connection stands among receivers
abbrev pub count_in : ℕ → List ℕ → ℕ
count_in c [] = 0
count_in c (n ∷ ns) = (if n == c then 1 else 0) + count_in c ns

-- how often a connection was counted
abbrev pub tally_in : List (ℕ × ℕ) → ℕ → ℕ
tally_in tally c = unwrap_or (lookup (nat_eq c) tally) 0

-- one output more to a connection is counted
abbrev pub TalliesOne : ℕ → List (ℕ × ℕ) → List (ℕ × ℕ) → Type 0
TalliesOne receiver old new = (c : ℕ) → tally_in new c ≡ tally_in old c + (if receiver == c then 1 else 0)

-- the output at a place of a history: the first number is the place of its entry in the journal, and the second its own among the entry's outputs, both counted from 0
abbrev pub output_at : List Item → ℕ × ℕ → Option Output
output_at past p = option_and_then (λ i. slice_get i.entry.outputs p.1) (slice_get (reverse past) p.0)

-- the two numbers of a place
abbrev pub pair_of : OutputPlace → ℕ × ℕ
pair_of p = (p.entry, p.output)

-- the output of a history that a place shows
abbrev pub output_shown : List Item → OutputPlace → Option Output
output_shown past p = output_at past (pair_of p)

-- the places of the outputs to a connection among those of an entry, where the first of them has this number
abbrev pub places_to : ℕ → ℕ → ℕ → List Output → List OutputPlace
places_to c entry k [] = []
places_to c entry k (o ∷ outputs) = (if o.to == c then record { entry = entry; output = k } ∷ [] else []) ++ places_to c entry (k + 1) outputs
