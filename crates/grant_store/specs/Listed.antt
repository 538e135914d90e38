-- The numbers of the temporary authorizations of each subject.
use Rattle.std.specs.Prelude.{◌≡◌, ℕ, ◌<◌, ◌==◌, Bool, List, [], filter, filter_map, find}
use Rattle.std.specs.Option.{option_map_or}
use Rattle.std.specs.Map.{lookup}
use Rattle.pk_types.specs.Roomy.{Roomy}
use Rattle.authority_model.specs.declared.key.Key.{Key}
use Rattle.authority_model.specs.declared.verdict.GrantRow.{GrantRow}
use Rattle.authority_model.specs.Keys.{same_key}
use Rattle.authority_model.specs.Lists.{AtMostOne}
use Rattle.key_index.specs.declared.keys.KeyOf.{KeyOf}
use Rattle.key_index.specs.contracts.keys.KeyOfPartialEq.TheImpl as derived
use Rattle.key_index.specs.Held.{key_held}

-- numbers by subject, with room for more
abbrev pub KeyNumbers : Type 0
KeyNumbers = List (KeyOf × Roomy ℕ)

-- the numbers at a subject
abbrev pub numbers_at : KeyNumbers → KeyOf → List ℕ
numbers_at lists q = option_map_or (λ row. row.items) (lookup (derived.ghosts.eq q) lists) []

-- how many more numbers at a subject have room
abbrev pub room_at : KeyNumbers → KeyOf → ℕ
room_at lists q = option_map_or (λ row. row.room) (lookup (derived.ghosts.eq q) lists) 0

-- each subject has the numbers that it had
abbrev pub KeepsNumbers : KeyNumbers → KeyNumbers → Type 0
KeepsNumbers lists later = (q : KeyOf) → numbers_at later q ≡ numbers_at lists q

-- there is room for one more number at the subject of a key
abbrev pub HasRoomFor : Key → KeyNumbers → Type 0
HasRoomFor key lists = (q : KeyOf) → key_held q ≡ key → 0 < room_at lists q

-- the temporary authorizations that have these numbers, in the order of the numbers
abbrev pub rows_under : List GrantRow → List ℕ → List GrantRow
rows_under items numbers = filter_map (λ n. find (λ g. g.id == n) items) numbers

-- whether a temporary authorization is for a subject
abbrev pub is_of : Key → GrantRow → Bool
is_of key g = same_key g.key key

-- the numbers lead to the temporary authorizations of a subject, in their order
abbrev pub LeadTo : List GrantRow → Key → List ℕ → Type 0
LeadTo items key numbers = filter (is_of key) (rows_under items numbers) ≡ filter (is_of key) items

-- no number comes twice, and the numbers at each subject lead to its temporary authorizations
pub record AreListed (items : List GrantRow) (lists : KeyNumbers) : Type 0 where
  pub apart : (n : ℕ) → AtMostOne (λ g. g.id == n) items
  pub lead : (q : KeyOf) → LeadTo items (key_held q) (numbers_at lists q)
