-- Texts under keys.
use Rattle.std.specs.Prelude.{ℕ, Bool, List, [], ◌∷◌, ◌++◌, map, Option, Some, None, position, bytes_eq, slice_set}
use Rattle.std.specs.List.{list_any}
use Rattle.pk_types.specs.declared.values.Pair.{Pair}

abbrev pub keys_of : List Pair → List (List ℕ)
keys_of pairs = map (λ p. p.key) pairs

-- whether a pair has that key, and the place of the first that has
abbrev pub has_key : List ℕ → List Pair → Bool
has_key key pairs = list_any (λ p. bytes_eq key p.key) pairs

abbrev pub place_of_key : List ℕ → List Pair → Option ℕ
place_of_key key pairs = position (λ p. bytes_eq key p.key) pairs

abbrev pub set_pair : Option ℕ → Pair → List Pair → List Pair
set_pair (Some i) pair pairs = slice_set pairs i pair
set_pair None pair pairs = pairs ++ pair ∷ []

-- a key that stands keeps its place and takes the value; another comes last
abbrev pub set_key : List ℕ → List ℕ → List Pair → List Pair
set_key key value pairs = set_pair (place_of_key key pairs) (record { key = key; value = value }) pairs
