-- Groups of one name and repeated keys.
use Rattle.std.specs.Prelude.{ℕ, List, [], ◌∷◌, if◌then◌else◌, bytes_eq}
use Rattle.pk_types.specs.declared.values.Pair.{Pair}
use Rattle.keyfile_text.specs.declared.groups.KeyGroup.{KeyGroup}

-- a key that stands keeps its place and takes the value; another comes last
abbrev pub set_key : List ℕ → List ℕ → List Pair → List Pair
set_key key value [] = (record { key = key; value = value }) ∷ []
set_key key value (p ∷ pairs) = if bytes_eq key p.key then (record { key = p.key; value = value }) ∷ pairs else p ∷ set_key key value pairs

-- a group that stands keeps its place and its pairs; another comes last
abbrev pub open_group : List ℕ → List KeyGroup → List KeyGroup
open_group name [] = (record { name = name; pairs = [] }) ∷ []
open_group name (g ∷ groups) = if bytes_eq name g.name then g ∷ groups else g ∷ open_group name groups

-- a key set in the group of that name
abbrev pub set_in : List ℕ → List ℕ → List ℕ → List KeyGroup → List KeyGroup
set_in name key value [] = []
set_in name key value (g ∷ groups) =
    if bytes_eq name g.name then (record { name = g.name; pairs = set_key key value g.pairs }) ∷ groups
    else g ∷ set_in name key value groups
