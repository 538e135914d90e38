-- The value of a key in a group.
use Rattle.std.specs.Prelude.{ℕ, List, Option, option_map, find, bytes_eq}
use Rattle.keyfile_text.specs.declared.groups.KeyGroup.{KeyGroup}

-- the value of the first pair with the key
abbrev pub value_of : List ℕ → KeyGroup → Option (List ℕ)
value_of key group = option_map (λ p. p.value) (find (λ p. bytes_eq p.key key) group.pairs)
