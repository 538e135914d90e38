-- Sets of names that are borrowed.
use Rattle.std.specs.Prelude.{ℕ, Bool, List, bytes_eq}
use Rattle.std.specs.Borrow.{Bor}
use Rattle.std.specs.List.{list_any}
use Rattle.std.specs.declared.hash.FoldHasher.{FoldHasher}
use Rattle.std.specs.declared.hash.BuildHasherDefault.{BuildHasherDefault}
use Rattle.indexmap.specs.IndexSet.{IndexSet}

abbrev pub NameSet : Type 0
NameSet = IndexSet (Bor (List ℕ)) (BuildHasherDefault FoldHasher)

-- whether a name is in the set
abbrev pub has_name : NameSet → List ℕ → Bool
has_name names name = list_any (λ n. bytes_eq name n.now) names.keys
