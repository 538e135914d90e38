-- Steps of a search that each go on with what the one before found; and lists in which no two elements are related.
use Rattle.std.specs.Prelude.{Bool, false, List, [], ◌∷◌, Option, option_and_then, ◌≡◌, ⊤}
use Rattle.authority_model.specs.Lists.{when, Each}

-- goes on where the test holds
abbrev pub guard : Bool → Option (Unit {0})
guard test = when test tt

-- the steps of a `do`: each goes on with the value of the one before, and there is nothing where one has none
infixl 10 ◌>>=◌
abbrev pub ◌>>=◌ : {A B : Type 0} → Option A → (A → Option B) → Option B
found >>= follow = option_and_then follow found

-- no element is related to a later one
abbrev pub Apart : {A : Type 0} → (A → A → Bool) → List A → Type 0
Apart rel [] = ⊤
Apart rel (x ∷ xs) = Each (λ y. rel x y ≡ false) xs × Apart rel xs
