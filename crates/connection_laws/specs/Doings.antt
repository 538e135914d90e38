-- What a connection did in a history, by what it handed in.
use Rattle.std.specs.Prelude.{◌≡◌, ◌==◌, ℕ, Bool, true, false, List, [], ◌∷◌, ◌++◌}
use Rattle.authority_model.specs.declared.journal.Item.{Item}
use Rattle.authority_model.specs.Given.{Given, next}

-- The newest item is the connection's own, and it is the next one for what was handed in last; or it is another's, and says nothing.
abbrev pub DidLast : Bool → List Item → Item → List Given → (List Given → Type 0) → Type 0
DidLast true past i given rest = (g : Given) × (before : List Given) × (given ≡ before ++ g ∷ []) × (i ≡ next past g) × rest before
DidLast false past i given rest = rest given

-- The items of the connection n are those of what it handed in, one for each and in this order: each is the next one after all items before it.
abbrev pub Did : ℕ → List Item → List Given → Type 0
Did n [] given = given ≡ []
Did n (i ∷ past) given = DidLast (i.entry.caller == n) past i given (Did n past)
