-- How the entry of a desk comes into a journal.
use Rattle.std.specs.Prelude.{ℕ, ◌≡◌, ◌≤◌, ◌^◌, List, [], ◌∷◌, ◌++◌, IfOk, Result}
use Rattle.authority_model.specs.declared.event.Event.TheVariants.{Passed}
use Rattle.authority_model.specs.declared.journal.Entry.{Entry}
use Rattle.authority_model.specs.declared.journal.Item.{Item}
use Rattle.authority_model.specs.Costs.{cost_of_entry}
use Rattle.authority_model.specs.Given.{Given, next}
use Rattle.authority_model.specs.Legal.{Legal}
use Rattle.authority_desk.specs.Seen.{DeskSeen, IsDeskFor}

-- what stands at the place that is held for an entry to come
abbrev pub held : Entry
held = record { caller = 0; moment = 0; salt = 0; event = Passed; outputs = [] }

-- an entry stands at the end of the others, and this is what it costs
pub record IsEntered (e : Entry) (old new : List Entry) (cost : ℕ) : Type 0 where
  pub entries : new ≡ old ++ e ∷ []
  pub cost_is : cost ≡ cost_of_entry e
  pub capped : cost ≤ 2 ^ 62

-- after each legal history that the desk stands for, the entry of what was handed in stands at the end, and its cost is told
abbrev pub EntersNext : {F : Type 0} → Given → DeskSeen → List Entry → List Entry → Result ℕ F → Type 0
EntersNext g desk old new result = (past : List Item) → Legal past → IsDeskFor past desk → IfOk result (IsEntered (next past g).entry old new)
