-- Counted bytes.
use Rattle.std.proofs.Common.{◌≡◌, ℕ, [], ◌∷◌, refl}
use Rattle.std.specs.Prelude.{codes}
use Rattle.pk_types.specs.declared.values.Implicit.{Implicit}
use Rattle.authority_model.specs.declared.event.Event.{Event}
use Rattle.authority_model.specs.declared.journal.Entry.{Entry}
use Rattle.authority_model.specs.Items.{empty_loaded}
use Rattle.authority_model.specs.Costs.{bytes_of}
use Rattle.authority_model.proofs.Setup.{bare, action}

-- an entry without outputs
abbrev silent : ℕ → Event → Entry
silent c event = record { caller = c; moment = 0; salt = 0; event = event; outputs = [] }

-- three entries of 64, and a load of 64 for its action and 5 for its id
three_entries_and_an_action : bytes_of (record { entries = silent 0 (Event.Load 1) ∷ silent 1 (Event.Connect 1000) ∷ silent 2 (Event.Connect 0) ∷ []; loads = bare (action (codes "a.yes") Implicit.Yes Implicit.Yes Implicit.Yes ∷ []) [] ∷ [] }) ≡ 261
three_entries_and_an_action = refl

-- an empty load counts nothing beside its entry
empty_load_is_free : bytes_of (record { entries = silent 0 (Event.Load 1) ∷ silent 1 (Event.Connect 1000) ∷ []; loads = empty_loaded ∷ [] }) ≡ 128
empty_load_is_free = refl
