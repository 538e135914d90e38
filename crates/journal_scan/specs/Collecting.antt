-- Collects with an empty batch: each caller has one at most.
use Rattle.std.specs.Prelude.{◌≡◌, ℕ, ◌==◌, Bool, true, false, ◌&&◌, ◌||◌, List, [], ◌∷◌, length}
use Rattle.authority_model.specs.declared.event.Event.{Event}
use Rattle.authority_model.specs.declared.event.Event.TheVariants.{Collect}
use Rattle.authority_model.specs.declared.journal.Item.{Item}
use Rattle.authority_model.specs.Peers.{is_by}
use Rattle.authority_model.specs.Sent.{batch}

-- whether an event is a Collect that takes nothing
abbrev pub takes_nothing : List Item → ℕ → Event → Bool
takes_nothing past by (Collect of) = length (batch past by of) == 0
takes_nothing past by _ = false

-- whether a caller had a Collect with an empty batch
abbrev pub had_nothing : List Item → ℕ → Bool
had_nothing [] c = false
had_nothing (i ∷ past) c = had_nothing past c || (is_by c i && takes_nothing past c i.entry.event)

-- a Collect with an empty batch is its caller's only one so far
abbrev pub IsOnlyEmpty : List Item → Item → Type 0
IsOnlyEmpty past i = takes_nothing past i.entry.caller i.entry.event ≡ true → had_nothing past i.entry.caller ≡ false
