-- What a connection collects of the outputs to another, Collect after Collect.
use Rattle.std.specs.Prelude.{◌≡◌, ℕ, Bool, true, false, ◌&&◌, List, [], ◌∷◌}
use Rattle.authority_model.specs.declared.journal.Item.{Item}
use Rattle.authority_model.specs.declared.message.Output.{Output}
use Rattle.authority_model.specs.Peers.{is_by}
use Rattle.authority_model.specs.Sent.{batch, is_collect_of}

-- whether there are no outputs
abbrev pub are_none : List Output → Bool
are_none [] = true
are_none (o ∷ outputs) = false

-- whether an item is a Collect by one connection of the outputs to another
abbrev pub is_collect : ℕ → ℕ → Item → Bool
is_collect by c i = is_by by i && is_collect_of c i.entry.event

-- The newest item is such a Collect, and found no outputs exactly where `gone` says so; or it is another item, and says nothing.
abbrev pub FindsLast : Bool → Bool → Bool → (Bool → Type 0) → Type 0
FindsLast true nothing gone rest = (nothing ≡ gone) × rest false
FindsLast false nothing gone rest = rest gone

-- Each Collect by one connection of the outputs to another found some, but the last of them where `gone` says so: that one found none.
abbrev pub Finds : ℕ → ℕ → List Item → Bool → Type 0
Finds by c [] gone = gone ≡ false
Finds by c (i ∷ past) gone = FindsLast (is_collect by c i) (are_none (batch past by c)) gone (Finds by c past)
