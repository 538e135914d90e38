-- Legal histories: those in which each event was answered as it should be.
use Rattle.std.specs.Prelude.{ℕ, ◌+◌, ◌^◌, ◌≤◌, ◌≡◌, ⊤, List, [], ◌∷◌, Option, Some, None, length}
use Rattle.authority_model.specs.declared.event.Event.{Event}
use Rattle.authority_model.specs.declared.event.Event.TheVariants.{Load, Collect}
use Rattle.authority_model.specs.declared.journal.Entry.{Entry}
use Rattle.authority_model.specs.declared.journal.History.{History}
use Rattle.authority_model.specs.declared.load.Loaded.{Loaded}
use Rattle.authority_model.specs.Items.{Item, items_of}
use Rattle.authority_model.specs.Answers.{answers, loads}

-- the moment of the last item, or 0
abbrev pub last_moment : List Item → ℕ
last_moment [] = 0
last_moment (i ∷ past) = i.entry.moment

-- a load has its value and the next number, and anything else has no value
abbrev pub IsNumbered : ℕ → Event → Option Loaded → Type 0
IsNumbered n (Load load) (Some l) = load ≡ n + 1
IsNumbered n (Load load) None = ⊥
IsNumbered n event loaded = loaded ≡ None

-- a Collect has the moment before it and salt 0
abbrev pub IsCollected : ℕ → Entry → Event → Type 0
IsCollected t e (Collect of) = (e.moment ≡ t) × (e.salt ≡ 0)
IsCollected t e event = ⊤

-- An item may follow a history: its moment does not fall and is at most 2^62, a load has the next number, and its outputs are the answers to its event.
pub record Follows (past : List Item) (i : Item) : Type 0 where
  pub rises : last_moment past ≤ i.entry.moment
  pub bounded : i.entry.moment ≤ 2 ^ 62
  pub numbered : IsNumbered (loads past) i.entry.event i.loaded
  pub collected : IsCollected (last_moment past) i.entry i.entry.event
  pub answered : i.entry.outputs ≡ answers past i.entry.caller i.entry.moment i.entry.salt i.entry.event i.loaded

-- A history is legal: each item follows what stands before it.
abbrev pub Legal : List Item → Type 0
Legal [] = ⊤
Legal (i ∷ past) = Follows past i × Legal past

-- A journal is legal: its items are, and it has no load that no entry names.
pub record IsLegal (h : History) : Type 0 where
  pub items : Legal (items_of h)
  pub loads : loads (items_of h) ≡ length h.loads
