-- What is handed in, and the one legal history that it makes.
use Rattle.std.specs.Prelude.{ℕ, ◌+◌, ◌^◌, ◌≤◌, ◌≡◌, ⊤, max, true, List, [], ◌∷◌, Option, Some, None}
use Rattle.authority_model.specs.declared.event.Event.{Event}
use Rattle.authority_model.specs.declared.event.Event.TheVariants.{Load, Collect}
use Rattle.authority_model.specs.declared.journal.History.{History}
use Rattle.authority_model.specs.declared.journal.Item.{Item}
use Rattle.authority_model.specs.declared.load.Loaded.{Loaded}
use Rattle.authority_model.specs.Items.{is_load, items_of}
use Rattle.authority_model.specs.Answers.{answers, loads}
use Rattle.authority_model.specs.Legal.{last_moment}

-- An event, or a load.
pub data What : Type 0 where
  Of : Event → What
  Loads : Loaded → What

-- What is handed in for an entry: its caller, a moment, a salt, and an event or a load.
pub record Given : Type 0 where
  pub caller : ℕ
  pub moment : ℕ
  pub salt : ℕ
  pub what : What

-- an event that a step takes: a load and a collecting are handed in by calls of their own
abbrev pub IsStepped : Event → Type 0
IsStepped (Load load) = ⊥
IsStepped (Collect of) = ⊥
IsStepped event = ⊤

-- an event that is handed in
abbrev pub event_given : ℕ → ℕ → ℕ → Event → Given
event_given caller moment salt event = record { caller = caller; moment = moment; salt = salt; what = What.Of event }

-- a load that is handed in, with the salt 0
abbrev pub load_given : ℕ → ℕ → Loaded → Given
load_given caller moment loaded = record { caller = caller; moment = moment; salt = 0; what = What.Loads loaded }

-- the event of an entry behind so many loads
abbrev pub event_of : ℕ → What → Event
event_of n (What.Of event) = event
event_of n (What.Loads l) = Load (n + 1)

-- the load of an entry
abbrev pub load_in : What → Option Loaded
load_in (What.Of event) = None
load_in (What.Loads l) = Some l

-- the item of these parts, with the outputs that its event is answered
abbrev pub item_of : List Item → ℕ → ℕ → ℕ → Event → Option Loaded → Item
item_of past c t salt event loaded = record { entry = record { caller = c; moment = t; salt = salt; event = event; outputs = answers past c t salt event loaded }; loaded = loaded }

-- the next item of a history: its moment is the greatest handed in so far, and its load has the next number
abbrev pub next : List Item → Given → Item
next past g = item_of past g.caller (max (last_moment past) g.moment) g.salt (event_of (loads past) g.what) (load_in g.what)

-- the history of what was handed in, both with the newest first
abbrev pub history_of : List Given → List Item
history_of [] = []
history_of (g ∷ given) = next (history_of given) g ∷ history_of given

-- a load is handed in as a load, and a Collect with the moment 0 and the salt 0
abbrev pub IsProperEvent : Given → Event → Type 0
IsProperEvent g (Load load) = ⊥
IsProperEvent g (Collect of) = (g.moment ≡ 0) × (g.salt ≡ 0)
IsProperEvent g event = ⊤

-- the same of an event or a load
abbrev pub IsProperWhat : Given → What → Type 0
IsProperWhat g (What.Of event) = IsProperEvent g event
IsProperWhat g (What.Loads l) = ⊤

-- what may be handed in: its moment is at most 2^62 besides
abbrev pub IsProper : Given → Type 0
IsProper g = (g.moment ≤ 2 ^ 62) × IsProperWhat g g.what

-- an item has the event or the load
abbrev pub Shows : Item → What → Type 0
Shows i (What.Of event) = i.entry.event ≡ event
Shows i (What.Loads l) = (is_load i.entry.event ≡ true) × (i.loaded ≡ Some l)

-- a history has what was handed in, and each moment is the greatest so far
abbrev pub IsHistoryOf : List Item → List Given → Type 0
IsHistoryOf [] [] = ⊤
IsHistoryOf [] (g ∷ given) = ⊥
IsHistoryOf (i ∷ past) [] = ⊥
IsHistoryOf (i ∷ past) (g ∷ given) = (i.entry.caller ≡ g.caller) × (i.entry.moment ≡ max (last_moment past) g.moment) × (i.entry.salt ≡ g.salt) × Shows i g.what × IsHistoryOf past given

-- the new history is the old one and the item of what was handed in
abbrev pub Grows : History → History → Given → Type 0
Grows old new g = items_of new ≡ next (items_of old) g ∷ items_of old
