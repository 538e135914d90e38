-- How an audit goes on from entry to entry.
use Rattle.std.specs.Prelude.{◌≡◌, ◌==◌, ⊤, ℕ, length, List, [], ◌∷◌, Option, Some, None, if◌then◌else◌}
use Rattle.std.specs.Option.{option_map_or}
use Rattle.authority_model.specs.declared.event.Event.{Event}
use Rattle.authority_model.specs.declared.journal.Entry.{Entry}
use Rattle.authority_model.specs.declared.journal.Item.{Item}
use Rattle.authority_model.specs.declared.load.Loaded.{Loaded}
use Rattle.authority_model.specs.Items.{is_load, loaded_of}
use Rattle.authority_model.specs.Legal.{Follows, IsNumbered, Legal}
use Rattle.entry_changes.specs.declared.change.EntryChange.{EntryChange}
use Rattle.event_answers.specs.declared.answered.Answered.{Answered}
use Rattle.plain_lists.specs.declared.lists.PlainLists.{PlainLists}
use Rattle.plain_lists.specs.Lists.{AreListsOf, change_of}
use Rattle.journal_audit.specs.declared.auditing.Auditor.{Auditor}
use Rattle.journal_audit.specs.declared.auditing.Finding.{Finding}
use Rattle.journal_audit.specs.declared.auditing.Finding.TheVariants.{Accepted, Faulty}
use Rattle.journal_audit.specs.declared.clause.Clause.{Clause}
use Rattle.journal_audit.specs.Fault.{Breaks, BreaksFirst, IsAnswered, KeepsMoment, KeepsSalt, yes_count}

-- the first of these loads, if there is one
abbrev pub first_of : List Loaded → Option Loaded
first_of [] = None
first_of (l ∷ loads) = Some l

-- all but the first of these loads
abbrev pub rest_of : List Loaded → List Loaded
rest_of [] = []
rest_of (l ∷ loads) = loads

-- the load that an event names among those that none has named yet
abbrev pub load_named : Event → List Loaded → Option Loaded
load_named event left = if is_load event then first_of left else None

-- those that none has named after it
abbrev pub loads_behind : Event → List Loaded → List Loaded
loads_behind event left = if is_load event then rest_of left else left

-- the item of an entry, where none has named these loads yet
abbrev pub item_with : Entry → List Loaded → Item
item_with e left = record { entry = e; loaded = load_named e.event left }

-- the load in force after an entry with this load, or with none
abbrev pub in_force_by : Option Loaded → Loaded → Loaded
in_force_by loaded before = option_map_or (λ l. l) loaded before

-- before it is answered: the clause that an entry breaks, or that it breaks none but maybe that it is answered
abbrev pub Judged : ℕ → ℕ → Entry → Option Loaded → Option Clause → Type 0
Judged n before e l (Some clause) = BreaksFirst n before e l ⊤ clause
Judged n before e l None = IsNumbered n e.event l × KeepsMoment before e × KeepsSalt e

-- Lists of this history, of which this load is in force, and an item of this entry and load.
pub record IsDue (past : List Item) (i : Item) (lists : PlainLists) (in_force : Loaded) (e : Entry) (l : Option Loaded) : Type 0 where
  pub legal : Legal past
  pub lists_are : AreListsOf past lists
  pub loaded_is : in_force ≡ loaded_of past
  pub entry_is : i.entry ≡ e
  pub load_is : i.loaded ≡ l

-- the same in some history
pub record IsDueInOne (lists : PlainLists) (in_force : Loaded) (e : Entry) (l : Option Loaded) : Type 0 where
  pub past : List Item
  pub item : Item
  pub due : IsDue past item lists in_force e l

-- the item is answered so, and this is what it changes; or it is not answered so
abbrev pub Answers : List Item → Item → Option EntryChange → Type 0
Answers past i (Some change) = IsAnswered past i × (change ≡ change_of past i)
Answers past i None = IsAnswered past i → ⊥

-- the outputs that were made are those of the entry, and this is what was to be changed; or they are not
abbrev pub Compared : Answered → Entry → Option EntryChange → Type 0
Compared a e (Some change) = (a.outputs ≡ e.outputs) × (change ≡ a.change)
Compared a e None = a.outputs ≡ e.outputs → ⊥

-- The item breaks this clause; or it breaks none, and the lists are those of the history with it.
abbrev pub Turns : List Item → Item → PlainLists → Option Clause → Type 0
Turns past i lists (Some clause) = Breaks past i clause
Turns past i lists None = Follows past i × AreListsOf (i ∷ past) lists

-- An audit has come to this history, which is legal.
pub record IsAt (past : List Item) (a : Auditor) : Type 0 where
  pub legal : Legal past
  pub lists_are : AreListsOf past a.lists
  pub loaded_is : a.loaded.now ≡ loaded_of past
  pub yes_is : a.yes ≡ yes_count past

-- the same in some history
pub record IsAtOne (a : Auditor) : Type 0 where
  pub past : List Item
  pub is : IsAt past a

-- The item breaks this clause; or it breaks none, and the audit has come to the history with it, with these loads left.
abbrev pub StepsOver : List Item → Item → List Loaded → Auditor → Option Clause → Type 0
StepsOver past i left a (Some clause) = Breaks past i clause
StepsOver past i left a None = IsAt (i ∷ past) a × (a.left.now ≡ left)

-- what an audit finds behind the last of so many entries
abbrev pub finding_of : Auditor → ℕ → Finding
finding_of a entries = if length a.left.now == 0 then Accepted entries a.yes else Faulty entries Clause.Loads
