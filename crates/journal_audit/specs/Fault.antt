-- What is wrong with a history that is not legal: its first faulty entry, and what that breaks.
use Rattle.std.specs.Prelude.{◌≡◌, ◌≤◌, ◌<◌, ◌^◌, ◌⊎◌, ⊤, ℕ, Bool, false, List, [], ◌∷◌, ◌++◌, ◌+◌, Option, length, if◌then◌else◌}
use Rattle.authority_model.specs.declared.event.Event.{Event}
use Rattle.authority_model.specs.declared.event.Event.TheVariants.{Collect}
use Rattle.authority_model.specs.declared.journal.Entry.{Entry}
use Rattle.authority_model.specs.declared.journal.History.{History}
use Rattle.authority_model.specs.declared.journal.Item.{Item}
use Rattle.authority_model.specs.declared.load.Loaded.{Loaded}
use Rattle.authority_model.specs.declared.message.Answer.{Answer}
use Rattle.authority_model.specs.declared.message.Message.{Message}
use Rattle.authority_model.specs.declared.message.Output.{Output}
use Rattle.authority_model.specs.Answers.{answers, loads}
use Rattle.authority_model.specs.Items.{items_of}
use Rattle.authority_model.specs.Legal.{IsLegal, IsNumbered, Legal, last_moment}
use Rattle.authority_model.specs.Licensed.{AllLicensed}
use Rattle.journal_audit.specs.declared.auditing.Finding.{Finding}
use Rattle.journal_audit.specs.declared.auditing.Finding.TheVariants.{Accepted, Faulty}
use Rattle.journal_audit.specs.declared.clause.Clause.{Clause}

-- a Collect has the moment of the entry before it
abbrev pub CollectsAt : ℕ → ℕ → Event → Type 0
CollectsAt before moment (Collect of) = moment ≡ before
CollectsAt before moment event = ⊤

-- the moment does not fall and is at most 2^62, and that of a Collect is the one before it
abbrev pub KeepsMoment : ℕ → Entry → Type 0
KeepsMoment before e = (before ≤ e.moment) × (e.moment ≤ 2 ^ 62) × CollectsAt before e.moment e.event

-- a Collect has the salt 0
abbrev pub SaltIsNone : ℕ → Event → Type 0
SaltIsNone salt (Collect of) = salt ≡ 0
SaltIsNone salt event = ⊤

-- the same of an entry
abbrev pub KeepsSalt : Entry → Type 0
KeepsSalt e = SaltIsNone e.salt e.event

-- the outputs of an item answer its event
abbrev pub IsAnswered : List Item → Item → Type 0
IsAnswered past i = i.entry.outputs ≡ answers past i.entry.caller i.entry.moment i.entry.salt i.entry.event i.loaded

-- An entry with this load, after so many loads and this moment, breaks a clause and none of those before it, where the last of them is that it is answered.
abbrev pub BreaksFirst : ℕ → ℕ → Entry → Option Loaded → Type 0 → Clause → Type 0
BreaksFirst n before e l Answered Clause.Load = IsNumbered n e.event l → ⊥
BreaksFirst n before e l Answered Clause.Moment = IsNumbered n e.event l × (KeepsMoment before e → ⊥)
BreaksFirst n before e l Answered Clause.Salt = IsNumbered n e.event l × KeepsMoment before e × (KeepsSalt e → ⊥)
BreaksFirst n before e l Answered Clause.Outputs = IsNumbered n e.event l × KeepsMoment before e × KeepsSalt e × (Answered → ⊥)
BreaksFirst n before e l Answered Clause.Loads = ⊥

-- an item breaks a clause after this history, and none of those before it
abbrev pub Breaks : List Item → Item → Clause → Type 0
Breaks past i clause = BreaksFirst (loads past) (last_moment past) i.entry i.loaded (IsAnswered past i) clause

-- The entry at a place, counted from 0, breaks a clause and none of those before it, and what stands before it is legal.
pub record IsFaultyAt (h : History) (place : ℕ) (clause : Clause) : Type 0 where
  pub past : List Item
  pub item : Item
  pub later : List Item
  pub parts : items_of h ≡ later ++ item ∷ past
  pub place_is : place ≡ length past
  pub legal : Legal past
  pub breaks : Breaks past item clause

-- All entries are legal, and there are loads that none of them names; the place is behind the last entry.
pub record LeavesLoads (h : History) (place : ℕ) (clause : Clause) : Type 0 where
  pub items : Legal (items_of h)
  pub few : loads (items_of h) < length h.loads
  pub place_is : place ≡ length h.entries
  pub clause_is : clause ≡ Clause.Loads

-- the first fault of a history
abbrev pub IsFirstFault : History → ℕ → Clause → Type 0
IsFirstFault h place clause = IsFaultyAt h place clause ⊎ LeavesLoads h place clause

-- whether a message is a yes
abbrev pub is_yes : Message → Bool
is_yes (Message.Reply serial (Answer.Verdict v)) = v.yes
is_yes message = false

-- how many of these outputs are a yes
abbrev pub yes_among : List Output → ℕ
yes_among [] = 0
yes_among (o ∷ outputs) = (if is_yes o.message then 1 else 0) + yes_among outputs

-- how many yes verdicts were sent
abbrev pub yes_count : List Item → ℕ
yes_count [] = 0
yes_count (i ∷ past) = yes_count past + yes_among i.entry.outputs

-- a history is legal, each yes in it is licensed, and it has so many entries and yes verdicts
pub record IsAccepted (h : History) (entries count : ℕ) : Type 0 where
  pub legal : IsLegal h
  pub licensed : AllLicensed (items_of h)
  pub entries_are : entries ≡ length h.entries
  pub yes_is : count ≡ yes_count (items_of h)

-- what an audit finds of a history
abbrev pub Finds : History → Finding → Type 0
Finds h (Accepted entries count) = IsAccepted h entries count
Finds h (Faulty entry clause) = IsFirstFault h entry clause
