-- What a desk tells, and whose history that is.
use Rattle.std.specs.Prelude.{◌≡◌, List, ◌∷◌, IfOk, OnOk, Option, Result, length}
use Rattle.authority_model.specs.declared.journal.Entry.{Entry}
use Rattle.authority_model.specs.declared.journal.Item.{Item}
use Rattle.authority_model.specs.declared.load.Loaded.{Loaded}
use Rattle.authority_model.specs.declared.pending.Agent.{Agent}
use Rattle.authority_model.specs.declared.pending.Pending.{Pending}
use Rattle.authority_model.specs.declared.verdict.GrantRow.{GrantRow}
use Rattle.authority_model.specs.Agents.{in_force}
use Rattle.authority_model.specs.Challenges.{pending}
use Rattle.authority_model.specs.Given.{Given, next}
use Rattle.authority_model.specs.Grants.{kept}
use Rattle.authority_model.specs.Items.{loaded_of}
use Rattle.authority_model.specs.Legal.{Legal}
use Rattle.authority_model.specs.Small.{IsShort}
use Rattle.entry_changes.specs.declared.change.EntryChange.{EntryChange}
use Rattle.journal_view.specs.Seen.{Seen}
use Rattle.peer_book.specs.Book.{Peers, IsPeersOf}
use Rattle.peer_book.specs.Places.{places_of}
use Rattle.peer_book.specs.Rows.{row_in}
use Rattle.authority_desk.specs.declared.numbers.DeskNumbers.{DeskNumbers}
use Rattle.authority_desk.specs.declared.view.DeskView.{DeskView}
use Rattle.authority_desk.specs.Numbers.{numbers_of}
use Rattle.authority_desk.specs.Stored.{change_of, told}

-- What a desk tells: what its tables tell without what is staged, the load in force, and what is counted.
pub record DeskSeen : Type 0 where
  pub peers : Peers
  pub agents : List Agent
  pub grants : List GrantRow
  pub challenges : List Pending
  pub loaded : Loaded
  pub numbers : DeskNumbers

-- the same of what a desk looks things up in
abbrev pub desk_seen : DeskView → DeskSeen
desk_seen v = let t = told v.tables in record { peers = t.peers; agents = t.agents; grants = t.grants; challenges = t.challenges; loaded = v.loaded; numbers = v.numbers }

-- a desk stands for this history
pub record IsDeskFor (past : List Item) (d : DeskSeen) : Type 0 where
  pub peers_are : IsPeersOf past d.peers
  pub agents_are : d.agents ≡ in_force past
  pub grants_are : d.grants ≡ kept past
  pub challenges_are : d.challenges ≡ pending past
  pub loaded_is : d.loaded ≡ loaded_of past
  pub numbers_are : d.numbers ≡ numbers_of past

-- The desk stands for this history, which the item of this entry and load makes a longer legal one, and this is what the item changes.
pub record IsNextOf (e : Entry) (loaded : Option Loaded) (change : EntryChange) (d : DeskSeen) (past : List Item) (i : Item) : Type 0 where
  pub entry_is : i.entry ≡ e
  pub loaded_is : i.loaded ≡ loaded
  pub change_is : change ≡ change_of past i
  pub legal : Legal (i ∷ past)
  pub desk_is : IsDeskFor past d

-- the same in some history
pub record IsNext (e : Entry) (loaded : Option Loaded) (change : EntryChange) (d : DeskSeen) : Type 0 where
  pub past : List Item
  pub item : Item
  pub next : IsNextOf e loaded change d past item

-- Where this was done, the desk stands for each history with the item of an entry, load and change for which it stood before.
abbrev pub StandsNext : {A F : Type 0} → Entry → Option Loaded → EntryChange → DeskSeen → DeskSeen → Result A F → Type 0
StandsNext e loaded change old new result = (past : List Item) (i : Item) → IsNextOf e loaded change old past i → OnOk result (IsDeskFor (i ∷ past) new)

-- after each legal history that the desk stands for, the entry is that of the next item for what was handed in
abbrev pub IsAnswered : {F : Type 0} → Given → DeskSeen → Result Entry F → Type 0
IsAnswered g d result = (past : List Item) → Legal past → IsDeskFor past d → IfOk result (λ e. e ≡ (next past g).entry)

-- Where this was done, the desk stands for each legal history with the next item for what was handed in, for which it stood before.
abbrev pub CarriesOn : {A F : Type 0} → Given → DeskSeen → DeskSeen → Result A F → Type 0
CarriesOn g old new result = (past : List Item) → Legal past → IsDeskFor past old → OnOk result (IsDeskFor (next past g ∷ past) new)

-- there is a legal history that a desk stands for, and 32 bits count the actions and the rules in force
pub record StandsForOne (d : DeskSeen) : Type 0 where
  pub past : List Item
  pub legal : Legal past
  pub is : IsDeskFor past d
  pub actions : IsShort d.loaded.policy.actions
  pub rules : IsShort d.loaded.policy.entries

-- what a desk tells, as a view of a history
abbrev pub seen_of : DeskSeen → Seen
seen_of d = record {
  peer = row_in d.peers.rows;
  live = d.peers.live;
  sent = λ c. length (places_of d.peers.places c);
  agents = d.agents;
  grants = d.grants;
  challenges = d.challenges;
  loaded = d.loaded;
  counts = record { entries = d.peers.entries; loads = d.numbers.loads; opened = d.numbers.opened; made = d.numbers.made; last_moment = d.numbers.last_moment };
}
