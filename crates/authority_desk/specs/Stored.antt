-- The four tables: whose history they stand for, and the entry that is staged in them.
use Rattle.std.specs.Prelude.{◌≡◌, ◌<◌, ◌^◌, List, ◌∷◌, None, Some, length}
use Rattle.authority_model.specs.declared.journal.Entry.{Entry}
use Rattle.authority_model.specs.declared.journal.Item.{Item}
use Rattle.authority_model.specs.declared.pending.Agent.{Agent}
use Rattle.authority_model.specs.declared.pending.Pending.{Pending}
use Rattle.authority_model.specs.declared.verdict.GrantRow.{GrantRow}
use Rattle.authority_model.specs.declared.world.World.{World}
use Rattle.authority_model.specs.Agents.{in_force}
use Rattle.authority_model.specs.Challenges.{pending}
use Rattle.authority_model.specs.Grants.{kept}
use Rattle.authority_model.specs.Items.{world_of}
use Rattle.authority_model.specs.Legal.{Legal}
use Rattle.entry_changes.specs.declared.change.EntryChange.{EntryChange}
use Rattle.entry_changes.specs.Changes.{entry_change}
use Rattle.peer_book.specs.Book.{Peers, IsPeersOf, receivers, staged_for}
use Rattle.authority_desk.specs.declared.tables.Tables.{Tables}

-- What the tables tell, without what is staged: the connections and the outputs to each, the agents, the temporary authorizations and the challenges.
pub record Told : Type 0 where
  pub peers : Peers
  pub agents : List Agent
  pub grants : List GrantRow
  pub challenges : List Pending

-- the same of four tables
abbrev pub told : Tables → Told
told t = record { peers = staged_for None t.peers; agents = t.agents.items; grants = t.grants.items; challenges = t.challenges.items }

-- nothing is staged in any of the tables
pub record AreIdle (t : Tables) : Type 0 where
  pub peers_are : t.peers.staged ≡ None
  pub agents_are : t.agents.staged ≡ None
  pub grants_are : t.grants.staged ≡ None
  pub challenges_are : t.challenges.staged ≡ None

-- each table has its part of an entry with this change staged
pub record AreStaged (e : Entry) (change : EntryChange) (t : Tables) : Type 0 where
  pub peers_are : t.peers.staged ≡ Some (receivers e.outputs)
  pub agents_are : t.agents.staged ≡ Some change.agent
  pub grants_are : t.grants.staged ≡ Some change.grant
  pub challenges_are : t.challenges.staged ≡ Some change.challenge

-- the tables stand for this history
pub record AreTablesOf (past : List Item) (t : Told) : Type 0 where
  pub peers_are : IsPeersOf past t.peers
  pub agents_are : t.agents ≡ in_force past
  pub grants_are : t.grants ≡ kept past
  pub challenges_are : t.challenges ≡ pending past

-- what an item changes after this history
abbrev pub change_of : List Item → Item → EntryChange
change_of past i = entry_change past i.entry.caller i.entry.moment i.entry.salt i.entry.event i.loaded

-- The tables stand for this history, which the item of this entry makes a longer legal one with this world in force, and what that item changes is staged.
pub record AreReadyFor (e : Entry) (world : World) (t : Tables) (past : List Item) (i : Item) : Type 0 where
  pub entry_is : i.entry ≡ e
  pub world_is : world ≡ world_of (i ∷ past)
  pub legal : Legal (i ∷ past)
  pub short : length (i ∷ past) < 2 ^ 63
  pub tables_are : AreTablesOf past (told t)
  pub staged : AreStaged e (change_of past i) t

-- they are ready for an entry in some history
pub record AreReady (e : Entry) (world : World) (t : Tables) : Type 0 where
  pub past : List Item
  pub item : Item
  pub ready : AreReadyFor e world t past item

-- the tables stand for each history with the item of this entry, for which they were ready
abbrev pub TablesStandNext : Entry → World → Tables → Tables → Type 0
TablesStandNext e world old new = (past : List Item) (i : Item) → AreReadyFor e world old past i → AreTablesOf (i ∷ past) (told new)
