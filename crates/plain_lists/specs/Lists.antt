-- Whose history plain lists are, and how an entry moves them.
use Rattle.std.specs.Prelude.{◌≡◌, ℕ, ◌+◌, if◌then◌else◌, List, ◌∷◌}
use Rattle.authority_model.specs.declared.journal.Entry.{Entry}
use Rattle.authority_model.specs.declared.journal.Item.{Item}
use Rattle.authority_model.specs.declared.load.Loaded.{Loaded}
use Rattle.authority_model.specs.declared.world.World.{World}
use Rattle.authority_model.specs.Agents.{in_force}
use Rattle.authority_model.specs.Challenges.{pending}
use Rattle.authority_model.specs.Grants.{kept}
use Rattle.authority_model.specs.Items.{is_load, sent, world_of}
use Rattle.authority_model.specs.Legal.{Legal}
use Rattle.authority_model.specs.Peers.{live_connections}
use Rattle.entry_changes.specs.declared.change.ChallengeChange.{ChallengeChange}
use Rattle.entry_changes.specs.declared.change.EntryChange.{EntryChange}
use Rattle.entry_changes.specs.Changes.{entry_change}
use Rattle.entry_changes.specs.Known.{known}
use Rattle.change_laws.specs.GrantCounts.{additions}
use Rattle.journal_view.specs.declared.counts.ViewCounts.{ViewCounts}
use Rattle.journal_view.specs.Seen.{Seen, counts_of}
use Rattle.plain_view.specs.Plain.{count_among, peer_among}
use Rattle.plain_lists.specs.declared.lists.PlainLists.{PlainLists}

-- what the lists tell, with this load in force
abbrev pub lists_seen : PlainLists → Loaded → Seen
lists_seen l loaded = record {
  peer = peer_among l.peers.items;
  live = l.live.items;
  sent = count_among l.sent.items;
  agents = l.agents.items;
  grants = l.grants.items;
  challenges = l.challenges.items;
  loaded = loaded;
  counts = l.counts;
}

-- the lists are those of this history
pub record AreListsOf (past : List Item) (l : PlainLists) : Type 0 where
  pub peers_are : (c : ℕ) → peer_among l.peers.items c ≡ known past c
  pub live_are : l.live.items ≡ live_connections past
  pub sent_is : (c : ℕ) → count_among l.sent.items c ≡ sent past c
  pub agents_are : l.agents.items ≡ in_force past
  pub grants_are : l.grants.items ≡ kept past
  pub challenges_are : l.challenges.items ≡ pending past
  pub counts_are : l.counts ≡ counts_of past

-- how many challenges a change opens
abbrev pub openings : ChallengeChange → ℕ
openings (ChallengeChange.Begun row) = 1
openings _ = 0

-- the counts after an entry with this change
abbrev pub counts_after : Entry → EntryChange → ViewCounts → ViewCounts
counts_after e change n = record {
  entries = n.entries + 1;
  loads = n.loads + (if is_load e.event then 1 else 0);
  opened = n.opened + openings change.challenge;
  made = n.made + additions change.grant;
  last_moment = e.moment;
}

-- what an item changes after this history
abbrev pub change_of : List Item → Item → EntryChange
change_of past i = entry_change past i.entry.caller i.entry.moment i.entry.salt i.entry.event i.loaded

-- The lists are those of this history, which the item of this entry makes a longer legal one with this world in force, and this is what the item changes.
pub record AreNextOf (e : Entry) (world : World) (change : EntryChange) (l : PlainLists) (past : List Item) (i : Item) : Type 0 where
  pub entry_is : i.entry ≡ e
  pub world_is : world ≡ world_of (i ∷ past)
  pub change_is : change ≡ change_of past i
  pub legal : Legal (i ∷ past)
  pub lists_are : AreListsOf past l

-- the same in some history
pub record AreNext (e : Entry) (world : World) (change : EntryChange) (l : PlainLists) : Type 0 where
  pub past : List Item
  pub item : Item
  pub next : AreNextOf e world change l past item
