-- What a view of a history tells, and whose history that is.
use Rattle.std.specs.Prelude.{◌≡◌, ℕ, List, Option, length}
use Rattle.authority_model.specs.declared.load.Loaded.{Loaded}
use Rattle.entry_changes.specs.declared.peer.Peer.{Peer}
use Rattle.authority_model.specs.declared.pending.Agent.{Agent}
use Rattle.authority_model.specs.declared.pending.Pending.{Pending}
use Rattle.authority_model.specs.declared.verdict.GrantRow.{GrantRow}
use Rattle.authority_model.specs.declared.journal.Item.{Item}
use Rattle.authority_model.specs.Items.{loaded_of, sent as sent_count}
use Rattle.entry_changes.specs.Known.{known}
use Rattle.authority_model.specs.Peers.{live_connections}
use Rattle.authority_model.specs.Agents.{in_force}
use Rattle.authority_model.specs.Grants.{kept, made}
use Rattle.authority_model.specs.Challenges.{pending, opened_count}
use Rattle.authority_model.specs.Answers.{loads}
use Rattle.authority_model.specs.Legal.{last_moment}
use Rattle.journal_view.specs.declared.counts.ViewCounts.{ViewCounts}

-- What is told: of each connection its row and how many outputs went to it, the live connections by rising number, the agents in force, the grants that nothing ended, the pending challenges in the order of opening, the load in force and the counts.
pub record Seen : Type 0 where
  pub peer : ℕ → Option Peer
  pub live : List ℕ
  pub sent : ℕ → ℕ
  pub agents : List Agent
  pub grants : List GrantRow
  pub challenges : List Pending
  pub loaded : Loaded
  pub counts : ViewCounts

-- the counts of a history
abbrev pub counts_of : List Item → ViewCounts
counts_of past = record { entries = length past; loads = loads past; opened = opened_count past; made = made past; last_moment = last_moment past }

-- what is told is what the definitions say of this history
pub record IsSeenOf (past : List Item) (s : Seen) : Type 0 where
  pub peers_are : (c : ℕ) → s.peer c ≡ known past c
  pub live_are : s.live ≡ live_connections past
  pub sent_is : (c : ℕ) → s.sent c ≡ sent_count past c
  pub agents_are : s.agents ≡ in_force past
  pub grants_are : s.grants ≡ kept past
  pub challenges_are : s.challenges ≡ pending past
  pub loaded_is : s.loaded ≡ loaded_of past
  pub counts_are : s.counts ≡ counts_of past

-- what holds of each history of which this is told
abbrev pub ForHistory : Seen → (List Item → Type 0) → Type 0
ForHistory s P = (past : List Item) → IsSeenOf past s → P past
