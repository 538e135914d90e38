-- What plain lists tell.
use Rattle.std.specs.Prelude.{ℕ, ◌==◌, List, Option, option_map, find}
use Rattle.std.specs.Option.{option_map_or}
use Rattle.entry_changes.specs.declared.peer.Peer.{Peer}
use Rattle.journal_view.specs.Seen.{Seen}
use Rattle.plain_view.specs.declared.rows.PeerRow.{PeerRow}
use Rattle.plain_view.specs.declared.rows.SentRow.{SentRow}
use Rattle.plain_view.specs.declared.view.PlainView.{PlainView}

-- what is known of a connection among these
abbrev pub peer_among : List PeerRow → ℕ → Option Peer
peer_among rows c = option_map (λ (r : PeerRow). r.peer) (find (λ (r : PeerRow). r.caller == c) rows)

-- how many outputs went to a connection, by these rows
abbrev pub count_among : List SentRow → ℕ → ℕ
count_among rows c = option_map_or (λ (r : SentRow). r.count) (find (λ (r : SentRow). r.caller == c) rows) 0

-- what plain lists tell
abbrev pub plain_seen : PlainView → Seen
plain_seen v = record {
  peer = peer_among v.peers.now;
  live = v.live.now;
  sent = count_among v.sent.now;
  agents = v.agents.now;
  grants = v.grants.now;
  challenges = v.challenges.now;
  loaded = v.loaded.now;
  counts = v.counts;
}
