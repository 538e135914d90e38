-- What a desk tells of a history is what a view of that history tells.
use Rattle.std.proofs.Common.{ℕ, List, ap, ◌∙◌, length}
use Rattle.authority_model.specs.declared.journal.Item.{Item}
use Rattle.journal_view.specs.Seen.{IsSeenOf}
use Rattle.journal_view.specs.declared.counts.ViewCounts.{ViewCounts}
use Rattle.authority_desk.specs.declared.numbers.DeskNumbers.{DeskNumbers}
use Rattle.authority_desk.specs.Seen.{DeskSeen, IsDeskFor, seen_of}

-- the counts of a view from those of a desk
abbrev counts_from : ℕ → DeskNumbers → ViewCounts
counts_from entries n = record { entries = entries; loads = n.loads; opened = n.opened; made = n.made; last_moment = n.last_moment }

-- a desk that stands for a history is a view of it
pub seen_is : (past : List Item) (d : DeskSeen) → IsDeskFor past d → IsSeenOf past (seen_of d)
seen_is past d h = record {
  peers_are = h.peers_are.rows_are;
  live_are = h.peers_are.live_are;
  sent_is = h.peers_are.sent_are;
  agents_are = h.agents_are;
  grants_are = h.grants_are;
  challenges_are = h.challenges_are;
  loaded_is = h.loaded_is;
  counts_are = ap (λ n. counts_from n d.numbers) h.peers_are.entries_are ∙ ap (counts_from (length past)) h.numbers_are;
}
