-- How many of each kind there are after a history.
use Rattle.std.specs.Prelude.{ℕ, ◌^◌, ◌-◌, List, length, filter, min}
use Rattle.authority_model.specs.declared.journal.Item.{Item}
use Rattle.authority_model.specs.Agents.{in_force}
use Rattle.authority_model.specs.Challenges.{pending}
use Rattle.authority_model.specs.Deciding.{is_live_at}
use Rattle.authority_model.specs.Grants.{kept}
use Rattle.authority_model.specs.Legal.{last_moment}
use Rattle.authority_model.specs.Peers.{live_connections}
use Rattle.authority_desk.specs.declared.counts.DeskCounts.{DeskCounts}
use Rattle.authority_desk.specs.Numbers.{output_count}
use Rattle.authority_desk.specs.Seen.{DeskSeen}

-- the live connections, the registrations in force, the pending challenges, the temporary authorizations that have not expired at the last moment, the entries and the outputs
abbrev pub counts_of : List Item → DeskCounts
counts_of past = record {
  live = length (live_connections past);
  agents = length (in_force past);
  pending = length (pending past);
  grants = length (filter (is_live_at (last_moment past)) (kept past));
  entries = length past;
  outputs = output_count past;
}

-- a number as 32 bits count it: the greatest of theirs where it is greater
abbrev pub in_word : ℕ → ℕ
in_word n = min n (2 ^ 32 - 1)

-- the same of what a desk tells, in its words
abbrev pub counts_seen : DeskSeen → DeskCounts
counts_seen d = record {
  live = in_word (length d.peers.live);
  agents = in_word (length d.agents);
  pending = in_word (length d.challenges);
  grants = in_word (length (filter (is_live_at d.numbers.last_moment) d.grants));
  entries = d.peers.entries;
  outputs = d.numbers.outputs;
}
