-- The counts of the printed lines.
use Rattle.std.specs.Prelude.{◌≡◌, ◌≤◌, ℕ, ◌+◌, Bool, true, false, ◌&&◌, if◌then◌else◌, List, [], ◌∷◌, length}
use Rattle.authority_model.specs.declared.event.Event.{Event}
use Rattle.authority_model.specs.declared.event.Event.TheVariants.{Connect, Depart}
use Rattle.authority_model.specs.declared.journal.Item.{Item}
use Rattle.authority_model.specs.Items.{is_load, sent}
use Rattle.authority_model.specs.Peers.{is_by}
use Rattle.journal_scan.specs.declared.counts.Tally.{Tally}
use Rattle.journal_scan.specs.declared.counts.Totals.{Totals}
use Rattle.journal_scan.specs.Loading.{is_failed_load, is_unlisting, loads_due}

-- whether an event came by a message of a connection: it is not its Connect and not its Depart
abbrev pub is_message : Event → Bool
is_message (Connect uid) = false
is_message Depart = false
is_message _ = true

-- how many items pass a test
abbrev pub how_many : (Item → Bool) → List Item → ℕ
how_many test [] = 0
how_many test (i ∷ past) = how_many test past + (if test i then 1 else 0)

-- how many entries of a connection came by its messages
abbrev pub messages_of : List Item → ℕ → ℕ
messages_of past c = how_many (λ i. is_by c i && is_message i.entry.event) past

-- what is counted of a connection: the entries of its messages, and the outputs to it
abbrev pub tally_of : List Item → ℕ → Tally
tally_of past c = record { messages = messages_of past c; answers = sent past c }

-- nothing is counted of a number at or above this one: it has no entries of messages, and no outputs
abbrev pub NothingFrom : List Item → ℕ → Type 0
NothingFrom past size = (c : ℕ) → size ≤ c → tally_of past c ≡ record { messages = 0; answers = 0 }

-- what is counted of all: the entries, the loads, those of sighters among them, the refused loads, and the loads that were wanted before the Stop
abbrev pub totals_of : List Item → Totals
totals_of past = record {
  entries = length past;
  loads = how_many (λ i. is_load i.entry.event) past;
  unlisted = how_many is_unlisting past;
  refused = how_many (λ i. is_failed_load i.entry.event) past;
  wanted = loads_due past;
}
