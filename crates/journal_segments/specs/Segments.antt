-- A history and the segment of it that is not yet written.
use Rattle.std.specs.Prelude.{ℕ, ◌≤◌, ◌<◌, ◌+◌, ◌-◌, Bool, ◌||◌, nat_le, nat_lt, if◌then◌else◌, List, [], length, Option, slice_get}
use Rattle.authority_model.specs.declared.journal.Item.{Item}
use Rattle.authority_model.specs.Legal.{Legal}
use Rattle.authority_desk.specs.Numbers.{output_count}
use Rattle.authority_desk.specs.Seen.{DeskSeen, IsDeskFor}
use Rattle.journal_segments.specs.declared.segmented.TheConstants.{MAX_ENTRIES, MAX_OUTPUTS}
use Rattle.journal_segments.specs.Due.{is_due}
use Rattle.journal_segments.specs.Text.{onto, segment_text}

-- How many entries a segment has, how many segments were written, the items of the segment so far, the oldest first, and what the desk tells.
pub record Segments : Type 0 where
  pub per : ℕ
  pub written : ℕ
  pub items : List Item
  pub desk : DeskSeen

-- The items of the segment stand after this history, and with them it is legal and the one that the desk stands for.
pub record IsSegmentedFor (done : List Item) (s : Segments) : Type 0 where
  pub legal : Legal (onto done s.items)
  pub desk_is : IsDeskFor (onto done s.items) s.desk

-- there is such a history, of no more than the greatest number of entries, and a segment has some
pub record IsSegmented (s : Segments) : Type 0 where
  pub done : List Item
  pub is : IsSegmentedFor done s
  pub few : s.desk.peers.entries ≤ MAX_ENTRIES
  pub some : 0 < s.per

-- the newest of items
abbrev pub last_of : List Item → Option Item
last_of items = slice_get items (length items - 1)

-- whether no further entry can be made after this history
abbrev pub is_full_after : List Item → Bool
is_full_after past = nat_le MAX_ENTRIES (length past) || nat_lt MAX_OUTPUTS (output_count past)

-- the same of what a desk tells
abbrev pub is_full : Segments → Bool
is_full s = nat_le MAX_ENTRIES s.desk.peers.entries || nat_lt MAX_OUTPUTS s.desk.numbers.outputs

-- what stands once the segment so far is written
abbrev pub once_written : Segments → Segments
once_written s = record { per = s.per; written = s.written + 1; items = []; desk = s.desk }

-- what stands once the segment so far is written, if it is full
abbrev pub after_due : Segments → Segments
after_due s = if is_due s.per s.items then once_written s else s

-- the history before the segment that goes on
abbrev pub done_after : List Item → Segments → List Item
done_after done s = if is_due s.per s.items then onto done s.items else done

-- what is written of the segment so far, if it is full
abbrev pub due_text : List Item → Segments → List ℕ
due_text done s = if is_due s.per s.items then segment_text (s.written + 1) done s.items else []

-- what is written of the segment so far, if it has an entry
abbrev pub rest_text : List Item → Segments → List ℕ
rest_text done s = if nat_lt 0 (length s.items) then segment_text (s.written + 1) done s.items else []

-- what stands once the rest is written
abbrev pub after_rest : Segments → Segments
after_rest s = if nat_lt 0 (length s.items) then once_written s else s
