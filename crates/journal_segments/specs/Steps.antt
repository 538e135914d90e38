-- What a step does to a segment, and what it writes.
use Rattle.std.specs.Prelude.{ℕ, ◌≡◌, ◌⊎◌, true, false, List, [], ◌∷◌, ◌++◌, Option, Result, Ok, Err}
use Rattle.pk_outside.specs.Causes.{FailsLast}
use Rattle.pk_outside.specs.Streams.{Got, GotFront}
use Rattle.authority_model.specs.declared.journal.Item.{Item}
use Rattle.authority_model.specs.Given.{Given, next}
use Rattle.journal_segments.specs.declared.segmented.SegmentRefused.{SegmentRefused}
use Rattle.journal_segments.specs.declared.segmented.SegmentRefused.TheVariants as refused
use Rattle.journal_segments.specs.Segments.{IsSegmentedFor, Segments, after_due, done_after, is_full}
use Rattle.journal_segments.specs.Text.{onto}

-- The item of what was handed in comes after the segment so far, or begins the next segment where the one so far was full.
pub record IsEntered (g : Given) (done : List Item) (old new : Segments) : Type 0 where
  pub items : new.items ≡ (after_due old).items ++ next (onto done old.items) g ∷ []
  pub written : new.written ≡ (after_due old).written
  pub per : new.per ≡ old.per
  pub is : IsSegmentedFor (done_after done old) new
  pub history : onto (done_after done old) new.items ≡ next (onto done old.items) g ∷ onto done old.items

-- The item of what was handed in comes after the segment so far.
pub record IsAdded (g : Given) (done : List Item) (old new : Segments) : Type 0 where
  pub items : new.items ≡ old.items ++ next (onto done old.items) g ∷ []
  pub written : new.written ≡ old.written
  pub per : new.per ≡ old.per
  pub is : IsSegmentedFor done new
  pub history : onto done new.items ≡ next (onto done old.items) g ∷ onto done old.items

-- What a call wrote of a text, by its answer: all of it, a prefix where the file failed, and else nothing.
abbrev pub WritesAll : {F : Type 0} → (F → Option (List ℕ)) → List ℕ → F → F → Result (Unit {0}) SegmentRefused → Type 0
WritesAll held text file now (Ok u) = Got (held file) (held now) text
WritesAll held text file now (Err refused.SegmentFault) = GotFront (held file) (held now) text
WritesAll held text file now (Err (refused.Full entries)) = ⊥
WritesAll held text file now (Err refused.NoMemory) = held now ≡ held file

-- What a step wrote of the text that was due, by its answer.
abbrev pub Writes : {F : Type 0} → (F → Option (List ℕ)) → List ℕ → Segments → Segments → F → F → Result (Unit {0}) SegmentRefused → Type 0
Writes held due old new file now (Ok u) = Got (held file) (held now) due
Writes held due old new file now (Err refused.SegmentFault) = (new ≡ old) × GotFront (held file) (held now) due
Writes held due old new file now (Err (refused.Full entries)) = (new ≡ old) × (held now ≡ held file)
Writes held due old new file now (Err refused.NoMemory) = ((new ≡ old) × (held now ≡ held file)) ⊎ ((new ≡ after_due old) × Got (held file) (held now) due)

-- A fault was counted by the last write to the file, and by none before it; every other answer leaves the count.
abbrev pub FileFaults : {F : Type 0} → (F → Option (List ℕ)) → (F → ℕ) → F → F → Result (Unit {0}) SegmentRefused → Type 0
FileFaults held faults file now (Ok u) = faults now ≡ faults file
FileFaults held faults file now (Err refused.SegmentFault) = FailsLast held faults file now
FileFaults held faults file now (Err (refused.Full entries)) = faults now ≡ faults file
FileFaults held faults file now (Err refused.NoMemory) = faults now ≡ faults file

-- It is refused as full exactly where it is, with the number of entries.
abbrev pub IsFullExactly : Segments → Result (Unit {0}) SegmentRefused → Type 0
IsFullExactly s (Ok u) = is_full s ≡ false
IsFullExactly s (Err (refused.Full entries)) = (is_full s ≡ true) × (entries ≡ s.desk.peers.entries)
IsFullExactly s (Err refused.SegmentFault) = is_full s ≡ false
IsFullExactly s (Err refused.NoMemory) = is_full s ≡ false
