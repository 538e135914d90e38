-- What a journal in segments keeps, and what its file holds.
use Rattle.std.specs.Prelude.{ℕ, ◌≡◌, ◌<◌, ⊤, List, [], length, map, Option, IfSome}
use Rattle.authority_model.specs.declared.journal.Item.{Item}
use Rattle.pk_types.specs.Roomy.{Roomy}
use Rattle.journal_segments.specs.declared.segmented.SegmentRefused.{SegmentRefused}
use Rattle.journal_segments.specs.declared.segmented.SegmentRefused.TheVariants as segment_refused
use Rattle.journal_segments.specs.Segments.{IsSegmentedFor, Segments}
use Rattle.journal_segments.specs.Text.{onto, onto_all, segments_text}
use Rattle.scenario_run.specs.Text.{loads_of}
use Rattle.scenario_run.specs.declared.segmented.Standing.{Standing}
use Rattle.scenario_run.specs.declared.segmented.Standing.TheVariants as standing
use Rattle.scenario_run.specs.Counting.{actions_of}
use Rattle.scenario_run.specs.Cuts.{cut, cut_text}

-- A journal in segments as its callers see it: its items, the newest first, how many entries a segment has, its file, and how it stands.
pub record Recorded (F : Type 0) : Type 0 where
  pub past : List Item
  pub per : ℕ
  pub file : F
  pub standing : Standing

-- Each segment that is full and was followed by an item was written, and nothing else; the file did not fail.
pub record AreWritten (held : Option (List ℕ)) (faults : ℕ) (s : Segments) (done past : List Item) : Type 0 where
  pub last : s.items ≡ (cut s.per past).last
  pub count : s.written ≡ length (cut s.per past).full
  pub before : done ≡ onto_all [] (cut s.per past).full
  pub text : IfSome held (λ bytes. bytes ≡ segments_text 0 [] (cut s.per past).full)
  pub quiet : faults ≡ 0

-- what is known of the file, by how the journal stands
abbrev pub Stands : Option (List ℕ) → ℕ → Segments → List Item → List Item → Standing → Type 0
Stands held faults s done past standing.Going = AreWritten held faults s done past
Stands held faults s done past standing.Failed = 0 < faults
Stands held faults s done past standing.Ended = ⊤

-- The segment so far ends this history, and each load's actions were counted.
pub record IsRecorded (held : Option (List ℕ)) (faults : ℕ) (s : Segments) (actions : Roomy ℕ) (past : List Item) (stands : Standing) : Type 0 where
  pub done : List Item
  pub is : IsSegmentedFor done s
  pub whole : onto done s.items ≡ past
  pub counted : actions.items ≡ map actions_of (loads_of past)
  pub file : Stands held faults s done past stands

-- all segments of the history were written, and nothing else; the file did not fail
pub record IsFinished (held : Option (List ℕ)) (faults per : ℕ) (past : List Item) : Type 0 where
  pub text : IfSome held (λ bytes. bytes ≡ cut_text per past)
  pub quiet : faults ≡ 0

-- a file that failed counted it; a finishing is not refused as full, and want of memory is free
abbrev pub FinishFault : ℕ → SegmentRefused → Type 0
FinishFault faults segment_refused.SegmentFault = 0 < faults
FinishFault faults (segment_refused.Full entries) = ⊥
FinishFault faults segment_refused.NoMemory = ⊤
