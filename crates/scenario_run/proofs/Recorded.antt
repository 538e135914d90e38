-- What a call leaves of a journal in segments.
use Rattle.std.proofs.Common.{◌≡◌, ℕ, ◌+◌, ◌-◌, ◌^◌, ◌<◌, ◌≤◌, ◌++◌, Bool, true, false, List, [], ◌∷◌, Option, Some, None, Result, Ok, Err, IfSome, refl, ap, sym, subst, ◌∙◌, length, arith, inl, inr}
use Rattle.std.specs.Prelude.{if◌then◌else◌, ◌⊎◌, ◌||◌, map, min, nat_le, nat_lt}
use Rattle.pk_outside.specs.Causes.{FailsLast, one_more}
use Rattle.pk_outside.specs.Streams.{Got, IsUsedUp}
use Rattle.pk_types.specs.Roomy.{Roomy}
use Rattle.authority_model.specs.declared.journal.Item.{Item}
use Rattle.authority_model.specs.Given.{Given, next}
use Rattle.authority_model.specs.Legal.{Legal}
use Rattle.authority_desk.specs.Numbers.{output_count}
use Rattle.authority_desk.specs.Seen.{IsDeskFor}
use Rattle.journal_segments.specs.declared.segmented.TheConstants.{MAX_ENTRIES, MAX_OUTPUTS}
use Rattle.journal_segments.specs.declared.segmented.SegmentRefused.{SegmentRefused}
use Rattle.journal_segments.specs.declared.segmented.SegmentRefused.TheVariants as segment_refused
use Rattle.journal_segments.specs.Segments.{IsSegmentedFor, Segments, after_due, after_rest, done_after, due_text, is_full, is_full_after, last_of, once_written, rest_text}
use Rattle.journal_segments.specs.Steps.{FileFaults, IsEntered, IsFullExactly, Writes, WritesAll}
use Rattle.journal_segments.specs.Text.{onto}
use Rattle.journal_segments.proofs.Onto.{due_for, due_onto}
use Rattle.scenario_run.specs.Journals.{IsDue}
use Rattle.scenario_run.specs.Room.{Cutting, full_at, fullness_in_segments, in_segments}
use Rattle.scenario_run.specs.Text.{loads_of}
use Rattle.scenario_run.specs.declared.segmented.Standing.{Standing}
use Rattle.scenario_run.specs.declared.segmented.Standing.TheVariants as standing
use Rattle.scenario_run.specs.Counting.{actions_of}
use Rattle.scenario_run.specs.Recorded.{FinishFault, IsFinished, IsRecorded, Recorded, Stands}
use Rattle.scenario_run.specs.Refusals.{refused_of, standing_after}
use Rattle.scenario_run.proofs.Newest.{last_push}
use Rattle.scenario_run.proofs.Written.{none_written, rest_written, written_more}

-- a count that rose is above 0
rose_some : (n m : ℕ) → n ≡ one_more m → 0 < n
rose_some n m e = omega (arith, e)

fails_some : {F : Type 0} (held : F → Option (List ℕ)) (faults : F → ℕ) (before now : F) → FailsLast held faults before now → 0 < faults now
fails_some held faults before now f = rose_some (faults now) (faults f.moment) f.counted

-- before the first item
pub recorded_none : (s : Segments) (held : Option (List ℕ)) (faults : ℕ) (actions : Roomy ℕ) (past : List Item) → past ≡ [] → actions.items ≡ [] → s.items ≡ [] → s.written ≡ 0 → IsSegmentedFor [] s → IsUsedUp held → faults ≡ 0
    → IsRecorded held faults s actions past standing.Going
recorded_none s held faults actions past empty uncounted none first is unwritten sound = subst (λ p. IsRecorded held faults s actions p standing.Going) (sym empty) (record {
  done = [];
  is = is;
  whole = ap (onto []) none;
  counted = uncounted;
  file = none_written s held faults none first unwritten sound;
})

-- how a journal that goes on stands with one more item
stands_more : (st : Standing) (g : Given) (s s' : Segments) (done past : List Item) (held held' : Option (List ℕ)) (faults faults' : ℕ) → Stands held faults s done past st → onto done s.items ≡ past → IsEntered g done s s'
    → Got held held' (due_text done s) → faults' ≡ faults → Stands held' faults' s' (done_after done s) (next past g ∷ past) st
stands_more standing.Going g s s' done past held held' faults faults' st whole e got same = written_more g s s' done past held held' faults faults' st whole e got same
stands_more standing.Failed g s s' done past held held' faults faults' st whole e got same = subst (λ n. 0 < n) (sym same) st
stands_more standing.Ended g s s' done past held held' faults faults' st whole e got same = tt

-- one more item was entered; the items that proofs see have it too
pub recorded_more : (g : Given) (s s' : Segments) (past seen : List Item) (newest : Item) (held held' : Option (List ℕ)) (faults faults' : ℕ) (actions actions' : Roomy ℕ) (st : Standing)
    → IsRecorded held faults s actions past st
    → ((done : List Item) → IsSegmentedFor done s → IsEntered g done s s')
    → ((done : List Item) → IsSegmentedFor done s → Got held held' (due_text done s))
    → faults' ≡ faults → seen ≡ newest ∷ past → Some newest ≡ last_of s'.items → actions'.items ≡ map actions_of (loads_of (next past g ∷ past))
    → IsRecorded held' faults' s' actions' seen st × (seen ≡ next past g ∷ past)
recorded_more g s s' past seen newest held held' faults faults' actions actions' st r enters wrote same sees last counted = (
  subst (λ p. IsRecorded held' faults' s' actions' p st) (sym as_seen) (record {
    done = done_after r.done s;
    is = e.is;
    whole = e.history ∙ ap (λ p. next p g ∷ p) r.whole;
    counted = counted;
    file = stands_more st g s s' r.done past held held' faults faults' r.file r.whole e (wrote r.done r.is) same;
  }),
  as_seen,
)
  where
    e : IsEntered g r.done s s'
    e = enters r.done r.is

    is_it : Some newest ≡ Some (next past g)
    is_it = last ∙ ap last_of e.items ∙ last_push (after_due s).items (next (onto r.done s.items) g) ∙ ap (λ p. Some (next p g)) r.whole

    same_item : newest ≡ next past g
    same_item = let h = is_it in cc

    as_seen : seen ≡ next past g ∷ past
    as_seen = sees ∙ ap (λ i. i ∷ past) same_item

-- nothing was entered: it was refused
pub recorded_refused : {F : Type 0} (held : F → Option (List ℕ)) (faults : F → ℕ) (why : SegmentRefused) (s s' : Segments) (past : List Item) (file file' : F) (actions : Roomy ℕ) (st : Standing)
    → IsRecorded (held file) (faults file) s actions past st
    → ((done : List Item) → IsSegmentedFor done s → Writes held (due_text done s) s s' file file' (Err why))
    → FileFaults held faults file file' (Err why)
    → IsRecorded (held file') (faults file') s' actions past (standing_after st why)
recorded_refused held faults (segment_refused.Full entries) s s' past file file' actions st r wrote quiet =
    let w = wrote r.done r.is in
    subst (λ (x : Segments). IsRecorded (held file') (faults file') x actions past st) (sym w.0)
    (subst (λ h. IsRecorded h (faults file') s actions past st) (sym w.1) (subst (λ n. IsRecorded (held file) n s actions past st) (sym quiet) r))
recorded_refused held faults segment_refused.SegmentFault s s' past file file' actions st r wrote fails =
    let w = wrote r.done r.is in
    subst (λ (x : Segments). IsRecorded (held file') (faults file') x actions past standing.Failed) (sym w.0)
    (record { done = r.done; is = r.is; whole = r.whole; counted = r.counted; file = fails_some held faults file file' fails })
recorded_refused held faults segment_refused.NoMemory s s' past file file' actions st r wrote quiet = of (wrote r.done r.is)
  where
    of : ((s' ≡ s) × (held file' ≡ held file)) ⊎ ((s' ≡ after_due s) × Got (held file) (held file') (due_text r.done s)) → IsRecorded (held file') (faults file') s' actions past standing.Ended
    of (inl w) = subst (λ (x : Segments). IsRecorded (held file') (faults file') x actions past standing.Ended) (sym w.0) (record { done = r.done; is = r.is; whole = r.whole; counted = r.counted; file = tt })
    of (inr w) =
        subst (λ (x : Segments). IsRecorded (held file') (faults file') x actions past standing.Ended) (sym w.0)
        (record { done = done_after r.done s; is = due_for r.done s r.is; whole = due_onto r.done s ∙ r.whole; counted = r.counted; file = tt })

-- the desk is full exactly where the history is
full_is : (s : Segments) (done past : List Item) → IsSegmentedFor done s → onto done s.items ≡ past → is_full s ≡ is_full_after past
full_is s done past is whole =
    ap (λ n. nat_le MAX_ENTRIES n || nat_lt MAX_OUTPUTS s.desk.numbers.outputs) is.desk_is.peers_are.entries_are
    ∙ ap (λ n. nat_le MAX_ENTRIES (length (onto done s.items)) || nat_lt MAX_OUTPUTS n) (ap (λ n. n.outputs) is.desk_is.numbers_are)
    ∙ ap is_full_after whole

room_by : (cutting : Cutting) (past : List Item) → is_full_after past ≡ false → full_at (in_segments cutting) past ≡ None
room_by cutting past e = rw e refl

filled_by : (cutting : Cutting) (past : List Item) → is_full_after past ≡ true → full_at (in_segments cutting) past ≡ Some (fullness_in_segments past)
filled_by cutting past e = rw e refl

-- a journal that took an item had room
pub had_room : (cutting : Cutting) (s : Segments) (held : Option (List ℕ)) (faults : ℕ) (actions : Roomy ℕ) (past : List Item) (st : Standing) → IsRecorded held faults s actions past st → is_full s ≡ false
    → full_at (in_segments cutting) past ≡ None
had_room cutting s held faults actions past st r free = room_by cutting past (sym (full_is s r.done past r.is r.whole) ∙ free)

-- one that refused was full where it said so
pub refused_due : (cutting : Cutting) (why : SegmentRefused) (s : Segments) (held : Option (List ℕ)) (faults : ℕ) (actions : Roomy ℕ) (past : List Item) (st : Standing) → IsRecorded held faults s actions past st
    → IsFullExactly s (Err why) → IsDue (in_segments cutting) past (refused_of why)
refused_due cutting (segment_refused.Full entries) s held faults actions past st r exactly =
    filled_by cutting past (sym (full_is s r.done past r.is r.whole) ∙ exactly.0)
    ∙ ap (λ n. Some (record { entries = n; bytes = 0 })) (sym (exactly.1 ∙ r.is.desk_is.peers_are.entries_are ∙ ap (λ (xs : List Item). length xs) r.whole))
refused_due cutting segment_refused.SegmentFault s held faults actions past st r exactly = tt
refused_due cutting segment_refused.NoMemory s held faults actions past st r exactly = tt

-- the history is legal
pub recorded_legal : (s : Segments) (held : Option (List ℕ)) (faults : ℕ) (actions : Roomy ℕ) (past : List Item) (st : Standing) → IsRecorded held faults s actions past st → Legal past
recorded_legal s held faults actions past st r = subst Legal r.whole r.is.legal

-- the rest was written
pub finished : (s : Segments) (held held' : Option (List ℕ)) (faults faults' : ℕ) (actions : Roomy ℕ) (past : List Item) → IsRecorded held faults s actions past standing.Going
    → ((done : List Item) → IsSegmentedFor done s → Got held held' (rest_text done s)) → faults' ≡ faults → IsFinished held' faults' s.per past
finished s held held' faults faults' actions past r wrote same = rest_written s r.done past held held' faults faults' r.file (wrote r.done r.is) same

-- nothing more is written once the rest was
rest_for : (b : Bool) (s : Segments) (done : List Item) → IsSegmentedFor done s → IsSegmentedFor (if b then onto done s.items else done) (if b then once_written s else s)
rest_for true s done is = record { legal = is.legal; desk_is = is.desk_is }
rest_for false s done is = is

rest_onto : (b : Bool) (s : Segments) (done : List Item) → onto (if b then onto done s.items else done) (if b then once_written s else s).items ≡ onto done s.items
rest_onto true s done = refl
rest_onto false s done = refl

pub recorded_rest : (s s' : Segments) (held held' : Option (List ℕ)) (faults faults' : ℕ) (actions : Roomy ℕ) (past : List Item) (st : Standing) → IsRecorded held faults s actions past st → s' ≡ after_rest s
    → IsRecorded held' faults' s' actions past standing.Ended
recorded_rest s s' held held' faults faults' actions past st r same = subst (λ (x : Segments). IsRecorded held' faults' x actions past standing.Ended) (sym same) (record {
  done = if nat_lt 0 (length s.items) then onto r.done s.items else r.done;
  is = rest_for (nat_lt 0 (length s.items)) s r.done r.is;
  whole = rest_onto (nat_lt 0 (length s.items)) s r.done ∙ r.whole;
  counted = r.counted;
  file = tt;
})

-- the rest was refused
unfinished : {F : Type 0} (held : F → Option (List ℕ)) (faults : F → ℕ) (why : SegmentRefused) (s : Segments) (past : List Item) (file file' : F) (actions : Roomy ℕ) (st : Standing)
    → IsRecorded (held file) (faults file) s actions past st → FileFaults held faults file file' (Err why) → IsRecorded (held file') (faults file') s actions past (standing_after standing.Ended why)
unfinished held faults (segment_refused.Full entries) s past file file' actions st r quiet = record { done = r.done; is = r.is; whole = r.whole; counted = r.counted; file = tt }
unfinished held faults segment_refused.SegmentFault s past file file' actions st r fails =
    record { done = r.done; is = r.is; whole = r.whole; counted = r.counted; file = fails_some held faults file file' fails }
unfinished held faults segment_refused.NoMemory s past file file' actions st r quiet = record { done = r.done; is = r.is; whole = r.whole; counted = r.counted; file = tt }

pub recorded_unfinished : {F : Type 0} (held : F → Option (List ℕ)) (faults : F → ℕ) (why : SegmentRefused) (s s' : Segments) (past : List Item) (file file' : F) (actions : Roomy ℕ) (st : Standing)
    → IsRecorded (held file) (faults file) s actions past st → s' ≡ s → FileFaults held faults file file' (Err why) → IsRecorded (held file') (faults file') s' actions past (standing_after standing.Ended why)
recorded_unfinished held faults why s s' past file file' actions st r same fails =
    subst (λ (x : Segments). IsRecorded (held file') (faults file') x actions past (standing_after standing.Ended why)) (sym same) (unfinished held faults why s past file file' actions st r fails)

-- why the rest is refused
pub finish_fault : {F : Type 0} (held : F → Option (List ℕ)) (faults : F → ℕ) (why : SegmentRefused) (s : Segments) (past : List Item) (file file' : F) (actions : Roomy ℕ) (st : Standing)
    → IsRecorded (held file) (faults file) s actions past st → ((done : List Item) → IsSegmentedFor done s → WritesAll held (rest_text done s) file file' (Err why)) → FileFaults held faults file file' (Err why)
    → FinishFault (faults file') why
finish_fault held faults (segment_refused.Full entries) s past file file' actions st r wrote quiet = wrote r.done r.is
finish_fault held faults segment_refused.SegmentFault s past file file' actions st r wrote fails = fails_some held faults file file' fails
finish_fault held faults segment_refused.NoMemory s past file file' actions st r wrote quiet = tt

-- a file that failed counted it
pub failed_some : (s : Segments) (held : Option (List ℕ)) (faults : ℕ) (actions : Roomy ℕ) (past : List Item) (st : Standing) → IsRecorded held faults s actions past st → st ≡ standing.Failed → 0 < faults
failed_some s held faults actions past st r is = (subst (λ x. IsRecorded held faults s actions past x) is r).file

-- # What is seen of a journal in segments

-- its items
pub past_seen : {F : Type 0} (v w : Recorded F) → v ≡ w → v.past ≡ w.past
past_seen v w is = ap (λ x. x.past) is

-- all segments of them were written
pub finished_seen : {F : Type 0} (v w : Recorded F) (held : Option (List ℕ)) (faults : ℕ) → v ≡ w → IsFinished held faults v.per v.past → IsFinished held faults w.per w.past
finished_seen v w held faults is done = subst (λ x. IsFinished held faults x.per x.past) is done

-- it goes on
pub going : (held : Option (List ℕ)) (faults : ℕ) (s : Segments) (actions : Roomy ℕ) (past : List Item) (st : Standing) → st ≡ standing.Going → IsRecorded held faults s actions past st → IsRecorded held faults s actions past standing.Going
going held faults s actions past st is r = subst (IsRecorded held faults s actions past) is r

-- room was taken for one more count
pub recounted : (held : Option (List ℕ)) (faults : ℕ) (s : Segments) (actions actions' : Roomy ℕ) (past : List Item) (st : Standing) → actions'.items ≡ actions.items → IsRecorded held faults s actions past st → IsRecorded held faults s actions' past st
recounted held faults s actions actions' past st same r = record { done = r.done; is = r.is; whole = r.whole; counted = same ∙ r.counted; file = r.file }
