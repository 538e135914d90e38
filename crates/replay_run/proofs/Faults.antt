-- The counts of faults after one call and then another.
use Rattle.std.proofs.Common.{◌≡◌, ℕ, List, Option, Result, Ok, Err, refl, sym, subst, ◌∙◌}
use Rattle.std.specs.Result.{IsErrAnd}
use Rattle.pk_outside.specs.Causes.{FailsLast}
use Rattle.scenario_text.specs.declared.fault.LineKind.{LineKind}
use Rattle.scenario_text.specs.declared.fault.LineKind.TheVariants as kind
use Rattle.scenario_run.specs.declared.scenario.LineStop.{LineStop}
use Rattle.scenario_run.specs.declared.scenario.LineStop.TheVariants as stop
use Rattle.replay_run.specs.declared.ends.Stopped.{Stopped}
use Rattle.replay_run.specs.declared.ends.Stopped.TheVariants as stopped
use Rattle.replay_run.specs.declared.ends.ReplayEnd.{ReplayEnd}
use Rattle.replay_run.specs.declared.ends.ReplayEnd.TheVariants as end
use Rattle.replay_run.specs.declared.written.WriteRefused.{WriteRefused}
use Rattle.replay_run.specs.declared.written.WriteRefused.TheVariants as refused
use Rattle.replay_run.specs.Faults.{InputFaults, OutputFaults, LineWrites, AnswerWrites}
use Rattle.replay_run.specs.Lines.{end_of, end_of_write, stop_at, stop_of}

-- the last call failed, and none before it, from an earlier moment on that had the same count
pub fails_later : {S : Type 0} (content : S → Option (List ℕ)) (faults : S → ℕ) (first before now : S) → faults before ≡ faults first
    → FailsLast content faults before now → FailsLast content faults first now
fails_later content faults first before now quiet failed = record {
  moment = failed.moment;
  quiet = failed.quiet ∙ quiet;
  counted = failed.counted;
  same = failed.same;
}

-- answer lines after others that were written
pub answers_later : {S : Type 0} (held : S → Option (List ℕ)) (faults : S → ℕ) (first before now : S) (result : Result (Unit {0}) WriteRefused)
    → faults before ≡ faults first → AnswerWrites held faults before now result → AnswerWrites held faults first now result
answers_later held faults first before now (Ok done) quiet writes = writes ∙ quiet
answers_later held faults first before now (Err refused.Failed) quiet writes = fails_later held faults first before now quiet writes
answers_later held faults first before now (Err refused.NoMemory) quiet writes = writes ∙ quiet

-- answer lines after others that were written, the last of which was refused
pub answers_refused : {S : Type 0} (held : S → Option (List ℕ)) (faults : S → ℕ) (first before now : S) (result : Result (Unit {0}) WriteRefused) (e : WriteRefused)
    → IsErrAnd result (λ (y : WriteRefused). y ≡ e) → faults before ≡ faults first → AnswerWrites held faults before now (Err e) → AnswerWrites held faults first now result
answers_refused held faults first before now (Ok done) e is quiet writes = absurd is
answers_refused held faults first before now (Err y) e is quiet writes =
    subst (λ (r : WriteRefused). AnswerWrites held faults first now (Err r)) (sym is) (answers_later held faults first before now (Err e) quiet writes)

-- a line with a fault writes nothing
fault_writes : {S : Type 0} (held : S → Option (List ℕ)) (faults : S → ℕ) (output : S) (fault : LineKind) → LineWrites held faults output output (Err (stop_at fault))
fault_writes held faults output kind.NoMemory = refl
fault_writes held faults output other = refl

-- a line that stopped the run before its answers writes nothing
pub stop_writes : {S : Type 0} (held : S → Option (List ℕ)) (faults : S → ℕ) (output : S) (st : LineStop) → LineWrites held faults output output (Err (stop_of st))
stop_writes held faults output (stop.Fault fault) = fault_writes held faults output fault.kind
stop_writes held faults output (stop.Full full) = refl
stop_writes held faults output stop.SegmentFault = refl

-- a run that a line stopped had no read fault
pub stopped_reads : {S : Type 0} (left : S → Option (List ℕ)) (faults : S → ℕ) (before now : S) (e : Stopped) (n : ℕ) → faults now ≡ faults before
    → InputFaults left faults before now (end_of e n)
stopped_reads left faults before now (stopped.Fault kind) n quiet = quiet
stopped_reads left faults before now (stopped.Full full) n quiet = quiet
stopped_reads left faults before now stopped.SegmentFault n quiet = quiet
stopped_reads left faults before now stopped.WriteFault n quiet = quiet
stopped_reads left faults before now stopped.NoMemory n quiet = quiet

-- a run that a line stopped has the write fault of that line
pub stopped_writes : {S : Type 0} (held : S → Option (List ℕ)) (faults : S → ℕ) (first before now : S) (e : Stopped) (n : ℕ) → faults before ≡ faults first
    → LineWrites held faults before now (Err e) → OutputFaults held faults first now (end_of e n)
stopped_writes held faults first before now (stopped.Fault kind) n quiet writes = writes ∙ quiet
stopped_writes held faults first before now (stopped.Full full) n quiet writes = writes ∙ quiet
stopped_writes held faults first before now stopped.SegmentFault n quiet writes = writes ∙ quiet
stopped_writes held faults first before now stopped.WriteFault n quiet writes = fails_later held faults first before now quiet writes
stopped_writes held faults first before now stopped.NoMemory n quiet writes = writes ∙ quiet

-- the faults of a run that began behind writes that went well
pub outputs_later : {S : Type 0} (held : S → Option (List ℕ)) (faults : S → ℕ) (first before now : S) (s : ReplayEnd) → faults before ≡ faults first
    → OutputFaults held faults before now s → OutputFaults held faults first now s
outputs_later held faults first before now end.WriteFault quiet writes = fails_later held faults first before now quiet writes
outputs_later held faults first before now other quiet writes = writes ∙ quiet

-- the faults of a run that ended where what is written first was refused
pub write_ends : {S : Type 0} (held : S → Option (List ℕ)) (faults : S → ℕ) (before now : S) (why : WriteRefused) → AnswerWrites held faults before now (Err why) → OutputFaults held faults before now (end_of_write why)
write_ends held faults before now refused.Failed writes = writes
write_ends held faults before now refused.NoMemory writes = writes

-- and nothing was read
pub write_reads : {S : Type 0} (left : S → Option (List ℕ)) (faults : S → ℕ) (input : S) (why : WriteRefused) → InputFaults left faults input input (end_of_write why)
write_reads left faults input refused.Failed = refl
write_reads left faults input refused.NoMemory = refl
