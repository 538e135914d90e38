-- What the end of a run, and each of its parts, says of the counts of faults. Every answer but the
-- fault itself leaves the count, want of memory too.
use Rattle.std.specs.Prelude.{◌≡◌, ℕ, List, Option, Result, Ok, Err}
use Rattle.pk_outside.specs.Causes.{FailsLast}
use Rattle.replay_run.specs.declared.ends.Stopped.{Stopped}
use Rattle.replay_run.specs.declared.ends.Stopped.TheVariants as stopped
use Rattle.replay_run.specs.declared.ends.ReplayEnd.{ReplayEnd}
use Rattle.replay_run.specs.declared.ends.ReplayEnd.TheVariants as end
use Rattle.replay_run.specs.declared.written.WriteRefused.{WriteRefused}
use Rattle.replay_run.specs.declared.written.WriteRefused.TheVariants as refused

-- a read fault was counted by the last read of the input, and by no read before it
abbrev pub InputFaults : {S : Type 0} → (S → Option (List ℕ)) → (S → ℕ) → S → S → ReplayEnd → Type 0
InputFaults left faults before now end.ReadFault = FailsLast left faults before now
InputFaults left faults before now other = faults now ≡ faults before

-- a write fault was counted by the last write to the output, and by no write before it
abbrev pub OutputFaults : {S : Type 0} → (S → Option (List ℕ)) → (S → ℕ) → S → S → ReplayEnd → Type 0
OutputFaults held faults before now end.WriteFault = FailsLast held faults before now
OutputFaults held faults before now other = faults now ≡ faults before

-- the same of one line of a run
abbrev pub LineWrites : {S : Type 0} → (S → Option (List ℕ)) → (S → ℕ) → S → S → Result (Unit {0}) Stopped → Type 0
LineWrites held faults before now (Ok done) = faults now ≡ faults before
LineWrites held faults before now (Err stopped.WriteFault) = FailsLast held faults before now
LineWrites held faults before now (Err other) = faults now ≡ faults before

-- the same of answer lines that are written
abbrev pub AnswerWrites : {S : Type 0} → (S → Option (List ℕ)) → (S → ℕ) → S → S → Result (Unit {0}) WriteRefused → Type 0
AnswerWrites held faults before now (Ok done) = faults now ≡ faults before
AnswerWrites held faults before now (Err refused.Failed) = FailsLast held faults before now
AnswerWrites held faults before now (Err refused.NoMemory) = faults now ≡ faults before
