-- What the end of a run says of the counts of faults. Every end but the fault itself leaves the count, want of memory too.
use Rattle.std.specs.Prelude.{◌≡◌, ℕ, List, Option}
use Rattle.pk_outside.specs.Causes.{FailsLast}
use Rattle.pipe_run.specs.declared.ends.PipeEnd.{PipeEnd}
use Rattle.pipe_run.specs.declared.ends.PipeEnd.TheVariants as end

-- a read fault was counted by the last read of the input, and by no read before it
abbrev pub InputFaults : {S : Type 0} → (S → Option (List ℕ)) → (S → ℕ) → S → S → PipeEnd → Type 0
InputFaults left faults before now end.ReadFault = FailsLast left faults before now
InputFaults left faults before now other = faults now ≡ faults before

-- a write fault was counted by the last write to the output, and by no write before it
abbrev pub OutputFaults : {S : Type 0} → (S → Option (List ℕ)) → (S → ℕ) → S → S → PipeEnd → Type 0
OutputFaults held faults before now end.WriteFault = FailsLast held faults before now
OutputFaults held faults before now other = faults now ≡ faults before

-- an end that is no read fault
abbrev pub ReadsNothing : PipeEnd → Type 0
ReadsNothing end.ReadFault = ⊥
ReadsNothing other = Unit {0}
