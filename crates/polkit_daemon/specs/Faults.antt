-- What the end of a command says of the counts of faults. Every answer but the fault itself leaves
-- the count, want of memory too.
use Rattle.std.specs.Prelude.{◌≡◌, ℕ, List, Option}
use Rattle.pk_outside.specs.Causes.{FailsLast}
use Rattle.polkit_daemon.specs.declared.status.Status.{Status}
use Rattle.polkit_daemon.specs.declared.status.Status.TheVariants as status

-- a read fault was counted by the last read of the input, and by no read before it
abbrev pub InputFaults : {S : Type 0} → (S → Option (List ℕ)) → (S → ℕ) → S → S → Status → Type 0
InputFaults left faults before now status.ReadFault = FailsLast left faults before now
InputFaults left faults before now other = faults now ≡ faults before

-- a write fault was counted by the last write to the output, and by no write before it
abbrev pub OutputFaults : {S : Type 0} → (S → Option (List ℕ)) → (S → ℕ) → S → S → Status → Type 0
OutputFaults held faults before now status.WriteFault = FailsLast held faults before now
OutputFaults held faults before now other = faults now ≡ faults before
