-- What reading lines does to the source's count of faults.
use Rattle.std.specs.Prelude.{◌≡◌, ℕ, List, Option}
use Rattle.pk_outside.specs.Causes.{FailsLast}
use Rattle.source_buffer.specs.declared.lines.LineRead.{LineRead}
use Rattle.source_buffer.specs.declared.lines.LineRead.TheVariants as got

-- A read fault was counted by the last read, and by no read before it. Every other answer leaves the
-- count, want of memory too.
abbrev pub LineFaults : {S : Type 0} → (S → Option (List ℕ)) → (S → ℕ) → S → S → LineRead → Type 0
LineFaults left faults before now got.Line = faults now ≡ faults before
LineFaults left faults before now got.Last = faults now ≡ faults before
LineFaults left faults before now got.End = faults now ≡ faults before
LineFaults left faults before now got.TooLong = faults now ≡ faults before
LineFaults left faults before now got.ReadFault = FailsLast left faults before now
LineFaults left faults before now got.NoMemory = faults now ≡ faults before
