-- What a buffer that is filled from a source holds.
use Rattle.std.specs.Prelude.{◌≡◌, ℕ, ◌<◌, ◌≤◌, Bool, IsTrue, List, [], ◌++◌, length, Option, Result, Ok, Err}
use Rattle.pk_outside.specs.Causes.{FailsLast}
use Rattle.source_buffer.specs.declared.filling.Filled.{Filled}
use Rattle.source_buffer.specs.declared.filling.Filled.TheVariants as filled
use Rattle.source_buffer.specs.declared.buffer.Unread.{Unread}
use Rattle.source_buffer.specs.declared.buffer.Unread.TheVariants as unread

-- what one read brought; where memory is refused it was not made
abbrev pub Brings : List ℕ → List ℕ → List ℕ → Result ℕ Unread → Type 0
Brings before piece now (Ok n) = (now ≡ before ++ piece) × (length piece ≡ n)
Brings before piece now (Err unread.Failed) = (now ≡ before) × (piece ≡ [])
Brings before piece now (Err unread.NoMemory) = (now ≡ before) × (piece ≡ [])

-- What was read stands behind what was there before: as much as was awaited, or all up to the end of the
-- source, to its fault or to the refusal of memory, which is less.
abbrev pub Fills : Bool → ℕ → List ℕ → List ℕ → List ℕ → Filled → Type 0
Fills ended wanted before read now filled.There = (now ≡ before ++ read) × (wanted ≤ length now)
Fills ended wanted before read now filled.End = (now ≡ before ++ read) × (length now < wanted) × IsTrue ended
Fills ended wanted before read now filled.ReadFault = (now ≡ before ++ read) × (length now < wanted)
Fills ended wanted before read now filled.NoMemory = (now ≡ before ++ read) × (length now < wanted)

-- A read fault was counted by the last read, and by no read before it. Every other answer leaves the
-- count, want of memory too.
abbrev pub FillFaults : {S : Type 0} → (S → Option (List ℕ)) → (S → ℕ) → S → S → Filled → Type 0
FillFaults left faults before now filled.There = faults now ≡ faults before
FillFaults left faults before now filled.End = faults now ≡ faults before
FillFaults left faults before now filled.ReadFault = FailsLast left faults before now
FillFaults left faults before now filled.NoMemory = faults now ≡ faults before

-- The same of one read.
abbrev pub ReadFaults : {S : Type 0} → (S → Option (List ℕ)) → (S → ℕ) → S → S → Result ℕ Unread → Type 0
ReadFaults left faults before now (Ok n) = faults now ≡ faults before
ReadFaults left faults before now (Err unread.Failed) = FailsLast left faults before now
ReadFaults left faults before now (Err unread.NoMemory) = faults now ≡ faults before
