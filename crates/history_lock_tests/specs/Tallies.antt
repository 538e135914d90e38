-- The tally as a machine.
use Rattle.std.specs.Prelude.{◌≡◌, ◌≢◌, ℕ, ◌≤◌, List, length}
use Rattle.std.proofs.Common.{arith, ap, sym, length-append}
use mathlib.Core.List.{IsPrefix}
use Rattle.history_lock.specs.declared.machine.EndCause.{EndCause}
use Rattle.history_lock.specs.declared.machine.EndCause.TheVariants.{JournalFull, NoMemory, Admissions}
use Rattle.history_lock_tests.specs.declared.tally.Entry.{Entry}
use Rattle.history_lock_tests.specs.declared.tally.Op.{Op}
use Rattle.history_lock_tests.specs.declared.tally.Op.TheVariants.{Add, AddAfter}
use Rattle.history_lock_tests.specs.declared.tally.Refusal.{Refusal}
use Rattle.history_lock_tests.specs.declared.tally.Refusal.TheVariants as refusal

-- the amount that an operation adds
abbrev pub amount_of : Op → ℕ
amount_of (Add amount) = amount
amount_of (AddAfter amount entries) = amount

-- the entry of the caller n with an amount
abbrev pub entry_of : ℕ → ℕ → Entry
entry_of n amount = record { caller = n; amount = amount }

-- an amount may be added at once, or when there are so many entries
abbrev pub IsReady : Op → List Entry → Type 0
IsReady (Add amount) list = Unit {0}
IsReady (AddAfter amount entries) list = entries ≤ length list

-- the entry has the caller and the amount, which is not 0, and the reply is its place
abbrev pub Gives : ℕ → Op → List Entry → Entry → ℕ → Type 0
Gives n op list e reply = (e ≡ entry_of n (amount_of op)) × (amount_of op ≢ 0) × (reply ≡ length list)

-- nothing is refused as nothing, a full tally refuses, and memory may run out at any time
abbrev pub Refuses : Op → List Entry → Refusal → Type 0
Refuses op list refusal.Nothing = amount_of op ≡ 0
Refuses op list refusal.Full = length list ≡ 1048576
Refuses op list refusal.NoMemory = Unit {0}

-- which causes fit which entries and which count of passes
abbrev pub Fits : EndCause → List Entry → ℕ → Type 0
Fits (JournalFull entries bytes) list made = entries ≤ length list
Fits NoMemory list made = Unit {0}
Fits (Admissions admitted) list made = (admitted ≡ 1048576) × (1048576 ≤ made)

-- a cause that fits goes on to fit
pub fits_lasts : (cause : EndCause) (list more : List Entry) (m n : ℕ) → Fits cause list m → length more ≤ 1048576 → IsPrefix list more → m ≤ n → n ≤ 1048576 → Fits cause more n
fits_lasts (JournalFull entries bytes) list more m n fits legal (rest, whole) le top = omega (arith, fits, sym (ap length whole), length-append list rest)
fits_lasts NoMemory list more m n fits legal begins le top = tt
fits_lasts (Admissions admitted) list more m n (all, enough) legal begins le top = (all, omega (arith, enough))
