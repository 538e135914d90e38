-- What the end of a call on a link says of the counts of faults of its two directions.
use Rattle.std.specs.Prelude.{◌≡◌, ◌⊎◌, ℕ, Result, Ok, Err}
use Rattle.pk_outside.specs.Causes.{one_more}
use Rattle.client_link.specs.declared.stop.LinkStop.{LinkStop}
use Rattle.client_link.specs.declared.stop.LinkStop.TheVariants as stop

-- A direction counts one fault exactly where it failed. Every other answer leaves its count, want of memory too.
abbrev pub faults_after : {A : Type 0} → ℕ → Result A LinkStop → ℕ
faults_after before (Err stop.Failed) = one_more before
faults_after before other = before

-- one of the two directions counted one fault, and the other none
abbrev pub OneFailed : ℕ → ℕ → ℕ → ℕ → Type 0
OneFailed read_before read_now write_before write_now =
    ((read_now ≡ one_more read_before) × (write_now ≡ write_before)) ⊎ ((read_now ≡ read_before) × (write_now ≡ one_more write_before))

-- The same of a call on both directions.
abbrev pub LinkFaults : {A : Type 0} → ℕ → ℕ → ℕ → ℕ → Result A LinkStop → Type 0
LinkFaults read_before read_now write_before write_now (Err stop.Failed) = OneFailed read_before read_now write_before write_now
LinkFaults read_before read_now write_before write_now other = (read_now ≡ read_before) × (write_now ≡ write_before)
