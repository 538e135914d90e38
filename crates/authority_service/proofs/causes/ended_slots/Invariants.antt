-- None of the slots so far was stopped by the lock.
use Rattle.std.proofs.Common.{◌≡◌, ◌<◌, ℕ, None, slice_index_or}
use Rattle.service_slots.specs.declared.opening.ShutSlot.{ShutSlot}
use Rattle.authority_service.specs.Running.{ended_slot}
use Rattle.authority_service.proofs.causes.ended_slots.Given as goal

abbrev pub invariant-loop-slot : goal.invariant-loop-slot
invariant-loop-slot l = (k : ℕ) (d : ShutSlot) → k < l.slot-index → ended_slot (slice_index_or l.slots k d).stop ≡ None
