-- The lines of the slots so far.
use Rattle.std.proofs.Common.{◌≡◌, take}
use Rattle.std.specs.List.{flat_map}
use Rattle.authority_service.proofs.lines.all_lines.Given as goal

abbrev pub invariant-loop-slot : goal.invariant-loop-slot
invariant-loop-slot l = l.all.items ≡ flat_map (λ s. s.lines.items) (take l.slot-index l.slots)
