use Rattle.std.proofs.Common.{◌≡◌, take}
use Rattle.authority_core.proofs.collecting.first_loads.Given as goal

abbrev pub invariant-loop-loaded : goal.invariant-loop-loaded
invariant-loop-loaded l = l.copies ≡ take l.loaded-index l.loaded-items
