-- The numbers before the index were capped, and the others are as they were.
use Rattle.std.proofs.Common.{◌≡◌, ◌++◌, take, drop, map}
use Rattle.memory_outside.specs.Readings.{capped}
use Rattle.memory_outside.proofs.clock.cap.Given as goal

abbrev pub invariant-loop-number : goal.invariant-loop-number
invariant-loop-number l = l.numbers ≡ map capped (take l.number-index l.fn.numbers) ++ drop l.number-index l.fn.numbers
