use Rattle.memory_outside.proofs.Capped.{capped_below}
use Rattle.memory_outside.proofs.clock.Readings.new.Goals as goal

pub invariant_of-result : goal.invariant_of-result
invariant_of-result c = capped_below c.args.numbers.items _ c.capped-numbers.ensures.each
