use Rattle.dbus_values.proofs.Loops.{zeros_step, filled}
use Rattle.dbus_values.proofs.basics.zeros.Goals as goal

pub loop-i-preserved : goal.loop-i-preserved
loop-i-preserved c = rw (c.ahead-here.ensures.at, c.ahead-here.ensures.rest) (zeros_step c.args.n c.loop-i.i _ _ _ c.loop-i-test.true (filled _ _ c.is_empty.ensures c.if-is_empty.false) c.if-here-ne0.false c.loop-i.invariant)
