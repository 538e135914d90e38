use Rattle.std.proofs.Common.{arith}
use Rattle.dbus_values.proofs.Repeated.{close_all}
use Rattle.dbus_values.proofs.runs.close_run.Goals as goal

pub returns-clause-run : goal.returns-clause-run
returns-clause-run c = λ limit big.
    rw (c.pop_members-n.ensures.outer, c.bytes_behind-walk.ensures.rest)
    (close_all c.pop_members-n.result limit big c.pop_members-n.new.self c.args.walk.now.types.now c.args.walk.now.here.at c.args.walk.now.here.rest.now
    (omega arith) (λ k lt. c.times-ends.ensures.same k (omega (arith, lt))) c.pop_members-n.ensures.plain)
