use Rattle.std.proofs.Common.{refl, sym, ◌∙◌, false, arith}
use Rattle.dbus_values.proofs.Loops.{filled}
use Rattle.dbus_values.proofs.Repeated.{repeats_none, open_all}
use Rattle.dbus_values.proofs.runs.open_run.Goals as goal

pub returns-then-gap-ne0-clause-run : goal.returns-then-gap-ne0-clause-run
returns-then-gap-ne0-clause-run c = λ big. repeats_none _ _ _ _

pub returns-then-limit-len-clause-run : goal.returns-then-limit-len-clause-run
returns-then-limit-len-clause-run c = λ big. repeats_none _ _ _ _

pub returns-then-is_empty-clause-run : goal.returns-then-is_empty-clause-run
returns-then-is_empty-clause-run c = λ big. repeats_none _ _ _ _

pub returns-then-types-eq41-clause-run : goal.returns-then-types-eq41-clause-run
returns-then-types-eq41-clause-run c = λ big. repeats_none _ _ _ _

pub returns-clause-run : goal.returns-clause-run
returns-clause-run c = λ big.
    let long = filled c.bytes_behind-types.result.now false c.if-is_empty.ensures refl in
    rw (c.push_members.ensures.opened, c.bytes_behind-types.ensures.rest)
    (open_all c.times-n.result c.args.limit big c.args.walk.now.frames c.args.walk.now.types.now c.args.walk.now.here.at c.args.walk.now.here.rest.now
    c.requires.open (omega arith) c.times-n.ensures.same (rw c.bytes_behind-types.ensures.rest at long) (rw c.bytes_behind-types.ensures.rest at c.if-types-eq41.false)
    (sym c.gap.ensures.exact ∙ c.if-gap-ne0.false) (omega arith))
