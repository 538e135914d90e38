use Rattle.dbus_values.proofs.Repeated.{repeats_none}
use Rattle.dbus_values.proofs.runs.more_ended.Goals as goal

pub returns-then-is_empty-clause-run : goal.returns-then-is_empty-clause-run
returns-then-is_empty-clause-run c = λ limit big. repeats_none _ _ _ _

pub returns-then-walk-ne41-clause-run : goal.returns-then-walk-ne41-clause-run
returns-then-walk-ne41-clause-run c = λ limit big. repeats_none _ _ _ _
