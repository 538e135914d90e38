use Rattle.dbus_values.proofs.Repeated.{repeats_none}
use Rattle.dbus_values.proofs.runs.more_begun.Goals as goal

pub returns-then-is_empty-clause-run : goal.returns-then-is_empty-clause-run
returns-then-is_empty-clause-run c = λ big. repeats_none _ _ _ _

pub returns-then-walk-ne40-clause-run : goal.returns-then-walk-ne40-clause-run
returns-then-walk-ne40-clause-run c = λ big. repeats_none _ _ _ _

pub returns-then-not-is_in_structure-clause-run : goal.returns-then-not-is_in_structure-clause-run
returns-then-not-is_in_structure-clause-run c = λ big. repeats_none _ _ _ _
