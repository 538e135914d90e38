use Rattle.dbus_values.proofs.Prefixes.{fault_stays, whole_stays}
use Rattle.dbus_values.proofs.laws.an_answer_stays.Goals as goal

pub returns : goal.returns
returns c = record { fault = fault_stays; whole = whole_stays }
