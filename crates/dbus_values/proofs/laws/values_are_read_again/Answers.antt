use Rattle.dbus_values.proofs.Counting.{values_again}
use Rattle.dbus_values.proofs.laws.values_are_read_again.Goals as goal

pub returns : goal.returns
returns c = record { again = values_again }
