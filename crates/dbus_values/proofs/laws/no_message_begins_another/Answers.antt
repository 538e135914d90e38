use Rattle.dbus_values.proofs.Streaming.{one_form}
use Rattle.dbus_values.proofs.laws.no_message_begins_another.Goals as goal

pub returns : goal.returns
returns c = record { one = one_form }
