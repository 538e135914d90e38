use Rattle.dbus_values.proofs.Streaming.{one_stream}
use Rattle.dbus_values.proofs.laws.a_stream_has_one_reading.Goals as goal

pub returns : goal.returns
returns c = record { one = one_stream }
