use Rattle.dbus_values.proofs.Fewer.{above_partial, below_awaited}
use Rattle.dbus_values.proofs.laws.fewer_than_awaited.Goals as goal

pub returns : goal.returns
returns c = record { more = above_partial; partial = below_awaited }
