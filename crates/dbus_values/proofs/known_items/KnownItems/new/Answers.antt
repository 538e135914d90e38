use Rattle.std.proofs.Common.{refl, None}
use Rattle.dbus_values.proofs.Slots.{known_new}
use Rattle.dbus_values.proofs.known_items.KnownItems.new.Goals as goal

pub invariant_of-result : goal.invariant_of-result
invariant_of-result c = (refl, λ i d lt. known_new 256 None tt i d lt)
