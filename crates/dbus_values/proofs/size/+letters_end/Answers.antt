use Rattle.dbus_values.proofs.Sizes.{letters_struct}
use Rattle.dbus_values.proofs.size.+letters_end.Goals as goal

pub returns-after-loop-item : goal.returns-after-loop-item
returns-after-loop-item t c = record { exact = letters_struct c.in-Struct.items c.args.value.now _ c.loop-item.item-index c.args.at _ _ _ c.loop-item.invariant.fits c.in-Struct.is c.deref-item-items.ensures.value c.loop-item-test.false c.saturating_add-here.ensures c.loop-item.invariant.so_far c.saturating_add-in-Struct.ensures }
