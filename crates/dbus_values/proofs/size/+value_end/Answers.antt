use Rattle.dbus_values.proofs.Sizes.{array_end, struct_end}
use Rattle.dbus_values.proofs.size.+value_end.Goals as goal

pub returns-after-loop-item : goal.returns-after-loop-item
returns-after-loop-item t c = record { exact = array_end c.in-Array.of _ c.in-Array.items c.args.value.now _ c.loop-item.item-index c.args.at _ _ _ _ c.loop-item.invariant.fits c.in-Array.is c.bytes-in-Array.ensures.bytes c.deref-item-items.ensures.value c.loop-item-test.false c.padded_end-in-Array.ensures.exact c.item_align.ensures.exact c.padded-here.ensures.exact c.loop-item.invariant.so_far }

pub returns-after-loop-member : goal.returns-after-loop-member
returns-after-loop-member t c = record { exact = struct_end c.in-Struct.members c.args.value.now _ c.loop-member.member-index c.args.at _ _ c.loop-member.invariant.fits c.in-Struct.is c.deref-member-items.ensures.value c.loop-member-test.false c.padded-here-in-Struct.ensures.exact c.loop-member.invariant.so_far }
