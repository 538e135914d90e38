use Rattle.dbus_values.proofs.Writing.{on_ok, type_done}
use Rattle.dbus_values.proofs.write.+put_type.Goals as goal

pub returns-after-loop-item : goal.returns-after-loop-item
returns-after-loop-item t c = record { exact = on_ok c.put_byte-in-Struct-2.result (λ written. type_done c.in-Struct.items c.args.value.now _ c.loop-item.item-index _ _ _ _ c.in-Struct.is c.deref-item-items.ensures.value c.loop-item-test.false c.in_ok-put_byte-in-Struct.ensures.exact c.loop-item.invariant written) c.put_byte-in-Struct-2.ensures.exact }
