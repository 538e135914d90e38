use Rattle.dbus_values.proofs.Loops.{filled}
use Rattle.dbus_values.proofs.Writing.{on_ok}
use Rattle.dbus_values.proofs.Sending.{signature_done}
use Rattle.dbus_values.proofs.posting.put_signature_field.Goals as goal

pub returns : goal.returns
returns c = record { exact = on_ok c.put_signature-2.result (λ written. signature_done c.args.signature.now _ _ _ _ _ (filled _ _ c.is_empty.ensures c.if-is_empty.false) c.in_ok-pad_to.ensures.exact c.in_ok-put_byte.ensures.exact c.in_ok-put_signature.ensures.exact written) c.put_signature-2.ensures.exact }
