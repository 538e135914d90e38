use Rattle.dbus_values.proofs.Writing.{on_ok}
use Rattle.dbus_values.proofs.Sending.{number_put}
use Rattle.dbus_values.proofs.posting.put_number_field.Goals as goal

pub returns-in_ok-pad_to-in-Some-2 : goal.returns-in_ok-pad_to-in-Some-2
returns-in_ok-pad_to-in-Some-2 c = record { exact = on_ok c.put_u32.result (λ written. number_put c.args.number c.in-Some.number _ _ _ _ _ _ c.in-Some.is c.in_ok-pad_to-in-Some.ensures.exact c.in_ok-put_byte-in-Some.ensures.exact c.in_ok-put_signature-in-Some.ensures.exact c.in_ok-pad_to-in-Some-2.ensures.exact written) c.put_u32.ensures.exact }
