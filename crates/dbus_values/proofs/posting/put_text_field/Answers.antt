use Rattle.dbus_values.proofs.Writing.{on_ok}
use Rattle.dbus_values.proofs.Sending.{text_put}
use Rattle.dbus_values.proofs.posting.put_text_field.Goals as goal

pub returns-in_ok-pad_to-in-Some-2 : goal.returns-in_ok-pad_to-in-Some-2
returns-in_ok-pad_to-in-Some-2 c = record { exact = on_ok c.put_text.result (λ written. text_put c.args.code c.args.letter c.args.text.now _ _ _ _ _ _ _ _ c.in-Some.is c.bytes.ensures.bytes c.requires.letter c.in_ok-pad_to-in-Some.ensures.exact c.in_ok-put_byte-in-Some.ensures.exact c.in_ok-put_signature-in-Some.ensures.exact c.in_ok-pad_to-in-Some-2.ensures.exact written) c.put_text.ensures.exact }
