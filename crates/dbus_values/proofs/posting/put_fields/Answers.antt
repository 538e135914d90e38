use Rattle.std.proofs.Common.{◌∙◌, ap, List, ℕ, ◌++◌, length, false}
use Rattle.dbus_values.specs.Form.{fields_bytes}
use Rattle.dbus_values.specs.Written.{signature_field}
use Rattle.dbus_values.proofs.Writing.{on_ok}
use Rattle.dbus_values.proofs.Sending.{fields_then}
use Rattle.dbus_values.proofs.posting.put_fields.Goals as goal

pub returns : goal.returns
returns c = record {
  exact = on_ok c.put_signature_field.result (λ written. fields_then _ _ _ _ _ c.in_ok-put_text_field.ensures.exact (fields_then _ _ _ _ _ c.in_ok-put_text_field-2.ensures.exact (fields_then _ _ _ _ _ c.in_ok-put_text_field-3.ensures.exact (fields_then _ _ _ _ _ c.in_ok-put_text_field-4.ensures.exact (fields_then _ _ _ _ _ c.in_ok-put_number_field.ensures.exact
      (written ∙ ap (λ (sig : List ℕ). c.put_number_field.new.out.items ++ fields_bytes false (length c.put_number_field.new.out.items) (signature_field sig)) c.requires.signature)))))) c.put_signature_field.ensures.exact;
}
