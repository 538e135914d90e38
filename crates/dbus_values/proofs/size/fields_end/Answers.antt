use Rattle.dbus_values.proofs.Sizes.{fields_more}
use Rattle.dbus_values.proofs.size.fields_end.Goals as goal

pub returns : goal.returns
returns c = record {
  exact = fields_more _ _ _ _ _ c.text_field_end-path.ensures.exact (fields_more _ _ _ _ _ c.text_field_end-interface.ensures.exact (fields_more _ _ _ _ _ c.text_field_end-member.ensures.exact (fields_more _ _ _ _ _ c.text_field_end-error_name.ensures.exact (fields_more _ _ _ _ _ c.number_field_end-reply_serial.ensures.exact
      (c.signature_field_end.ensures.exact _ c.requires)))));
}
