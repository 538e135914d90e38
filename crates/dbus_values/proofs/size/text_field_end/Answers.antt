use Rattle.dbus_values.proofs.Sizes.{text_field_some}
use Rattle.dbus_values.proofs.size.text_field_end.Goals as goal

pub returns-in-Some : goal.returns-in-Some
returns-in-Some c = record { exact = text_field_some c.args.text.now _ _ c.args.at c.args.code c.args.letter _ _ c.requires.letter c.in-Some.is c.bytes.ensures.bytes c.padded_end.ensures.exact c.saturating_add.ensures }
