use Rattle.dbus_values.proofs.Sizes.{number_field_some}
use Rattle.dbus_values.proofs.size.number_field_end.Goals as goal

pub returns-in-Some : goal.returns-in-Some
returns-in-Some c = record { exact = number_field_some c.args.number _ c.args.at _ c.in-Some.is c.padded_end.ensures.exact }
