use Rattle.dbus_values.proofs.Sizes.{signature_some}
use Rattle.dbus_values.proofs.size.signature_field_end.Goals as goal

pub returns-else-letters-eq0 : goal.returns-else-letters-eq0
returns-else-letters-eq0 c = record { exact = signature_some c.args.at c.args.letters _ _ c.if-letters-eq0.false c.padded_end.ensures.exact c.saturating_add.ensures }
