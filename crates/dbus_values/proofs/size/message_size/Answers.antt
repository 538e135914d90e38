use Rattle.dbus_values.specs.Written.{message_out}
use Rattle.dbus_values.proofs.Sizes.{message_end}
use Rattle.dbus_values.proofs.size.message_size.Goals as goal

pub returns : goal.returns
returns c = record { exact = λ serial. message_end (message_out c.args.out.now serial) _ _ _ c.fields_end-fields.ensures.exact c.padded-begin.ensures.exact c.values_end.ensures.exact }
