-- What the code's first 16 bytes are.
use Rattle.dbus_values.specs.declared.start.Start.{Start as Read}
use Rattle.dbus_values.specs.Messages.{Start}

abbrev pub start : Read → Start
start s = record { big = s.big; kind = s.kind; flags = s.flags; body = s.body; serial = s.serial; fields = s.fields }
