use Rattle.std.proofs.Common.{◌≡◌, length, ◌-◌}
use Rattle.dbus_values.specs.Header.{header, no_fields, fields_at}
use Rattle.dbus_values.proofs.header.fields_at.Given as goal

abbrev pub invariant-loop-i : goal.invariant-loop-i
invariant-loop-i l = fields_at (length l.from.rest.now - l._i) l.big (header l.fields) l.here.at l.here.rest.now ≡ fields_at (length l.from.rest.now) l.big no_fields l.from.at l.from.rest.now
