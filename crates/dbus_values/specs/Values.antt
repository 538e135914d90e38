-- The values of a list of values.
use Rattle.std.specs.Prelude.{List}
use Rattle.dbus_values.specs.declared.value.Value.{Value}
use Rattle.dbus_values.specs.declared.value.ValueList.{ValueList}

-- the values, in their order
abbrev pub values_of : ValueList → List Value
values_of list = list.items.items
