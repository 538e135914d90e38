use Rattle.std.proofs.Common.{◌≡◌, ◌++◌, drop}
use Rattle.dbus_values.specs.Trees.{types_of}
use Rattle.dbus_values.specs.Written.{list_trees}
use Rattle.dbus_values.proofs.write.+put_type.Given as goal

abbrev pub invariant-loop-item : goal.invariant-loop-item
invariant-loop-item l = l.out.items ++ types_of (list_trees (drop l.item-index l.item-items)) ≡ l.initial.out.items ++ types_of (list_trees l.item-items)
