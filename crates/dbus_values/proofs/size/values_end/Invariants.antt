use Rattle.std.proofs.Common.{◌≡◌, ◌+◌, ◌<◌, ◌^◌, length, drop, false}
use Rattle.dbus_values.specs.Trees.{all_marshalled}
use Rattle.dbus_values.specs.Written.{list_trees}
use Rattle.dbus_values.specs.Capped.{capped}
use Rattle.dbus_values.proofs.size.values_end.Given as goal

abbrev pub invariant-loop-item : goal.invariant-loop-item
invariant-loop-item l = record { so_far : capped (l.here + length (all_marshalled false l.here (list_trees (drop l.item-index l.item-items)))) ≡ capped (l.initial.here + length (all_marshalled false l.initial.here (list_trees l.item-items))); fits : l.here < 2 ^ 64 }
