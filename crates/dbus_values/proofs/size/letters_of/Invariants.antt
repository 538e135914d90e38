use Rattle.std.proofs.Common.{◌≡◌, ◌+◌, ◌<◌, ◌^◌, length, drop}
use Rattle.dbus_values.specs.Trees.{types_of}
use Rattle.dbus_values.specs.Written.{list_trees}
use Rattle.dbus_values.specs.Capped.{capped}
use Rattle.dbus_values.proofs.size.letters_of.Given as goal

abbrev pub invariant-loop-item : goal.invariant-loop-item
invariant-loop-item l = record { so_far : capped (l.here + length (types_of (list_trees (drop l.item-index l.item-items)))) ≡ capped (l.initial.here + length (types_of (list_trees l.item-items))); fits : l.here < 2 ^ 64 }
