use Rattle.std.proofs.Common.{◌≡◌, ◌++◌, ◌≤◌, length, drop, false}
use Rattle.dbus_values.specs.declared.codes.TheConstants.{MAX_MESSAGE}
use Rattle.dbus_values.specs.Trees.{all_marshalled}
use Rattle.dbus_values.specs.Written.{list_trees, AllForm}
use Rattle.dbus_values.proofs.posting.put_values.Given as goal

abbrev pub invariant-loop-item : goal.invariant-loop-item
invariant-loop-item l = record {
  so_far : l.out.items ++ all_marshalled false (length l.out.items) (list_trees (drop l.item-index l.item-items)) ≡ l.initial.out.items ++ all_marshalled false (length l.initial.out.items) (list_trees l.item-items);
  forms : AllForm (drop l.item-index l.item-items);
  short : length (l.initial.out.items ++ all_marshalled false (length l.initial.out.items) (list_trees l.item-items)) ≤ MAX_MESSAGE;
}
