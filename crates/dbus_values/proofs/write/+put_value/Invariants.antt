use Rattle.std.proofs.Common.{◌≡◌, ◌++◌, ◌≤◌, length, drop, false}
use Rattle.dbus_values.specs.declared.codes.TheConstants.{MAX_MESSAGE}
use Rattle.dbus_values.specs.Trees.{all_marshalled}
use Rattle.dbus_values.specs.Written.{list_trees, AllForm}
use Rattle.dbus_values.proofs.write.+put_value.Given as goal

abbrev pub invariant-loop-item : goal.invariant-loop-item
invariant-loop-item l = record {
  so_far : l.out.items ++ all_marshalled false (length l.out.items) (list_trees (drop l.item-index l.item-items)) ≡ l.initial.out.items ++ all_marshalled false (length l.initial.out.items) (list_trees l.item-items);
  forms : AllForm (drop l.item-index l.item-items);
  short : length (l.initial.out.items ++ all_marshalled false (length l.initial.out.items) (list_trees l.item-items)) ≤ MAX_MESSAGE;
}

abbrev pub invariant-loop-member : goal.invariant-loop-member
invariant-loop-member l = record {
  so_far : l.out.items ++ all_marshalled false (length l.out.items) (list_trees (drop l.member-index l.member-items)) ≡ l.initial.out.items ++ all_marshalled false (length l.initial.out.items) (list_trees l.member-items);
  forms : AllForm (drop l.member-index l.member-items);
  short : length (l.initial.out.items ++ all_marshalled false (length l.initial.out.items) (list_trees l.member-items)) ≤ MAX_MESSAGE;
}
