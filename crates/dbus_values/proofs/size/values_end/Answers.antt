use Rattle.std.proofs.Common.{List, length, ◌+◌, ◌∙◌, ap, false}
use Rattle.dbus_values.specs.declared.value.Value.{Value}
use Rattle.dbus_values.specs.Trees.{all_marshalled}
use Rattle.dbus_values.specs.Written.{list_trees}
use Rattle.dbus_values.specs.Capped.{capped}
use Rattle.dbus_values.proofs.Sizes.{values_all}
use Rattle.dbus_values.proofs.size.values_end.Goals as goal

pub returns : goal.returns
returns c = record { exact = values_all _ c.loop-item.item-index c.args.at _ c.loop-item.invariant.fits c.loop-item-test.false c.loop-item.invariant.so_far ∙ ap (λ (vs : List Value). capped (c.args.at + length (all_marshalled false c.args.at (list_trees vs)))) c.deref-item-items.ensures.value }
