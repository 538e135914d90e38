use Rattle.std.proofs.Common.{List, length, ◌∙◌, ap}
use Rattle.dbus_values.specs.declared.value.Value.{Value}
use Rattle.dbus_values.specs.Trees.{types_of}
use Rattle.dbus_values.specs.Written.{list_trees}
use Rattle.dbus_values.specs.Capped.{capped}
use Rattle.dbus_values.proofs.Sizes.{letters_from_none}
use Rattle.dbus_values.proofs.size.letters_of.Goals as goal

pub returns : goal.returns
returns c = record { exact = letters_from_none _ c.loop-item.item-index _ c.loop-item.invariant.fits c.loop-item-test.false c.loop-item.invariant.so_far ∙ ap (λ (vs : List Value). capped (length (types_of (list_trees vs)))) c.deref-item-items.ensures.value }
