use Rattle.std.proofs.Common.{arith, ◌%◌, ◌<◌, length, sym, List, ℕ, Some, subst}
use Rattle.std.proofs.Math.ListN.{length-set}
use Rattle.std.proofs.lemmas.Bool.Decides.{Decides-eqb}
use Rattle.std.proofs.lemmas.Slice.Eq.{starts_is}
use Rattle.dbus_values.specs.Trees.{IsItem}
use Rattle.dbus_values.specs.Known.{IsKnown}
use Rattle.dbus_values.proofs.Grammar.{item_split}
use Rattle.dbus_values.proofs.Slots.{known_set, after_known}
use Rattle.dbus_values.proofs.known_items.KnownItems.after_item.Goals as goal

pub returns-then-starts_with : goal.returns-then-starts_with
returns-then-starts_with c =
    let split = (starts_is Decides-eqb c.args.sig.now _ _ c.starts_with.ensures.value).0 c.if-starts_with.true in
    let item : IsItem c.in-Some.item.now = subst IsKnown c.in-Some.is (c.self.invariant.1 (c.args.place % 256) _ (omega arith)) in
    record { exact = after_known c.args.sig.now _ item split }

pub invariant_of-self : goal.invariant_of-self
invariant_of-self c =
    let lt : c.args.place % 256 < length c.self.inside.slots = omega arith in
    let is = item_split c.args.sig.now c.in-Some-after_item.rest.now (sym c.in-Some-after_item.ensures.exact) in
    let item : IsItem c.front_of.result.now = subst (λ (x : List ℕ). IsItem x) (sym c.front_of.ensures.front) is.1 in
    (omega (arith, length-set c.self.inside.slots (c.args.place % 256) (Some c.front_of.result)), known_set c.self.inside.slots (c.args.place % 256) (Some c.front_of.result) c.self.invariant.1 lt item)
