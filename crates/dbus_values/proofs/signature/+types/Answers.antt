use Rattle.std.proofs.Common.{sym, refl}
use Rattle.dbus_values.proofs.Loops.{type_at, type_plain, members_closed, filled, not_zero}
use Rattle.dbus_values.proofs.signature.+types.Goals as goal

pub type_end-returns-else-arrays-eq0 : goal.type_end-returns-else-arrays-eq0
type_end-returns-else-arrays-eq0 t c = let k = type_at c.of.result c.args.level c.args.arrays c.args.structs c.args.sig.now c.if-level-eq0.false (filled _ _ c.is_empty.ensures c.if-is_empty.false) c.of.ensures.class in rw (k, c.in-Array.is, not_zero _ c.if-arrays-eq0.false, ← c.behind_first-inner.ensures.rest) c.item_end.ensures

pub type_end-returns-in_default : goal.type_end-returns-in_default
type_end-returns-in_default t c = let k = type_at c.of.result c.args.level c.args.arrays c.args.structs c.args.sig.now c.if-level-eq0.false (filled _ _ c.is_empty.ensures c.if-is_empty.false) c.of.ensures.class in rw (k, type_plain c.of.result _ _ _ _ c.in_default.not-Array c.in_default.not-Struct c.in_default.not-Entry c.in_default.not-Other, c.behind_first-inner.ensures.rest) (record { exact = refl })

pub members_end-returns-then-rest-eq41 : goal.members_end-returns-then-rest-eq41
members_end-returns-then-rest-eq41 t c = rw c.behind_first.ensures.rest (record { exact = members_closed _ _ c.loop-i._i c.loop-i.here.now c.in-Some.rest.now _ c.loop-i-test.true (sym c.in-Some.ensures.exact) (filled _ _ c.is_empty.ensures c.if-is_empty.false) c.if-rest-eq41.true c.loop-i.invariant })
