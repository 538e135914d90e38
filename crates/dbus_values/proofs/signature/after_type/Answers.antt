use Rattle.std.proofs.Common.{refl, arith}
use Rattle.dbus_values.proofs.Loops.{type_at, type_plain, type_empty, filled}
use Rattle.dbus_values.proofs.signature.after_type.Goals as goal

pub returns-then-is_empty : goal.returns-then-is_empty
returns-then-is_empty c = record { exact = type_empty c.args.sig.now _ c.is_empty.ensures c.if-is_empty.true }

pub returns-in_default : goal.returns-in_default
returns-in_default c =
    let k = type_at c.of.result 65 32 32 c.args.sig.now (λ e. omega (arith, e)) (filled _ _ c.is_empty.ensures c.if-is_empty.false) c.of.ensures.class in
    rw (k, type_plain c.of.result _ _ _ _ c.in_default.not-Array c.in_default.not-Struct c.in_default.not-Entry c.in_default.not-Other, c.behind_first.ensures.rest) (record { exact = refl })
