use Rattle.std.proofs.Common.{◌∙◌, arith}
use Rattle.dbus_values.proofs.Steps.{lasts_whole}
use Rattle.dbus_values.proofs.BodyFound.{body_values}
use Rattle.dbus_values.proofs.bodies.body_parts.Goals as goal

pub at-requires : goal.at-requires
at-requires c = lasts_whole _ _ _ _ _ c.requires.read

pub returns-clause-values : goal.returns-clause-values
returns-clause-values c =
    let v = body_values c.args.big c.args.signature.now c.args.at c.args.left c.args.bytes.now (λ i. omega (arith, c.type_inv.bytes i)) c.requires.short c.requires.read in
    (v.0, v.1, v.2, c.at.ensures.parts ∙ v.3)
