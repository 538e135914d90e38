-- The two passes are fresh.
use Rattle.std.proofs.Common.{◌<◌, arith}
use Rattle.connection_serve.proofs.Fresh.{fresh_passes}
use Rattle.serving_tests.proofs.passes.two_passes.Goals as goal

pub returns : goal.returns
returns g c =
    let number = c.number-number.ensures.number in
    let above = c.number-number.ensures.below in
    let below : c.args.zero.now.number < c.args.zero.now.made = omega (arith, number, above) in
    fresh_passes c.args.zero.now _ _ _ _ below c.in_ok-pass.ensures c.in_ok-collector.ensures
