use Rattle.std.proofs.Common.{arith}
use Rattle.authority_model.specs.Items.{items_of}
use Rattle.authority_laws.proofs.Batching.{collected_few}
use Rattle.authority_core.proofs.collecting.batch_of.Goals as goal

pub outputs_from-requires-clause-first : goal.outputs_from-requires-clause-first
outputs_from-requires-clause-first c =
    let count = c.collected-collected.ensures.count in
    let held = c.requires.peers.collected_are c.args.caller c.args.of in
    omega (arith, count, held, collected_few (items_of c.args.history.now) c.args.caller c.args.of)
