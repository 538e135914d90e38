use Rattle.std.proofs.Common.{◌∙◌, ap, max}
use Rattle.authority_core.proofs.Batching.{greatest_more, item_more}
use Rattle.authority_core.proofs.collecting.greatest_named.Goals as goal

pub loop-output-preserved : goal.loop-output-preserved
loop-output-preserved c =
    greatest_more c.args.outputs.now c.loop-output.output-index c.output-item.result c.loop-output.greatest c.max-greatest.result
    (item_more c.args.outputs.now c.loop-output.output-index c.output-item.result c.loop-output-test.true c.output-item.is) c.loop-output.invariant (c.max-greatest.ensures ∙ ap (λ n. max n c.loop-output.greatest) c.load_named.ensures.load)
