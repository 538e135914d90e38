-- One more output.
use Rattle.pipe_run.specs.declared.served.TheConstants.{CONNECTION}
use Rattle.pipe_run.proofs.Written.{counted_more, kept_more, one_sendable}
use Rattle.pipe_run.proofs.writing.put_outputs.Goals as goal

pub put_own-requires : goal.put_own-requires
put_own-requires c = record { sendable = one_sendable CONNECTION c.args.outputs.now c.loop-output.output-index c.output-item.result c.loop-output-test.true c.output-item.is c.requires.sendable }

pub loop-output-preserved : goal.loop-output-preserved
loop-output-preserved c = record {
  kept = kept_more c.args.history.now.loads CONNECTION c.args.before c.loop-output.sent _ _ _ c.args.outputs.now c.loop-output.output-index c.output-item.result c.loop-output-test.true c.output-item.is c.loop-output.invariant.counted
      c.loop-output.invariant.kept c.in_ok-sent.ensures.put;
  counted = counted_more CONNECTION c.args.before c.loop-output.sent c.in_ok-sent.sent c.args.outputs.now c.loop-output.output-index c.output-item.result c.loop-output-test.true c.output-item.is c.loop-output.invariant.counted c.in_ok-sent.ensures.count;
}
