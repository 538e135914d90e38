-- The messages so far are kept and counted.
use Rattle.std.proofs.Common.{◌≡◌, ◌+◌, ◌++◌, take}
use Rattle.authority_model.specs.Items.{count_to}
use Rattle.pipe_run.specs.declared.served.TheConstants.{CONNECTION}
use Rattle.pipe_run.specs.Bytes.{output_bytes}
use Rattle.pipe_run.proofs.writing.put_outputs.Given as goal

abbrev pub invariant-loop-output : goal.invariant-loop-output
invariant-loop-output l = record {
  kept : l.outbox ≡ l.fn.outbox ++ output_bytes l.history.loads CONNECTION l.before (take l.output-index l.outputs);
  counted : l.sent ≡ l.before + count_to CONNECTION (take l.output-index l.outputs);
}
