-- The messages so far are written, but for those that are in the outbox.
use Rattle.std.proofs.Common.{◌≡◌, ◌+◌, ◌≤◌, ◌++◌, take}
use Rattle.authority_messages.specs.Texts.{texts}
use Rattle.pk_outside.specs.Streams.{GotUpTo}
use Rattle.connection_writer.proofs.batches.add_messages.Given as goal

abbrev pub invariant-loop-output : goal.invariant-loop-output
invariant-loop-output g l = record {
  serial : l.serial ≡ l.first + l.output-index;
  written : GotUpTo (g.O.Sink.held l.fn.sink) (g.O.Sink.held l.sink) (l.fn.outbox ++ texts l.history.loads l.first (take l.output-index l.outputs)) l.outbox;
  later : g.O.Sink.faults l.fn.sink ≤ g.O.Sink.faults l.sink;
}
