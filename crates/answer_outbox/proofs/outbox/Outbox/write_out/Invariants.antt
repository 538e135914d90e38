-- What stands before the rest was written, and no write failed.
use Rattle.std.proofs.Common.{◌≡◌, ◌-◌, ◌≤◌, length, drop}
use Rattle.pk_outside.specs.Allowing.{MayGo}
use Rattle.pk_outside.specs.Streams.{GotUpTo}
use Rattle.answer_outbox.proofs.outbox.Outbox.write_out.Given as goal

abbrev pub invariant-loop-self : goal.invariant-loop-self
invariant-loop-self g l = record {
  written : GotUpTo (g.O.Sink.held l.fn.output) (g.O.Sink.held l.output) l.fn.self (drop l.self-inside.start l.self-inside.bytes.items);
  within : l.self-inside.start ≤ length l.self-inside.bytes.items;
  may : MayGo g.O.Sink.allowed (g.O.Sink.held l.output) (drop l.self-inside.start l.self-inside.bytes.items);
  quiet : g.O.Sink.faults l.output ≡ g.O.Sink.faults l.fn.output;
}

abbrev pub decreases-loop-self : goal.decreases-loop-self
decreases-loop-self g l = length l.self-inside.bytes.items - l.self-inside.start
