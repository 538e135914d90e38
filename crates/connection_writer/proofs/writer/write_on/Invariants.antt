-- What was written so far, from wherever it began.
use Rattle.std.proofs.Common.{◌≤◌, ℕ, None, Option, List}
use Rattle.authority_model.specs.declared.journal.Item.{Item}
use Rattle.history_lock.specs.Known.{Known}
use Rattle.connection_writer.specs.Writing.{StandsAt}
use Rattle.connection_writer.proofs.writer.write_on.Given as goal

abbrev pub invariant-loop-turn : goal.invariant-loop-turn
invariant-loop-turn g l = record {
  stands : (v : Known Item) (held : Option (List ℕ)) (faults : ℕ) → StandsAt g.L.LimitsName.limits l.of held faults v (g.O.Sink.held l.fn.sink) (g.O.Sink.faults l.fn.sink) l.fn.pass None
      → StandsAt g.L.LimitsName.limits l.of held faults v (g.O.Sink.held l.sink) (g.O.Sink.faults l.sink) l.pass None;
  later : g.O.Sink.faults l.fn.sink ≤ g.O.Sink.faults l.sink;
}
