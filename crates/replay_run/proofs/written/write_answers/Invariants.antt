-- The answers so far were written and counted, and no write failed.
use Rattle.std.proofs.Common.{◌≡◌, take}
use Rattle.pk_outside.specs.Streams.{Got}
use Rattle.scenario_run.specs.Text.{counts_after, loads_of, outputs_text}
use Rattle.replay_run.specs.Counted.{counted}
use Rattle.replay_run.proofs.written.write_answers.Given as goal

abbrev pub invariant-loop-answer : goal.invariant-loop-answer
invariant-loop-answer g l = record {
  written : Got (g.O.Sink.held l.fn.output) (g.O.Sink.held l.output) (outputs_text (loads_of l.journal.past) (counted l.fn.counts) (take l.answer-index l.answers));
  counted : counted l.counts ≡ counts_after (counted l.fn.counts) (take l.answer-index l.answers);
  quiet : g.O.Sink.faults l.output ≡ g.O.Sink.faults l.fn.output;
}
