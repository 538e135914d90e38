-- The lines so far ran without a fault, and their text was told; no read and no write failed.
use Rattle.std.proofs.Common.{◌≡◌, ◌≤◌, ◌+◌, ◌^◌, length}
use Rattle.authority_model.specs.Items.{sent}
use Rattle.replay_run.specs.Promises.{MayTellOn}
use Rattle.replay_run.specs.Telling.{HasCounted, tells}
use Rattle.replay_run.proofs.Exits.{SoFar}
use Rattle.replay_run.proofs.playing.Playback.run.Given as goal

abbrev pub invariant-lines : goal.invariant-lines
invariant-lines g l = record {
  so_far : SoFar (tells l.fn.self.telling) l.fn.self.scenario (g.I.Source.left l.fn.input) (g.I.Source.left l.input) l.self.reader l.self.scenario l.self.number (g.O.Sink.held l.fn.output) (g.O.Sink.held l.output);
  counted : HasCounted l.self.telling (sent l.self.scenario.past);
  same : tells l.self.telling ≡ tells l.fn.self.telling;
  read : g.I.Source.faults l.input ≡ g.I.Source.faults l.fn.input;
  wrote : g.O.Sink.faults l.output ≡ g.O.Sink.faults l.fn.output;
  may : MayTellOn (tells l.self.telling) g.O.Sink.allowed (g.O.Sink.held l.output) l.self.scenario.past;
  kept : l.self.scenario.keeping ≡ l.fn.self.scenario.keeping;
  count : l.self.number + (g.I.Source.budget l.input + length l.self.reader) ≤ 2 ^ 62 + 1;
}

abbrev pub decreases-lines : goal.decreases-lines
decreases-lines g l = g.I.Source.budget l.input + length l.self.reader
