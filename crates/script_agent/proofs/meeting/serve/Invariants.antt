use Rattle.std.proofs.Common.{◌≡◌, ◌+◌, ◌≤◌}
use Rattle.script_agent.specs.Steps.{Arriving, Outside, Standing, outside, sent_to}
use Rattle.script_agent.proofs.meeting.serve.Given as goal

-- the agent is ready, and met as many challenges as turns were made
abbrev pub invariant-challenges : goal.invariant-challenges
invariant-challenges g l = record {
  standing : (start : Outside) → Arriving l.fn.task start (outside (g.N.Station.told l.fn.station) (g.N.Station.faults l.fn.station) (g.O.Sink.held l.fn.output) (g.O.Sink.faults l.fn.output)) l.fn.desk l.fn.helper
      → Standing l.fn.task start (outside (g.N.Station.told l.station) (g.N.Station.faults l.station) (g.O.Sink.held l.output) (g.O.Sink.faults l.output)) l.desk l.helper;
  sent : l.desk.sent ≡ l._met + 1;
  asked : sent_to l.helper ≤ l._met;
}
