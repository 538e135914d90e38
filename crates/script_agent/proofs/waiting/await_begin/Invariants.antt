use Rattle.std.proofs.Common.{◌≡◌, ◌+◌, length}
use Rattle.client_messages.specs.Agents.{begin_of}
use Rattle.script_agent.proofs.Hearings.{Hearing}
use Rattle.script_agent.proofs.waiting.await_begin.Given as goal

-- none of the messages taken asks to begin, and no read failed
abbrev pub invariant-messages : goal.invariant-messages
invariant-messages g l = record {
  hearing : Hearing (begin_of) (g.I.Source.left l.fn.source) (g.I.Source.left l.source) l.fn.buffer l.buffer;
  quiet : g.I.Source.faults l.source ≡ g.I.Source.faults l.fn.source;
  same : g.I.Source.origin l.source ≡ g.I.Source.origin l.fn.source;
}

abbrev pub decreases-messages : goal.decreases-messages
decreases-messages g l = g.I.Source.budget l.source + length l.buffer
