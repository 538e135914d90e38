use Rattle.std.proofs.Common.{◌≡◌, ◌++◌, ◌+◌, List, ℕ, length}
use Rattle.pk_outside.specs.Streams.{Gave}
use Rattle.client_link.specs.Following.{Passes}
use Rattle.pkcheck_tool.specs.Replies.{is_reply}
use Rattle.pkcheck_tool.proofs.asking.await_reply.Given as goal

-- The messages so far were no reply, and no read failed.
abbrev pub invariant-messages : goal.invariant-messages
invariant-messages g l = record {
  passes : (read : List ℕ) × Gave (g.I.Source.left l.fn.source) (g.I.Source.left l.source) read × Passes is_reply (l.fn.buffer ++ read) l.buffer;
  same : g.I.Source.origin l.source ≡ g.I.Source.origin l.fn.source;
  quiet : g.I.Source.faults l.source ≡ g.I.Source.faults l.fn.source;
}

abbrev pub decreases-messages : goal.decreases-messages
decreases-messages g l = g.I.Source.budget l.source + length l.buffer
