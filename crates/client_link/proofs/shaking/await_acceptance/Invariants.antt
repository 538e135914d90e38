use Rattle.std.proofs.Common.{◌≡◌, [], None}
use Rattle.link_handshake.specs.Clients.{client_over, client_to_come}
use Rattle.link_handshake.specs.Shakes.{Open}
use Rattle.client_link.proofs.Shaken.{Fed}
use Rattle.client_link.proofs.shaking.await_acceptance.Given as goal

-- What was read was fed, and the line has not ended.
abbrev pub invariant-pieces : goal.invariant-pieces
invariant-pieces g l = record {
  empty : l.buffer ≡ [];
  over : client_over l.shake ≡ None;
  open_yet : client_to_come l.shake [] ≡ Open;
  fed : Fed (g.I.Source.left l.fn.source) (g.I.Source.left l.source) l.shake;
  same : g.I.Source.origin l.source ≡ g.I.Source.origin l.fn.source;
  quiet : g.I.Source.faults l.source ≡ g.I.Source.faults l.fn.source;
}

abbrev pub decreases-pieces : goal.decreases-pieces
decreases-pieces g l = g.I.Source.budget l.source
