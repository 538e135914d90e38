use Rattle.std.proofs.Common.{◌≡◌, ◌++◌, List, ℕ, [], None, drop}
use Rattle.link_handshake.specs.Clients.{client_over, client_to_come}
use Rattle.link_handshake.specs.Shakes.{Open}
use Rattle.client_link.proofs.shaking.feed_each.Given as goal

-- The bytes so far were taken, and the line has not ended.
abbrev pub invariant-loop-index : goal.invariant-loop-index
invariant-loop-index l = record {
  over : client_over l.shake ≡ None;
  open_yet : client_to_come l.shake [] ≡ Open;
  fed : (more : List ℕ) → client_to_come l.initial.shake (l.bytes ++ more) ≡ client_to_come l.shake (drop l.index l.bytes ++ more);
}
