use Rattle.std.proofs.Common.{◌≡◌}
use mathlib.Core.List.{IsPrefix}
use Rattle.service_slots.proofs.accepting.next_link.Given as goal

-- No link came so far.
abbrev pub invariant-loop-turn : goal.invariant-loop-turn
invariant-loop-turn g l = record {
  told : g.D.Door.told l.door ≡ g.D.Door.told l.fn.door;
  counts : g.D.Door.faults l.door ≡ g.D.Door.faults l.fn.door;
  owner : g.D.Door.owner l.door ≡ g.D.Door.owner l.fn.door;
  grows : IsPrefix l.fn.pass.history l.pass.history;
}
