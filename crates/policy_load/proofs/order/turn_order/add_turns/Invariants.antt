use Rattle.std.proofs.Common.{◌≡◌, ◌++◌, drop}
use Rattle.std.specs.List.{filter_map}
use Rattle.policy_load.specs.Turns.{turn_at}
use Rattle.policy_load.proofs.order.turn_order.add_turns.Given as goal

-- the turns so far, and those to come
abbrev pub invariant-loop-place : goal.invariant-loop-place
invariant-loop-place l = l.turns.items ++ filter_map (turn_at l.kind l.listing) (drop l.place-index l.place-items) ≡ l.initial.turns.items ++ filter_map (turn_at l.kind l.listing) l.place-items
