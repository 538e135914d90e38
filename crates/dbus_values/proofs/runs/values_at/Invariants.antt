use Rattle.std.proofs.Common.{◌≡◌, ◌-◌, ◌≤◌, []}
use Rattle.dbus_values.specs.Walk.{state, walk, most_parts}
use Rattle.dbus_values.specs.Places.{place}
use Rattle.dbus_values.proofs.runs.values_at.Given as goal

abbrev pub invariant-loop-left : goal.invariant-loop-left
invariant-loop-left l = (l.left ≤ most_parts) × (walk l.left (most_parts - l.left) l.limit l.big (place l.walk) ≡ walk most_parts 0 l.limit l.big (state [] l.signature l.from.at l.from.rest.now))

abbrev pub decreases-loop-left : goal.decreases-loop-left
decreases-loop-left l = l.left
