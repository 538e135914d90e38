use Rattle.std.proofs.Common.{◌≡◌, ◌-◌, []}
use Rattle.dbus_values.specs.Walk.{most_parts}
use Rattle.authority_calls.proofs.Many.{pairs_left}
use Rattle.authority_calls.proofs.pairs.pairs.Given as goal

abbrev pub invariant-loop-i : goal.invariant-loop-i
invariant-loop-i l = pairs_left (most_parts - l.i) l.pairs l.parts ≡ pairs_left most_parts [] l.initial.parts
