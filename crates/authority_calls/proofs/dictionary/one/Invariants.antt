use Rattle.std.proofs.Common.{◌≡◌, ◌-◌, None}
use Rattle.std.specs.Option.{option_map}
use Rattle.dbus_values.specs.Parts.{piece}
use Rattle.dbus_values.specs.Walk.{most_parts}
use Rattle.authority_calls.proofs.Many.{one_left}
use Rattle.authority_calls.proofs.dictionary.one.Given as goal

abbrev pub invariant-loop-i : goal.invariant-loop-i
invariant-loop-i l = one_left (most_parts - l.i) (option_map piece l.found) l.key l.parts ≡ one_left most_parts None l.key l.initial.parts
