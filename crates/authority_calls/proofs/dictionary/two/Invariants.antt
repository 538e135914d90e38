use Rattle.std.proofs.Common.{◌≡◌, ◌-◌, None}
use Rattle.std.specs.Option.{option_map}
use Rattle.dbus_values.specs.Parts.{piece}
use Rattle.dbus_values.specs.Walk.{most_parts}
use Rattle.authority_calls.proofs.Many.{two_left}
use Rattle.authority_calls.proofs.dictionary.two.Given as goal

abbrev pub invariant-loop-i : goal.invariant-loop-i
invariant-loop-i l = two_left (most_parts - l.i) (option_map piece l.first_found) (option_map piece l.second_found) l.first l.second l.parts ≡ two_left most_parts None None l.first l.second l.initial.parts
