use Rattle.std.proofs.Common.{◌≡◌, ◌-◌, length}
use Rattle.xml_pieces.specs.Reading.{steps}
use Rattle.action_drafts.specs.Defaults.{defaults_step, no_defaults}
use Rattle.action_drafts.proofs.defaults.default_elements.Given as goal

abbrev pub invariant-loop-i : goal.invariant-loop-i
invariant-loop-i l = steps defaults_step (length l.bytes - l._i) (l.defaults, l.rest) ≡ steps defaults_step (length l.bytes) (no_defaults, l.bytes)
