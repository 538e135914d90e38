use Rattle.std.proofs.Common.{◌≡◌, false, length}
use Rattle.pkla_files.specs.Returned.{escapes_other}
use Rattle.pkla_files.proofs.returned.has_other_escape.Given as goal

-- the rest has another escape where the value has
abbrev pub invariant-loop-b : goal.invariant-loop-b
invariant-loop-b l = escapes_other l.behind l.rest ≡ escapes_other false l.value

abbrev pub decreases-loop-b : goal.decreases-loop-b
decreases-loop-b l = length l.rest
