use Rattle.std.proofs.Common.{◌≡◌, length}
use Rattle.keyfile_text.specs.Escapes.{escapes_end, escapes_whole}
use Rattle.keyfile_text.proofs.escape.are_escapes_whole.Given as goal

abbrev pub invariant-loop-b : goal.invariant-loop-b
invariant-loop-b l = escapes_end l.behind l.rest ≡ escapes_whole l.value

abbrev pub decreases-loop-b : goal.decreases-loop-b
decreases-loop-b l = length l.rest
