use Rattle.std.proofs.Common.{◌≡◌, length}
use Rattle.xml_pieces.specs.References.{behind_body}
use Rattle.xml_pieces.proofs.references.behind_body.Given as goal

abbrev pub invariant-loop-b : goal.invariant-loop-b
invariant-loop-b l = behind_body l.rest ≡ behind_body l.bytes

abbrev pub decreases-loop-b : goal.decreases-loop-b
decreases-loop-b l = length l.rest
