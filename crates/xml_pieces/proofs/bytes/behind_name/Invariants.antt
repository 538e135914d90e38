use Rattle.std.proofs.Common.{◌≡◌, length}
use Rattle.xml_pieces.specs.Bytes.{behind_name}
use Rattle.xml_pieces.proofs.bytes.behind_name.Given as goal

abbrev pub invariant-loop-b : goal.invariant-loop-b
invariant-loop-b l = behind_name l.rest ≡ behind_name l.bytes

abbrev pub decreases-loop-b : goal.decreases-loop-b
decreases-loop-b l = length l.rest
