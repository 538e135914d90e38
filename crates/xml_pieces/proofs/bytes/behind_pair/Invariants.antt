use Rattle.std.proofs.Common.{◌≡◌, length}
use Rattle.xml_pieces.specs.Bytes.{behind_pair}
use Rattle.xml_pieces.proofs.bytes.behind_pair.Given as goal

abbrev pub invariant-loop-a : goal.invariant-loop-a
invariant-loop-a l = behind_pair l.first l.second l.rest ≡ behind_pair l.first l.second l.bytes

abbrev pub decreases-loop-a : goal.decreases-loop-a
decreases-loop-a l = length l.rest
