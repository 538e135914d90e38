use Rattle.std.proofs.Common.{◌≡◌, length}
use Rattle.xml_pieces.specs.Markup.{quoted}
use Rattle.xml_pieces.proofs.markup.quoted.Given as goal

abbrev pub invariant-loop-b : goal.invariant-loop-b
invariant-loop-b l = quoted l.quote l.here l.rest ≡ quoted l.quote l.here l.bytes

abbrev pub decreases-loop-b : goal.decreases-loop-b
decreases-loop-b l = length l.rest
