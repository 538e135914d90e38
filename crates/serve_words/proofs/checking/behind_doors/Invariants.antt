-- Doors were read, and words are left.
use Rattle.std.proofs.Common.{length}
use Rattle.serve_words.specs.Doors.{SoFar}
use Rattle.serve_words.proofs.checking.behind_doors.Given as goal

abbrev pub invariant-loop-word : goal.invariant-loop-word
invariant-loop-word l = SoFar l.initial.rest l.rest

abbrev pub decreases-loop-word : goal.decreases-loop-word
decreases-loop-word l = length l.rest
