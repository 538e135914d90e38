-- What is left to be read gives what all the words give.
use Rattle.std.proofs.Common.{◌≡◌, length}
use Rattle.serve_words.specs.Plans.{doors_from}
use Rattle.serve_words.proofs.reading.read_doors.Given as goal

abbrev pub invariant-loop-word : goal.invariant-loop-word
invariant-loop-word l = doors_from l.initial.doors l.initial.rest ≡ doors_from l.doors l.rest

abbrev pub decreases-loop-word : goal.decreases-loop-word
decreases-loop-word l = length l.rest
