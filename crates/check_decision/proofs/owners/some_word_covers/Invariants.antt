use Rattle.std.proofs.Common.{◌≡◌, length}
use Rattle.authority_model.specs.Lists.{any_of}
use Rattle.authority_model.specs.Words.{words}
use Rattle.check_decision.specs.Owners.{word_covers}
use Rattle.check_decision.proofs.owners.some_word_covers.Given as goal

abbrev pub invariant-loop-word : goal.invariant-loop-word
invariant-loop-word l = record { same : any_of (word_covers l.world l.uid) (words l.text) ≡ any_of (word_covers l.world l.uid) (words l.rest) }

abbrev pub decreases-loop-word : goal.decreases-loop-word
decreases-loop-word l = length l.rest
