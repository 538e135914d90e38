-- What the two halves of a step come to together: the segment that was due is written, and an item is entered.
use Rattle.std.proofs.Common.{◌≡◌, List, sym, subst}
use Rattle.authority_model.specs.declared.journal.Item.{Item}
use Rattle.authority_model.specs.Given.{Given}
use Rattle.journal_segments.specs.Segments.{IsSegmentedFor, Segments, after_due, done_after}
use Rattle.journal_segments.specs.Steps.{IsAdded, IsEntered}
use Rattle.journal_segments.proofs.Onto.{due_for, entered}

-- an item that is added once the segment that was due is written is entered
pub step_entered : (g : Given) (done : List Item) (old mid new : Segments) → mid ≡ after_due old → IsSegmentedFor done old → ((d : List Item) → IsSegmentedFor d mid → IsAdded g d mid new) → IsEntered g done old new
step_entered g done old mid new same is adds =
    entered g done old new (subst (λ m. IsAdded g (done_after done old) m new) same (adds (done_after done old) (subst (IsSegmentedFor (done_after done old)) (sym same) (due_for done old is))))
