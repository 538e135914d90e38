use Rattle.std.proofs.Common.{◌≡◌, ◌++◌, take, map}
use Rattle.event_answers.specs.Asked.{changed_now}
use Rattle.event_answers.proofs.replies.tell_changed.Given as goal

abbrev pub invariant-loop-i : goal.invariant-loop-i
invariant-loop-i g l = record { told : l.outputs ≡ l.initial.outputs ++ map changed_now (take l.i (g.V.JournalView.seen l.view).live) }
