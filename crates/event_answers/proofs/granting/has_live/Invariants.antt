use Rattle.std.proofs.Common.{◌≡◌, false, take}
use Rattle.std.specs.List.{list_any}
use Rattle.authority_model.specs.Keys.{key_seen}
use Rattle.event_answers.specs.Asked.{is_live_for}
use Rattle.event_answers.proofs.granting.has_live.Given as goal

abbrev pub invariant-loop-i : goal.invariant-loop-i
invariant-loop-i g l = record { none : list_any (is_live_for (key_seen l.key) l.moment) (take l.i (g.V.JournalView.seen l.view).grants) ≡ false }
