use Rattle.std.proofs.Common.{◌≡◌, take, flat_map}
use Rattle.authority_model.specs.Keys.{key_seen}
use Rattle.event_answers.specs.Asked.{live_row}
use Rattle.event_answers.proofs.granting.live_rows.Given as goal

abbrev pub invariant-loop-i : goal.invariant-loop-i
invariant-loop-i g l = record { rows : l.rows ≡ flat_map (live_row (key_seen l.key) l.moment) (take l.i (g.V.JournalView.seen l.view).grants) }
