use Rattle.std.proofs.Common.{◌≡◌, take, flat_map}
use Rattle.event_answers.specs.Endings.{told_of, place_if}
use Rattle.event_answers.proofs.ending.walk_all.Given as goal

abbrev pub invariant-loop-i : goal.invariant-loop-i
invariant-loop-i g l = record {
  told : l.ended.outputs ≡ flat_map (told_of l.ending) (take l.i (g.V.JournalView.seen l.view).challenges);
  places : l.ended.places ≡ flat_map (place_if l.ending) (take l.i (g.V.JournalView.seen l.view).challenges);
}
