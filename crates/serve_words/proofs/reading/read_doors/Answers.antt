-- One door more is read.
use Rattle.std.proofs.Common.{◌≡◌, ◌∙◌, Some}
use Rattle.std.specs.Prelude.{codes}
use Rattle.command_line.specs.Doors.{door_of}
use Rattle.serve_words.specs.Plans.{value_of}
use Rattle.serve_words.proofs.Doors.{door_step}
use Rattle.serve_words.proofs.reading.read_doors.Goals as goal

pub loop-word-preserved : goal.loop-word-preserved
loop-word-preserved c =
    let found : value_of (codes "--door") c.loop-word.rest.now ≡ Some (c.in-Some.word.now, c.in-Some.later.now) = cc c.in-Some.ensures.found in
    let named : door_of c.in-Some.word.now ≡ Some c.in-Some-2.door = cc c.in_ok-door.ensures.door in
    c.loop-word.invariant ∙ door_step c.loop-word.doors c.loop-word.rest.now c.in-Some.word.now c.in-Some.later.now c.in-Some-2.door c.try_push.new.self found named c.in_ok-try_push.ensures.ok
