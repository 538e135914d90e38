use Rattle.std.proofs.Common.{◌≡◌, ◌∙◌, ap, length, Ok}
use Rattle.xml_pieces.specs.Reading.{On}
use Rattle.xml_pieces.specs.Views.{walk_on}
use Rattle.xml_pieces.proofs.Loops.{steps_on}
use Rattle.action_drafts.specs.Actions.{action_step}
use Rattle.action_drafts.proofs.action.action_elements.Goals as goal

pub loop-i-preserved : goal.loop-i-preserved
loop-i-preserved c =
    let next : action_step (c.loop-i.action, c.loop-i.rest.now) ≡ Ok (On (c.action_step.new.action, c.in-On.behind.now)) = c.in_ok-behind.ensures.exact ∙ ap (λ w. Ok (walk_on c.action_step.new.action w)) c.in-On.is in
    steps_on action_step (length c.args.bytes.now) c.loop-i._i (c.loop-i.action, c.loop-i.rest.now) (c.action_step.new.action, c.in-On.behind.now) _ c.loop-i-test.true c.loop-i.invariant next
