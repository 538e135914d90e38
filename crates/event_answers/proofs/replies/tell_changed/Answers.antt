use Rattle.std.proofs.Common.{◌++◌, ◌∷◌, [], ap, ◌∙◌, append_assoc, take, map}
use Rattle.event_answers.specs.Asked.{changed_now}
use Rattle.event_answers.proofs.Living.{one_told}
use Rattle.event_answers.proofs.replies.tell_changed.Goals as goal

pub loop-i-preserved : goal.loop-i-preserved
loop-i-preserved g c =
    let live = (g.V.JournalView.seen c.args.view.now).live in
    record {
      told =
          c.in_ok-try_push.ensures.ok
          ∙ ap (λ ys. ys ++ changed_now c.in-Some.caller ∷ []) c.loop-i.invariant.told
          ∙ append_assoc c.args.outputs.now (map changed_now (take c.loop-i.i live)) (changed_now c.in-Some.caller ∷ [])
          ∙ ap (λ ys. c.args.outputs.now ++ ys) (one_told live c.loop-i.i c.in-Some.caller c.in-Some.ensures.number);
    }
