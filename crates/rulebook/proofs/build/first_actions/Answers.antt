use Rattle.std.proofs.Common.{refl, sym, ap, ◌∙◌, arith, bytes_eq, position, take}
use Rattle.authority_model.specs.Lists.{or_else, when}
use Rattle.rulebook.proofs.Firsts.{position-take}
use Rattle.rulebook.proofs.build.first_actions.Goals as goal

pub loop-i-preserved : goal.loop-i-preserved
loop-i-preserved c id =
    let action = c.index-actions-i.result in
    let so_far = position (λ a. bytes_eq a.id id) (take c.loop-i.i c.args.actions.now) in
    c.in_ok-put_first.ensures.first id
    ∙ ap (λ o. or_else o (when (bytes_eq c.text.result.now id) c.in_ok-place.place)) (c.loop-i.invariant id)
    ∙ ap (λ t. or_else so_far (when (bytes_eq t id) c.in_ok-place.place)) c.text.ensures.text
    ∙ ap (λ a. or_else so_far (when (bytes_eq a.id id) c.in_ok-place.place)) (sym c.index-actions-i.is)
    ∙ position-take (λ a. bytes_eq a.id id) c.args.actions.now c.loop-i.i _ c.in_ok-place.place action refl (omega arith) c.index-actions-i.is c.in_ok-place.ensures.place
