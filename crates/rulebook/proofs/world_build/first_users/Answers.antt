use Rattle.std.proofs.Common.{refl, ap, ◌∙◌, ◌==◌, arith}
use Rattle.authority_model.specs.Lists.{or_else, when}
use Rattle.rulebook.proofs.Firsts.{position-take}
use Rattle.rulebook.proofs.world_build.first_users.Goals as goal

pub loop-i-preserved : goal.loop-i-preserved
loop-i-preserved c n =
    let row = c.index-users-i.result in
    c.in_ok-put_first_number.ensures.first n
    ∙ ap (λ o. or_else o (when (row.uid == n) c.in_ok-place.place)) (c.loop-i.invariant n)
    ∙ position-take (λ r. r.uid == n) c.args.users.now c.loop-i.i _ c.in_ok-place.place row refl (omega arith) c.index-users-i.is c.in_ok-place.ensures.place
