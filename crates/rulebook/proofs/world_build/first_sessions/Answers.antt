use Rattle.std.proofs.Common.{refl, ap, ◌∙◌, arith, bytes_eq}
use Rattle.authority_model.specs.Lists.{or_else, when}
use Rattle.rulebook.proofs.Firsts.{position-take}
use Rattle.rulebook.proofs.world_build.first_sessions.Goals as goal

pub loop-i-preserved : goal.loop-i-preserved
loop-i-preserved c id =
    let row = c.index-sessions-i.result in
    c.in_ok-put_first.ensures.first id
    ∙ ap (λ o. or_else o (when (bytes_eq row.id id) c.in_ok-place.place)) (c.loop-i.invariant id)
    ∙ position-take (λ s. bytes_eq s.id id) c.args.sessions.now c.loop-i.i _ c.in_ok-place.place row refl (omega arith) c.index-sessions-i.is c.in_ok-place.ensures.place
