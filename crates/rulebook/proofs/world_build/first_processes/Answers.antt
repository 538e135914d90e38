use Rattle.std.proofs.Common.{refl, ap, ◌∙◌, ◌==◌, ◌&&◌, arith}
use Rattle.authority_model.specs.Lists.{or_else, when}
use Rattle.rulebook.proofs.Firsts.{position-take}
use Rattle.rulebook.proofs.world_build.first_processes.Goals as goal

pub loop-i-preserved : goal.loop-i-preserved
loop-i-preserved c pid start =
    let row = c.index-processes-i.result in
    c.in_ok-put_first_process.ensures.first pid start
    ∙ ap (λ o. or_else o (when ((row.pid == pid) && (row.start == start)) c.in_ok-place.place)) (c.loop-i.invariant pid start)
    ∙ position-take (λ p. (p.pid == pid) && (p.start == start)) c.args.processes.now c.loop-i.i _ c.in_ok-place.place row refl (omega arith) c.index-processes-i.is c.in_ok-place.ensures.place
