use Rattle.pk_types.proofs.Cuts.{cut_is, lacks_all}
use Rattle.std.proofs.Common.{arith}
use Rattle.pk_types.proofs.cutting.cut.Goals as goal

pub returns-then-at-bytes-clause-none : goal.returns-then-at-bytes-clause-none
returns-then-at-bytes-clause-none c = lacks_all _ _ _ c.if-at-bytes.true c.place-at.ensures.before

pub returns-clause-found : goal.returns-clause-found
returns-clause-found c =
    let lt = c.if-at-bytes.false in
    cut_is _ _ _ _ _ (omega (arith, c.place-at.ensures.within)) c.place-at.ensures.before (c.place-at.ensures.found (omega (arith, c.place-at.ensures.within)))
    c.split_at.ensures.front c.split_at-2.ensures.back
