use Rattle.std.proofs.Common.{subst}
use Rattle.std.specs.Prelude.{All}
use Rattle.std.proofs.lemmas.List.{take_all}
use Rattle.authority_service.specs.Looks.{NeverLooked}
use Rattle.authority_service.proofs.Unlooked.{all_more}
use Rattle.authority_service.proofs.telling.none_looked.Goals as goal

pub loop-line-preserved : goal.loop-line-preserved
loop-line-preserved c = all_more c.args.lines.now c.loop-line.line-index _ c.loop-line-test.true c.loop-line.invariant (c.never_looked.ensures c.if-not-never_looked.false)

pub returns : goal.returns
returns c = λ _. subst (All NeverLooked) (take_all c.loop-line.line-index c.args.lines.now c.loop-line-test.false) c.loop-line.invariant
