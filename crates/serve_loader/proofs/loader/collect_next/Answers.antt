use Rattle.std.proofs.Common.{subst}
use Rattle.shared_authority.specs.Passes.{Collects}
use Rattle.shared_authority.specs.declared.collecting.Collected.{Collected}
use Rattle.connection_laws.proofs.Refused.{collect_learned}
use Rattle.serve_loader.proofs.Going.{never_gone, takes_batch}
use Rattle.serve_loader.proofs.loader.collect_next.Goals as goal

pub unreachable-requires : goal.unreachable-requires
unreachable-requires g c = never_gone c.args.pass.now c.collect.new.pass c.requires.zero c.requires.fresh (subst (λ (r : Collected). Collects c.args.pass.now 0 r c.collect.new.pass) c.in-Ok-Gone.field-0-is c.in-Ok-Gone.ensures.ok)

pub returns-in-Ok-Batch-clause-ok : goal.returns-in-Ok-Batch-clause-ok
returns-in-Ok-Batch-clause-ok g c = takes_batch c.args.pass.now c.collect.new.pass c.in-Ok-Batch.batch c.requires.zero (subst (λ (r : Collected). Collects c.args.pass.now 0 r c.collect.new.pass) c.in-Ok-Batch.field-0-is c.in-Ok-Batch.ensures.ok)

pub returns-in-Err-clause-err : goal.returns-in-Err-clause-err
returns-in-Err-clause-err g c = record {
  refused = c.collect.new.pass;
  first = collect_learned g.L.LimitsName.limits c.args.pass.now c.in-Err.refused c.collect.new.pass c.in-Err.ensures.err;
  last = c.end.ensures.learned;
  fits = c.end.ensures.fits;
}
