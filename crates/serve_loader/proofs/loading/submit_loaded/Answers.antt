use Rattle.connection_laws.proofs.Refused.{load_learned}
use Rattle.serve_loader.proofs.Going.{entered_load}
use Rattle.serve_loader.proofs.loading.submit_loaded.Goals as goal

pub returns-in-Ok-clause-ok : goal.returns-in-Ok-clause-ok
returns-in-Ok-clause-ok g c = entered_load c.args.pass.now c.submit_load.new.pass c.args.loaded c.in-Ok.field-0 c.requires.zero c.in-Ok.ensures.ok

pub returns-in-Err-clause-err : goal.returns-in-Err-clause-err
returns-in-Err-clause-err g c = record {
  refused = c.submit_load.new.pass;
  first = load_learned g.L.LimitsName.limits c.args.pass.now c.args.loaded c.in-Err.refused c.submit_load.new.pass c.in-Err.ensures.err;
  last = c.end.ensures.learned;
  fits = c.end.ensures.fits;
}
