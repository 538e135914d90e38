use Rattle.authority_model.specs.declared.event.Event.TheVariants.{LoadFailed}
use Rattle.connection_laws.proofs.Refused.{submit_learned}
use Rattle.serve_loader.proofs.Going.{entered_event}
use Rattle.serve_loader.proofs.loading.submit_code.Goals as goal

pub returns-in-Ok-clause-ok : goal.returns-in-Ok-clause-ok
returns-in-Ok-clause-ok g c = entered_event c.args.pass.now c.submit.new.pass (LoadFailed c.args.code) c.in-Ok.field-0 c.requires.zero c.in-Ok.ensures.ok

pub returns-in-Err-clause-err : goal.returns-in-Err-clause-err
returns-in-Err-clause-err g c = record {
  refused = c.submit.new.pass;
  first = submit_learned g.L.LimitsName.limits c.args.pass.now (LoadFailed c.args.code) c.in-Err.refused c.submit.new.pass c.in-Err.ensures.err;
  last = c.end.ensures.learned;
  fits = c.end.ensures.fits;
}
