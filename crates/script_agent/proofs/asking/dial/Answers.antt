use Rattle.std.proofs.Common.{refl}
use Rattle.script_agent.specs.Steps.{DialsNew}
use Rattle.script_agent.proofs.Dialling.{dial_made, dial_refused}
use Rattle.script_agent.proofs.Fronts.{err_along}
use Rattle.script_agent.proofs.asking.dial.Goals as goal

pub returns-in_err-buffer-clause-dials : goal.returns-in_err-buffer-clause-dials
returns-in_err-buffer-clause-dials g c =
    err_along (DialsNew c.args.path.now (g.N.Station.told c.args.station.now) (g.N.Station.told c.args.station.now) (g.N.Station.faults c.args.station.now) (g.N.Station.faults c.args.station.now)) c.from_residual.result _ c.from_residual.ensures.1 refl

pub returns-in_err-link-clause-dials : goal.returns-in_err-link-clause-dials
returns-in_err-link-clause-dials g c =
    err_along (DialsNew c.args.path.now (g.N.Station.told c.args.station.now) (g.N.Station.told c.dial.new.self) (g.N.Station.faults c.args.station.now) (g.N.Station.faults c.dial.new.self)) c.from_residual-in_err-link.result _ c.from_residual-in_err-link.ensures.1
    (dial_refused c.args.path.now _ _ _ _ c.in_err-link.field-0.0 c.in_err-link.ensures.err c.in_err-link.ensures.cause.refused)

pub returns-clause-dials : goal.returns-clause-dials
returns-clause-dials g c = dial_made c.args.path.now _ _ (g.N.Station.faults c.args.station.now) (g.N.Station.faults c.dial.new.self) _ _ c.in_ok-link.ensures.link c.new-2.ensures.new
