-- The reply is told, or there is none.
use Rattle.std.proofs.Common.{refl}
use Rattle.pkcheck_tool.specs.Checks.{outside}
use Rattle.pkcheck_tool.proofs.Told.{checked_reply, checked_stop}
use Rattle.pkcheck_tool.proofs.top.check.Goals as goal

pub returns-in-Ok-clause-checked : goal.returns-in-Ok-clause-checked
returns-in-Ok-clause-checked g c =
    checked_reply c.args.plan.now
    (outside (g.N.Station.told c.args.station.now) (g.N.Station.told c.ask.new.station) (g.N.Station.faults c.args.station.now) (g.N.Station.faults c.ask.new.station) (g.O.Sink.held c.args.output.now) (g.O.Sink.held c.tell.new.output) (g.O.Sink.faults c.args.output.now) (g.O.Sink.faults c.tell.new.output))
    c.in-Ok.reply c.tell.result c.in-Ok.ensures.asks c.tell.ensures.tells

pub returns-in-Err-clause-checked : goal.returns-in-Err-clause-checked
returns-in-Err-clause-checked g c =
    checked_stop c.args.plan.now
    (outside (g.N.Station.told c.args.station.now) (g.N.Station.told c.ask.new.station) (g.N.Station.faults c.args.station.now) (g.N.Station.faults c.ask.new.station) (g.O.Sink.held c.args.output.now) (g.O.Sink.held c.args.output.now) (g.O.Sink.faults c.args.output.now) (g.O.Sink.faults c.args.output.now))
    c.in-Err.status c.in-Err.ensures.asks (record { same = refl; quiet = refl })
