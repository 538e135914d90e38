-- Words in the grammar are checked.
use Rattle.std.proofs.Common.{refl, inr}
use Rattle.pkcheck_tool.specs.Checks.{outside}
use Rattle.pkcheck_tool.proofs.Completing.{completes}
use Rattle.pkcheck_tool.proofs.Told.{checks}
use Rattle.pkcheck_tool.proofs.top.pkcheck.Goals as goal

pub returns-in-Ok-clause-checks : goal.returns-in-Ok-clause-checks
returns-in-Ok-clause-checks g c =
    checks c.args.words.now c.in-Ok.plan
    (outside (g.N.Station.told c.args.station.now) (g.N.Station.told c.check.new.station) (g.N.Station.faults c.args.station.now) (g.N.Station.faults c.check.new.station) (g.O.Sink.held c.args.output.now) (g.O.Sink.held c.check.new.output) (g.O.Sink.faults c.args.output.now) (g.O.Sink.faults c.check.new.output))
    c.check.result c.in-Ok.ensures.plan c.check.ensures.checked

pub returns-in-Ok-clause-complete : goal.returns-in-Ok-clause-complete
returns-in-Ok-clause-complete g c =
    completes c.args.words.now
    (outside (g.N.Station.told c.args.station.now) (g.N.Station.told c.check.new.station) (g.N.Station.faults c.args.station.now) (g.N.Station.faults c.check.new.station) (g.O.Sink.held c.args.output.now) (g.O.Sink.held c.check.new.output) (g.O.Sink.faults c.args.output.now) (g.O.Sink.faults c.check.new.output))
    c.check.result (returns-in-Ok-clause-checks g c)

pub returns-in-Err-NoMemory-clause-complete : goal.returns-in-Err-NoMemory-clause-complete
returns-in-Err-NoMemory-clause-complete g c plan before given links due asked is has gives station output = inr refl
