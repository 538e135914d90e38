use Rattle.std.proofs.Common.{◌≡◌, refl, sym, subst, Option}
use Rattle.script_agent.specs.Lines.{LineNow}
use Rattle.script_agent.specs.Stations.{AreUsedUp, CountsLinks, HangsUp}
use Rattle.script_agent.proofs.Ending.{counts_line, hangs_line}
use Rattle.script_agent.proofs.attending.hang_up.Goals as goal

pub returns-in-Some-clause-hangs : goal.returns-in-Some-clause-hangs
returns-in-Some-clause-hangs g c =
    subst (λ (h : Option LineNow). HangsUp (g.N.Station.told c.args.station.now) (g.N.Station.told c.hang-in-Some.new.self) c.args.desk h) (sym c.in-Some.is)
    (g.N.Station.told c.hang.new.self, hangs_line _ _ c.args.desk _ _ _ _ _ c.into_ends.ensures.ends c.hang.ensures.hung, hangs_line _ _ c.in-Some.line _ _ _ _ _ c.into_ends-in-Some.ensures.ends c.hang-in-Some.ensures.hung)

pub returns-in-Some-clause-count : goal.returns-in-Some-clause-count
returns-in-Some-clause-count g c =
    subst (λ (h : Option LineNow). CountsLinks (g.N.Station.faults c.args.station.now) (g.N.Station.faults c.hang-in-Some.new.self) c.args.desk h) (sym c.in-Some.is)
    (g.N.Station.faults c.hang.new.self, counts_line _ _ c.args.desk _ _ _ _ _ c.into_ends.ensures.ends c.hang.ensures.count, counts_line _ _ c.in-Some.line _ _ _ _ _ c.into_ends-in-Some.ensures.ends c.hang-in-Some.ensures.count)

pub returns-in-Some-clause-used_up : goal.returns-in-Some-clause-used_up
returns-in-Some-clause-used_up g c = subst (AreUsedUp c.args.desk) (sym c.in-Some.is) (c.into_ends.ensures.used_up, c.into_ends-in-Some.ensures.used_up)

pub returns-in_default-clause-hangs : goal.returns-in_default-clause-hangs
returns-in_default-clause-hangs g c =
    subst (λ (h : Option LineNow). HangsUp (g.N.Station.told c.args.station.now) (g.N.Station.told c.hang.new.self) c.args.desk h) (sym c.in_default.is) (hangs_line _ _ c.args.desk _ _ _ _ _ c.into_ends.ensures.ends c.hang.ensures.hung)

pub returns-in_default-clause-count : goal.returns-in_default-clause-count
returns-in_default-clause-count g c =
    subst (λ (h : Option LineNow). CountsLinks (g.N.Station.faults c.args.station.now) (g.N.Station.faults c.hang.new.self) c.args.desk h) (sym c.in_default.is) (counts_line _ _ c.args.desk _ _ _ _ _ c.into_ends.ensures.ends c.hang.ensures.count)

pub returns-in_default-clause-used_up : goal.returns-in_default-clause-used_up
returns-in_default-clause-used_up g c = subst (AreUsedUp c.args.desk) (sym c.in_default.is) c.into_ends.ensures.used_up
