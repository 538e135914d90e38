use Rattle.std.proofs.Common.{◌≡◌, refl, arith}
use Rattle.script_agent.specs.Steps.{outside}
use Rattle.script_agent.proofs.Ending.{arriving, attended, attended_stopped, not_dialled}
use Rattle.script_agent.proofs.attending.attend.Goals as goal

pub returns-in-Err : goal.returns-in-Err
returns-in-Err g c = record { attends = not_dialled c.args.task.now _ _ c.in-Err.status c.in-Err.ensures.dials refl }

pub serve-end-requires-clause-count : goal.serve-end-requires-clause-count
serve-end-requires-clause-count g c κs within = c.requires.count

pub serve-end-requires-clause-rest : goal.serve-end-requires-clause-rest
serve-end-requires-clause-rest g c κs within = c.in-Ok.ensures.dials.1.rest

pub serve-end-requires-clause-sent : goal.serve-end-requires-clause-sent
serve-end-requires-clause-sent g c κs within = c.in-Ok.ensures.dials.1.sent

pub serve-end-requires-clause-alone : goal.serve-end-requires-clause-alone
serve-end-requires-clause-alone g c κs within = refl

pub serve-end-requires-clause-free : goal.serve-end-requires-clause-free
serve-end-requires-clause-free g c κs within = c.requires.free

pub serve-end-requires-clause-free_link : goal.serve-end-requires-clause-free_link
serve-end-requires-clause-free_link g c κs within = c.requires.free_link

pub returns-in-Ok-end : goal.returns-in-Ok-end
returns-in-Ok-end g c =
    let start = outside (g.N.Station.told c.args.station.now) (g.N.Station.faults c.args.station.now) (g.O.Sink.held c.args.output.now) (g.O.Sink.faults c.args.output.now) in
    let r = c.in-Ok-end.ensures.serves start (arriving c.args.task.now start _ c.in-Ok.desk c.in-Ok.ensures.dials c.in-Ok.ensures.later refl (omega arith)) in
    record { attends = attended c.args.task.now start _ _ c.serve-end.new.desk c.serve-end.new.helper r.0 r.1 c.hang_up.ensures.hangs c.hang_up.ensures.used_up refl }

pub returns-in-Err-end : goal.returns-in-Err-end
returns-in-Err-end g c =
    let start = outside (g.N.Station.told c.args.station.now) (g.N.Station.faults c.args.station.now) (g.O.Sink.held c.args.output.now) (g.O.Sink.faults c.args.output.now) in
    let r = c.in-Err-end.ensures.serves start (arriving c.args.task.now start _ c.in-Ok.desk c.in-Ok.ensures.dials c.in-Ok.ensures.later refl (omega arith)) in
    record { attends = attended_stopped c.args.task.now start _ _ c.serve-end.new.desk c.serve-end.new.helper c.in-Err-end.status r c.hang_up.ensures.hangs c.hang_up.ensures.used_up c.hang_up.ensures.count refl refl }
