-- What was skipped is written first, and then the run goes on.
use Rattle.std.proofs.Common.{[], Bool, ap, subst}
use Rattle.scenario_run.specs.Room.{whole}
use Rattle.scenario_run.specs.Scene.{Scene, start}
use Rattle.replay_run.specs.Replay.{Plays}
use Rattle.replay_run.specs.Telling.{tells}
use Rattle.replay_run.proofs.Faults.{outputs_later, write_ends, write_reads}
use Rattle.replay_run.proofs.Leading.{begin_refused, lead_refused, run_after}
use Rattle.replay_run.proofs.Told.{none_counted}
use Rattle.replay_run.proofs.Promised.{may_begin, may_skipped}
use Rattle.replay_run.proofs.replaying.replay_from.Goals as goal

pub returns-in-Err-clause-run : goal.returns-in-Err-clause-run
returns-in-Err-clause-run g c = rw c.end.ensures.end (lead_refused _ _ _ _ _ _ c.in-Err.refused c.in-Err.ensures.err)

pub returns-in-Err-clause-read : goal.returns-in-Err-clause-read
returns-in-Err-clause-read g c = rw c.end.ensures.end (write_reads g.I.Source.left g.I.Source.faults c.args.input.now c.in-Err.refused)

pub returns-in-Err-clause-write : goal.returns-in-Err-clause-write
returns-in-Err-clause-write g c = rw c.end.ensures.end (write_ends g.O.Sink.held g.O.Sink.faults _ _ c.in-Err.refused c.in-Err.ensures.faults)

pub returns-in-Ok-start-clause-run : goal.returns-in-Ok-start-clause-run
returns-in-Ok-start-clause-run g c =
    run_after _ _ _ _ _ _ _ _ _ c.in-Ok.ensures.ok
    (subst (λ (b : Bool). Plays b [] (start (whole c.args.limits) c.args.first) (g.I.Source.left c.args.input.now) (g.I.Source.left c.run.new.input) (g.I.Source.ended c.run.new.input) (g.O.Sink.held c.write_skipped.new.output) (g.O.Sink.held c.run.new.output) c.run.result) (ap tells c.in-Ok-start.ensures.telling)
    (subst (λ (begin : Scene). Plays (tells c.in-Ok-start.playback.telling) [] begin (g.I.Source.left c.args.input.now) (g.I.Source.left c.run.new.input) (g.I.Source.ended c.run.new.input) (g.O.Sink.held c.write_skipped.new.output) (g.O.Sink.held c.run.new.output) c.run.result)
    c.in-Ok-start.ensures.scenario c.run.ensures.run))

pub returns-in-Ok-start-clause-write : goal.returns-in-Ok-start-clause-write
returns-in-Ok-start-clause-write g c =
    outputs_later g.O.Sink.held g.O.Sink.faults c.args.output.now c.write_skipped.new.output c.run.new.output c.run.result c.in-Ok.ensures.faults c.run.ensures.write

pub returns-in-Err-start-clause-run : goal.returns-in-Err-start-clause-run
returns-in-Err-start-clause-run g c = begin_refused _ _ _ _ _ _ c.in-Ok.ensures.ok

pub run-requires-clause-counted : goal.run-requires-clause-counted
run-requires-clause-counted g c κs within = none_counted c.in-Ok-start.playback.telling c.start.result c.in-Ok-start.ensures.telling c.start.ensures.none

pub write_skipped-requires-clause-may : goal.write_skipped-requires-clause-may
write_skipped-requires-clause-may g c κs within = may_skipped g.O.Sink.allowed _ c.args.first c.requires.may

pub run-requires-clause-may : goal.run-requires-clause-may
run-requires-clause-may g c κs within =
    may_begin g.O.Sink.allowed _ _ c.args.first _ _ c.in-Ok.ensures.ok (ap (λ (s : Scene). s.past) c.in-Ok-start.ensures.scenario) c.requires.may
