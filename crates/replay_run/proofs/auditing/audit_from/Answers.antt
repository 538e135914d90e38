-- The text of the whole run's history is written, or the run stopped before and nothing was.
use Rattle.std.proofs.Common.{Bool, [], ap, refl, subst, sym, ◌∙◌}
use Rattle.authority_model.specs.Items.{items_of}
use Rattle.authority_model.specs.Legal.{IsLegal}
use Rattle.scenario_run.specs.Room.{IsInSegments, whole}
use Rattle.scenario_run.specs.Scene.{Scene, start}
use Rattle.replay_run.specs.declared.ends.ReplayEnd.TheVariants as end
use Rattle.replay_run.specs.Replay.{IsRun, Plays}
use Rattle.replay_run.specs.Telling.{tells}
use Rattle.replay_run.proofs.AuditTexts.{audited_so, unbegun}
use Rattle.replay_run.proofs.Faults.{outputs_later}
use Rattle.replay_run.proofs.Promised.{may_audit, may_nothing}
use Rattle.replay_run.proofs.auditing.audit_from.Goals as goal

pub returns-in-Err-clause-run : goal.returns-in-Err-clause-run
returns-in-Err-clause-run g c = unbegun _ _ _ _

pub returns-in-Some-clause-run : goal.returns-in-Some-clause-run
returns-in-Some-clause-run g c =
    audited_so (start (whole c.args.limits) c.args.first) _ _ _ _ (g.O.Sink.held c.run.new.output) _ c.in-Some.history.now c.run.new.self.scenario.past c.write_text.result
    (subst (λ (b : Bool). Plays b [] (start (whole c.args.limits) c.args.first) (g.I.Source.left c.args.input.now) (g.I.Source.left c.run.new.input) (g.I.Source.ended c.run.new.input) (g.O.Sink.held c.args.output.now) (g.O.Sink.held c.run.new.output) end.Done) (ap tells c.in-Ok.ensures.telling)
    (subst (λ (begin : Scene). Plays (tells c.in-Ok.playback.telling) [] begin (g.I.Source.left c.args.input.now) (g.I.Source.left c.run.new.input) (g.I.Source.ended c.run.new.input) (g.O.Sink.held c.args.output.now) (g.O.Sink.held c.run.new.output) end.Done) c.in-Ok.ensures.scenario c.in-Done.ensures.run))
    (subst (λ (begin : Scene). IsRun begin (g.I.Source.left c.args.input.now) (g.I.Source.left c.run.new.input) (g.I.Source.ended c.run.new.input) c.run.new.self.scenario.past) c.in-Ok.ensures.scenario (c.in-Done.ensures.whole refl))
    (c.in-Some.ensures.items ∙ c.journal.ensures.past) c.in-Some.ensures.legal c.write_text.ensures.written

pub returns-in-Some-clause-write : goal.returns-in-Some-clause-write
returns-in-Some-clause-write g c =
    outputs_later g.O.Sink.held g.O.Sink.faults c.args.output.now c.run.new.output c.write_text.new.output c.write_text.result c.in-Done.ensures.write c.write_text.ensures.write

pub run-requires-clause-may : goal.run-requires-clause-may
run-requires-clause-may g c κs within = may_nothing g.O.Sink.allowed (g.O.Sink.held c.args.output.now) c.in-Ok.playback.telling c.in-Ok.playback.scenario.past c.in-Ok.ensures.telling

pub write_text-requires-clause-may : goal.write_text-requires-clause-may
write_text-requires-clause-may g c κs within =
    may_audit g.O.Sink.allowed _ _ _ _ _ _ _ c.in-Some.history.now (ap tells c.in-Ok.ensures.telling) c.in-Done.ensures.run c.in-Some.ensures.legal c.requires.may

pub unreachable-requires : goal.unreachable-requires
unreachable-requires g c = subst IsInSegments (c.journal.ensures.kept ∙ c.in-Done.ensures.kept ∙ ap (λ (s : Scene). s.keeping) c.in-Ok.ensures.scenario) c.in-None.ensures.none
