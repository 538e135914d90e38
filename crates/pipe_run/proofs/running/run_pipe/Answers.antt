-- The run begins with nothing handed in.
use Rattle.std.proofs.Common.{refl, []}
use Rattle.pk_outside.proofs.Written.{Gave-none}
use Rattle.pipe_run.specs.Answered.{fresh}
use Rattle.pipe_run.specs.Stages.{Start}
use Rattle.pipe_run.specs.Supplies.{supply}
use Rattle.pipe_run.proofs.Exits.{halted, no_memory}
use Rattle.pipe_run.proofs.Promised.{may_fresh}
use Rattle.pipe_run.proofs.Serving.{outputs_later}
use Rattle.pipe_run.proofs.Starting.{first_stage}
use Rattle.pipe_run.proofs.running.run_pipe.Goals as goal

pub returns-in-Err-clause-run : goal.returns-in-Err-clause-run
returns-in-Err-clause-run g c =
    let s : Start = record { opening = record { uid = c.args.uid; first = c.args.first; told = g.T.Tree.told c.args.tree.now; root = c.args.root.now }; limits = c.args.limits; faults = g.T.Tree.faults c.args.tree.now; clock = supply (g.C.Clock.left c.args.clock.now) (g.C.Clock.gave c.args.clock.now); salt = supply (g.S.Salt.left c.args.salt.now) (g.S.Salt.gave c.args.salt.now); held = g.O.Sink.held c.args.output.now } in
    no_memory s _ [] [] [] _ _ (g.I.Source.ended c.args.input.now) (first_stage s (fresh c.args.limits) refl) refl (Gave-none (g.I.Source.left c.args.input.now))

pub returns-in-Ok-open-clause-run : goal.returns-in-Ok-open-clause-run
returns-in-Ok-open-clause-run g c =
    let s : Start = record { opening = record { uid = c.args.uid; first = c.args.first; told = g.T.Tree.told c.args.tree.now; root = c.args.root.now }; limits = c.args.limits; faults = g.T.Tree.faults c.args.tree.now; clock = supply (g.C.Clock.left c.args.clock.now) (g.C.Clock.gave c.args.clock.now); salt = supply (g.S.Salt.left c.args.salt.now) (g.S.Salt.gave c.args.salt.now); held = g.O.Sink.held c.args.output.now } in
    c.serve.ensures.run s refl refl (c.in-Ok-open.ensures.opened s (g.T.Tree.faults c.args.tree.now) refl refl (first_stage s c.in-Ok.served c.in-Ok.ensures.fresh))

pub returns-in-Ok-open-clause-write : goal.returns-in-Ok-open-clause-write
returns-in-Ok-open-clause-write g c = outputs_later g.O.Sink.held g.O.Sink.faults c.args.output.now c.open.new.output c.serve.new.output c.serve.result c.in-Ok-open.ensures.faults c.serve.ensures.write

pub returns-clause-run : goal.returns-clause-run
returns-clause-run g c =
    let s : Start = record { opening = record { uid = c.args.uid; first = c.args.first; told = g.T.Tree.told c.args.tree.now; root = c.args.root.now }; limits = c.args.limits; faults = g.T.Tree.faults c.args.tree.now; clock = supply (g.C.Clock.left c.args.clock.now) (g.C.Clock.gave c.args.clock.now); salt = supply (g.S.Salt.left c.args.salt.now) (g.S.Salt.gave c.args.salt.now); held = g.O.Sink.held c.args.output.now } in
    rw c.end.ensures.end
    (halted s _ [] [] c.in-Err-open.stopped [] [] [] _ _ (g.I.Source.ended c.args.input.now) (c.in-Err-open.ensures.opened s (g.T.Tree.faults c.args.tree.now) refl refl (first_stage s c.in-Ok.served c.in-Ok.ensures.fresh)) refl refl
    (Gave-none (g.I.Source.left c.args.input.now)))

pub open-requires-clause-may : goal.open-requires-clause-may
open-requires-clause-may g c κs within = may_fresh _ _ c.in-Ok.served c.args.limits c.in-Ok.ensures.fresh c.requires.may

pub serve-requires-clause-may : goal.serve-requires-clause-may
serve-requires-clause-may g c κs within = c.in-Ok-open.ensures.may
