-- The words name one command, which is the one that runs.
use Rattle.std.proofs.Common.{Some, ap, ◌∙◌, subst}
use Rattle.std.specs.Option.{option_copied, option_map}
use Rattle.polkit_daemon.specs.Commands.{Beginning, command_seen, limits_of}
use Rattle.polkit_daemon.specs.Generate.{Generates}
use Rattle.authority_model.specs.declared.journal.Limits.{Limits}
use Rattle.pipe_run.specs.Ends.{traffic}
use Rattle.pipe_run.specs.Supplies.{supply}
use Rattle.polkit_daemon.specs.Piped.{PipesFrom, PipesMade, Plan}
use Rattle.polkit_daemon.specs.Replayed.{AuditsFrom, ReplaysFrom, ReplaysInSegments}
use Rattle.polkit_daemon.proofs.Faults.{generates_reads}
use Rattle.polkit_daemon.proofs.Loading.{Segments, same_audit, same_checks, same_plan, same_replay, same_segments, same_words}
use Rattle.polkit_daemon.proofs.Promised.{may_as}
use Rattle.polkit_daemon.proofs.Services.{service_reads}
use Rattle.serve_words.specs.Plans.{plan_in}
use Rattle.polkit_daemon.proofs.top.polkitd.Goals as goal

pub returns-in-Some-Replay-clause-replay : goal.returns-in-Some-Replay-clause-replay
returns-in-Some-Replay-clause-replay g c = λ root entries is.
    let read_is = ap (option_map command_seen) (c.in-Some-Replay.is ∙ ap Some c.in-Some-Replay.field-0-is) in
    subst (λ (b : Beginning). ReplaysFrom (g.T.Tree.told c.args.tree.now) b.root (limits_of b.entries) (g.T.Tree.faults c.args.tree.now) (g.T.Tree.faults c.replay.new.tree) (g.I.Source.left c.args.input.now) (g.I.Source.left c.replay.new.input) (g.I.Source.ended c.replay.new.input) (g.O.Sink.held c.args.output.now) (g.O.Sink.held c.replay.new.output) c.replay.result)
    (same_replay _ _ _ _ _ read_is (c.read.ensures.command ∙ is))
    (subst (λ (l : Limits). ReplaysFrom (g.T.Tree.told c.args.tree.now) (option_copied c.in-Some-Replay.root) l (g.T.Tree.faults c.args.tree.now) (g.T.Tree.faults c.replay.new.tree) (g.I.Source.left c.args.input.now) (g.I.Source.left c.replay.new.input) (g.I.Source.ended c.replay.new.input) (g.O.Sink.held c.args.output.now) (g.O.Sink.held c.replay.new.output) c.replay.result)
    c.limits_of.ensures.limits
    c.replay.ensures.run)

pub returns-in-Some-Segments-clause-segments : goal.returns-in-Some-Segments-clause-segments
returns-in-Some-Segments-clause-segments g c = λ root path per is.
    let read_is = ap (option_map command_seen) (c.in-Some-Segments.is ∙ ap Some c.in-Some-Segments.field-0-is) in (
      subst (λ (s : Segments). ReplaysInSegments (g.T.Tree.told c.args.tree.now) s.root (g.T.Tree.faults c.args.tree.now) (g.T.Tree.faults c.replay_segments.new.tree) s.path s.per (g.I.Source.left c.args.input.now) (g.I.Source.left c.replay_segments.new.input) (g.I.Source.ended c.replay_segments.new.input) (g.O.Sink.held c.args.output.now) (g.O.Sink.held c.replay_segments.new.output) (g.N.Station.told c.args.station.now) (g.N.Station.told c.replay_segments.new.station) c.replay_segments.result)
          (same_segments _ _ _ _ _ _ _ read_is (c.read.ensures.command ∙ is)) c.replay_segments.ensures.run,
      c.replay_segments.ensures.fault,
    )

pub returns-in-Some-Audit-clause-audit : goal.returns-in-Some-Audit-clause-audit
returns-in-Some-Audit-clause-audit g c = λ root entries is.
    let read_is = ap (option_map command_seen) (c.in-Some-Audit.is ∙ ap Some c.in-Some-Audit.field-0-is) in
    subst (λ (b : Beginning). AuditsFrom (g.T.Tree.told c.args.tree.now) b.root (limits_of b.entries) (g.T.Tree.faults c.args.tree.now) (g.T.Tree.faults c.audit.new.tree) (g.I.Source.left c.args.input.now) (g.I.Source.left c.audit.new.input) (g.I.Source.ended c.audit.new.input) (g.O.Sink.held c.args.output.now) (g.O.Sink.held c.audit.new.output) c.audit.result)
    (same_audit _ _ _ _ _ read_is (c.read.ensures.command ∙ is))
    (subst (λ (l : Limits). AuditsFrom (g.T.Tree.told c.args.tree.now) (option_copied c.in-Some-Audit.root) l (g.T.Tree.faults c.args.tree.now) (g.T.Tree.faults c.audit.new.tree) (g.I.Source.left c.args.input.now) (g.I.Source.left c.audit.new.input) (g.I.Source.ended c.audit.new.input) (g.O.Sink.held c.args.output.now) (g.O.Sink.held c.audit.new.output) c.audit.result)
    c.limits_of-in-Some-Audit.ensures.limits
    c.audit.ensures.run)

pub returns-in-Some-Load-clause-load : goal.returns-in-Some-Load-clause-load
returns-in-Some-Load-clause-load g c = λ checks is.
    subst (λ n. Generates n (g.O.Sink.held c.args.output.now) (g.O.Sink.held c.load_run.new.output) c.load_run.result)
    (same_checks _ c.in-Some-Load.checks checks (ap (option_map command_seen) (c.in-Some-Load.is ∙ ap Some c.in-Some-Load.field-0-is)) (c.read.ensures.command ∙ is))
    c.load_run.ensures.run

pub returns-in-Some-Load-clause-read : goal.returns-in-Some-Load-clause-read
returns-in-Some-Load-clause-read g c = generates_reads g.I.Source.left g.I.Source.faults _ _ _ _ c.load_run.result c.load_run.ensures.run

pub returns-in-Some-Pipe-clause-pipe : goal.returns-in-Some-Pipe-clause-pipe
returns-in-Some-Pipe-clause-pipe g c = λ uid root entries is.
    let read_is = ap (option_map command_seen) (c.in-Some-Pipe.is ∙ ap Some c.in-Some-Pipe.field-0-is) in
    let named = c.read.ensures.command ∙ is in
    subst (λ (p : Plan). PipesMade p (g.T.Tree.faults c.args.tree.now) (g.T.Tree.faults c.pipe.new.tree) (g.N.Station.told c.args.station.now) (g.N.Station.told c.salt-salt.new.self) (g.I.Source.left c.args.input.now) (g.I.Source.left c.pipe.new.input) (g.I.Source.ended c.pipe.new.input) (g.O.Sink.held c.args.output.now) (g.O.Sink.held c.pipe.new.output) c.pipe.result)
    (same_plan (g.T.Tree.told c.args.tree.now) _ c.in-Some-Pipe.uid uid _ root c.in-Some-Pipe.entries entries read_is named)
    (record {
      clock_before = _;
      clock = supply (g.N.Clock.Clock.left c.pipe.new.clock) (g.N.Clock.Clock.gave c.pipe.new.clock);
      salt_before = _;
      salt = supply (g.N.Salt.Salt.left c.pipe.new.salt) (g.N.Salt.Salt.gave c.pipe.new.salt);
      with_clock = _;
      makes_clock = c.clock-clock.ensures.clock;
      makes_salt = c.salt-salt.ensures.salt;
      run = subst (λ (l : Limits). PipesFrom (record { uid = c.in-Some-Pipe.uid; root = c.in-Some-Pipe.root.now; told = g.T.Tree.told c.args.tree.now; limits = l }) (g.T.Tree.faults c.args.tree.now) (g.T.Tree.faults c.pipe.new.tree) (traffic (g.I.Source.left c.args.input.now) (g.I.Source.left c.pipe.new.input) (g.I.Source.ended c.pipe.new.input) (g.O.Sink.held c.args.output.now) (g.O.Sink.held c.pipe.new.output) (supply (g.N.Clock.Clock.left c.clock-clock.result) (g.N.Clock.Clock.gave c.clock-clock.result)) (supply (g.N.Clock.Clock.left c.pipe.new.clock) (g.N.Clock.Clock.gave c.pipe.new.clock)) (supply (g.N.Salt.Salt.left c.salt-salt.result) (g.N.Salt.Salt.gave c.salt-salt.result)) (supply (g.N.Salt.Salt.left c.pipe.new.salt) (g.N.Salt.Salt.gave c.pipe.new.salt))) c.pipe.result) c.limits_of-limits.ensures.limits c.pipe.ensures.run;
    })

pub returns-in-Some-Serve-clause-serve : goal.returns-in-Some-Serve-clause-serve
returns-in-Some-Serve-clause-serve g c = λ named plan is planned.
    let read_is = ap (option_map command_seen) (c.in-Some-Serve.is ∙ ap Some c.in-Some-Serve.field-0-is) in
    c.serve_named.ensures.run plan (ap plan_in (same_words _ c.in-Some-Serve.named.now named read_is (c.read.ensures.command ∙ is)) ∙ planned)

pub returns-in-Some-Serve-clause-read : goal.returns-in-Some-Serve-clause-read
returns-in-Some-Serve-clause-read g c = service_reads g.I.Source.left g.I.Source.faults c.args.input.now c.serve_named.result c.serve_named.ensures.status

pub replay-requires-clause-may : goal.replay-requires-clause-may
replay-requires-clause-may g c κs within = may_as g.O.Sink.allowed _ _ _ _ _ c.read.ensures.command (c.in-Some-Replay.is ∙ ap Some c.in-Some-Replay.field-0-is) c.requires.may

pub replay_segments-requires-clause-may : goal.replay_segments-requires-clause-may
replay_segments-requires-clause-may g c κs within = may_as g.O.Sink.allowed _ _ _ _ _ c.read.ensures.command (c.in-Some-Segments.is ∙ ap Some c.in-Some-Segments.field-0-is) c.requires.may

pub audit-requires-clause-may : goal.audit-requires-clause-may
audit-requires-clause-may g c κs within = may_as g.O.Sink.allowed _ _ _ _ _ c.read.ensures.command (c.in-Some-Audit.is ∙ ap Some c.in-Some-Audit.field-0-is) c.requires.may

pub pipe-requires-clause-may : goal.pipe-requires-clause-may
pipe-requires-clause-may g c κs within = may_as g.O.Sink.allowed _ _ _ _ _ c.read.ensures.command (c.in-Some-Pipe.is ∙ ap Some c.in-Some-Pipe.field-0-is) c.requires.may

pub serve_named-requires-clause-may : goal.serve_named-requires-clause-may
serve_named-requires-clause-may g c κs within = may_as g.O.Sink.allowed _ _ _ _ _ c.read.ensures.command (c.in-Some-Serve.is ∙ ap Some c.in-Some-Serve.field-0-is) c.requires.may

pub load_run-requires-clause-may : goal.load_run-requires-clause-may
load_run-requires-clause-may g c κs within = may_as g.O.Sink.allowed _ _ _ _ _ c.read.ensures.command (c.in-Some-Load.is ∙ ap Some c.in-Some-Load.field-0-is) c.requires.may
