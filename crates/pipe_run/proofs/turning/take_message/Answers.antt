-- What the message asks is handed in, and then the load that it asks for.
use Rattle.std.proofs.Common.{refl, ap, ◌∙◌, ◌++◌, ◌∷◌, [], Ok, Err}
use Rattle.pipe_run.specs.Handed.{awaits_message}
use Rattle.pipe_run.specs.Stages.{standing}
use Rattle.pipe_run.specs.Supplies.{supply}
use Rattle.pipe_run.proofs.Staging.{staged_out, unwritten}
use Rattle.pipe_run.proofs.Supplying.{took_one}
use Rattle.pipe_run.proofs.Turns.{halted_with, message_handed, stage_with, turned_refused}
use Rattle.pipe_run.proofs.Written.{faults_refused}
use Rattle.pipe_run.proofs.Promised.{may_answer, may_now, may_out}
use Rattle.pipe_run.proofs.turning.take_message.Goals as goal

pub returns-in_err-make_room-clause-turned : goal.returns-in_err-make_room-clause-turned
returns-in_err-make_room-clause-turned g c message is s messages told root st =
    turned_refused s _ _ _ c.from_residual.result _ c.from_residual.ensures.1
    (unwritten s _ messages _ c.in_err-make_room.field-0.0 c.in_err-make_room.ensures.refused (staged_out s c.args.served.now c.make_room.new.self _ _ _ _ _ messages c.in_err-make_room.ensures.written st))

pub returns-in_err-answer-clause-turned : goal.returns-in_err-answer-clause-turned
returns-in_err-answer-clause-turned g c message is s messages told root st =
    turned_refused s _ _ _ c.from_residual-in_err-answer.result _ c.from_residual-in_err-answer.ensures.1
    (message_handed s _ (standing c.answer.new.self (g.T.Tree.faults c.args.tree.now) (supply (g.C.Clock.left c.now-moment.new.self) (g.C.Clock.gave c.now-moment.new.self)) (supply (g.S.Salt.left c.word-salt.new.self) (g.S.Salt.gave c.word-salt.new.self)) (g.O.Sink.held c.make_room.new.output)) messages message c.now-moment.result c.word-salt.result c.args.event (Err c.in_err-answer.field-0.0) is
    (ap awaits_message c.in_ok-make_room.ensures.written.past ∙ c.requires.waits) (took_one _ _ _ _ _ c.now-moment.ensures.next c.now-moment.ensures.gave) (took_one _ _ _ _ _ c.word-salt.ensures.next c.word-salt.ensures.gave) refl refl c.in_ok-make_room.ensures.ready
    (staged_out s c.args.served.now c.make_room.new.self _ _ _ _ _ messages c.in_ok-make_room.ensures.written st) c.in_err-answer.ensures.answers c.in_err-answer.ensures.legal)

pub returns-in_err-load_again-clause-turned : goal.returns-in_err-load_again-clause-turned
returns-in_err-load_again-clause-turned g c message is s messages told root st =
    turned_refused s _ _ _ c.from_residual-in_err-load_again.result _ c.from_residual-in_err-load_again.ensures.1
    (halted_with s _ _ _ _
    (c.in_err-load_again.ensures.turned _ s (messages ++ message ∷ []) told root
    (message_handed s _ (standing c.answer.new.self (g.T.Tree.faults c.args.tree.now) (supply (g.C.Clock.left c.now-moment.new.self) (g.C.Clock.gave c.now-moment.new.self)) (supply (g.S.Salt.left c.word-salt.new.self) (g.S.Salt.gave c.word-salt.new.self)) (g.O.Sink.held c.make_room.new.output)) messages message c.now-moment.result c.word-salt.result c.args.event (Ok tt) is
    (ap awaits_message c.in_ok-make_room.ensures.written.past ∙ c.requires.waits) (took_one _ _ _ _ _ c.now-moment.ensures.next c.now-moment.ensures.gave) (took_one _ _ _ _ _ c.word-salt.ensures.next c.word-salt.ensures.gave) refl refl c.in_ok-make_room.ensures.ready
    (staged_out s c.args.served.now c.make_room.new.self _ _ _ _ _ messages c.in_ok-make_room.ensures.written st) c.in_ok-answer.ensures.answers c.in_ok-answer.ensures.legal)))

pub returns-in_err-load_again-clause-faults : goal.returns-in_err-load_again-clause-faults
returns-in_err-load_again-clause-faults g c =
    faults_refused g.O.Sink.held g.O.Sink.faults _ _ _ c.from_residual-in_err-load_again.result _ c.from_residual-in_err-load_again.ensures.1 c.in_ok-make_room.ensures.faults c.in_err-load_again.ensures.faults

pub returns-in_ok-load_again-clause-turned : goal.returns-in_ok-load_again-clause-turned
returns-in_ok-load_again-clause-turned g c message is s messages told root st =
    stage_with s _ _
    (c.in_ok-load_again.ensures.turned _ s (messages ++ message ∷ []) told root
    (message_handed s _ (standing c.answer.new.self (g.T.Tree.faults c.args.tree.now) (supply (g.C.Clock.left c.now-moment.new.self) (g.C.Clock.gave c.now-moment.new.self)) (supply (g.S.Salt.left c.word-salt.new.self) (g.S.Salt.gave c.word-salt.new.self)) (g.O.Sink.held c.make_room.new.output)) messages message c.now-moment.result c.word-salt.result c.args.event (Ok tt) is
    (ap awaits_message c.in_ok-make_room.ensures.written.past ∙ c.requires.waits) (took_one _ _ _ _ _ c.now-moment.ensures.next c.now-moment.ensures.gave) (took_one _ _ _ _ _ c.word-salt.ensures.next c.word-salt.ensures.gave) refl refl c.in_ok-make_room.ensures.ready
    (staged_out s c.args.served.now c.make_room.new.self _ _ _ _ _ messages c.in_ok-make_room.ensures.written st) c.in_ok-answer.ensures.answers c.in_ok-answer.ensures.legal))

pub returns-else-wants_load-clause-turned : goal.returns-else-wants_load-clause-turned
returns-else-wants_load-clause-turned g c message is s messages told root st =
    message_handed s _ (standing c.answer.new.self (g.T.Tree.faults c.args.tree.now) (supply (g.C.Clock.left c.now-moment.new.self) (g.C.Clock.gave c.now-moment.new.self)) (supply (g.S.Salt.left c.word-salt.new.self) (g.S.Salt.gave c.word-salt.new.self)) (g.O.Sink.held c.make_room.new.output)) messages message c.now-moment.result c.word-salt.result c.args.event (Ok tt) is
    (ap awaits_message c.in_ok-make_room.ensures.written.past ∙ c.requires.waits) (took_one _ _ _ _ _ c.now-moment.ensures.next c.now-moment.ensures.gave) (took_one _ _ _ _ _ c.word-salt.ensures.next c.word-salt.ensures.gave) refl refl c.in_ok-make_room.ensures.ready
    (staged_out s c.args.served.now c.make_room.new.self _ _ _ _ _ messages c.in_ok-make_room.ensures.written st) c.in_ok-answer.ensures.answers c.in_ok-answer.ensures.legal

pub make_room-requires-clause-may : goal.make_room-requires-clause-may
make_room-requires-clause-may g c κs within = may_now _ _ _ c.requires.may

pub load_again-requires-clause-may : goal.load_again-requires-clause-may
load_again-requires-clause-may g c κs within =
    may_answer _ _ c.make_room.new.self c.answer.new.self _ c.in_ok-answer.ensures.answers c.in_ok-answer.ensures.legal (may_out _ _ _ c.args.served.now c.make_room.new.self c.in_ok-make_room.ensures.written c.requires.may)

pub returns-else-wants_load-clause-may : goal.returns-else-wants_load-clause-may
returns-else-wants_load-clause-may g c =
    may_answer _ _ c.make_room.new.self c.answer.new.self _ c.in_ok-answer.ensures.answers c.in_ok-answer.ensures.legal (may_out _ _ _ c.args.served.now c.make_room.new.self c.in_ok-make_room.ensures.written c.requires.may)
