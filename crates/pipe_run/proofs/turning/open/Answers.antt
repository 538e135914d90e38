-- The first load, and then the beginning of the connection.
use Rattle.std.proofs.Common.{refl, ◌∙◌, ap, ◌∷◌, List, Ok, Err, []}
use Rattle.authority_model.specs.declared.journal.Item.{Item}
use Rattle.authority_model.specs.Given.{load_given, next}
use Rattle.pipe_run.specs.declared.served.TheConstants.{LOADER}
use Rattle.pipe_run.specs.Stages.{standing}
use Rattle.pipe_run.specs.Supplies.{supply}
use Rattle.pipe_run.proofs.Staging.{staged_out, unwritten}
use Rattle.pipe_run.proofs.Supplying.{took_one}
use Rattle.pipe_run.proofs.Turns.{connect_handed, first_handed, turned_refused}
use Rattle.pipe_run.proofs.Written.{faults_refused}
use Rattle.pipe_run.proofs.Promised.{may_answer, may_answered, may_now, may_out}
use Rattle.pipe_run.proofs.turning.open.Goals as goal

pub returns-in_err-make_room-clause-opened : goal.returns-in_err-make_room-clause-opened
returns-in_err-make_room-clause-opened g c s faults uid first st =
    turned_refused s _ _ _ c.from_residual.result _ c.from_residual.ensures.1
    (unwritten s _ [] [] c.in_err-make_room.field-0.0 c.in_err-make_room.ensures.refused (staged_out s c.args.served.now c.make_room.new.self _ _ _ _ _ [] c.in_err-make_room.ensures.written st))

pub returns-in_err-answer-clause-opened : goal.returns-in_err-answer-clause-opened
returns-in_err-answer-clause-opened g c s faults uid first st =
    turned_refused s _ _ _ c.from_residual-in_err-answer.result _ c.from_residual-in_err-answer.ensures.1
    (first_handed s _ (standing c.answer.new.self faults (supply (g.C.Clock.left c.now-moment.new.self) (g.C.Clock.gave c.now-moment.new.self)) (supply (g.S.Salt.left c.args.salt.now) (g.S.Salt.gave c.args.salt.now)) (g.O.Sink.held c.make_room.new.output)) c.args.first c.now-moment.result (Err c.in_err-answer.field-0.0) first
    (c.in_ok-make_room.ensures.written.past ∙ c.requires.first) (took_one _ _ _ _ _ c.now-moment.ensures.next c.now-moment.ensures.gave) refl refl refl c.in_ok-make_room.ensures.ready
    (staged_out s c.args.served.now c.make_room.new.self _ _ _ _ _ [] c.in_ok-make_room.ensures.written st) c.in_err-answer.ensures.answers c.in_err-answer.ensures.legal)

pub returns-in_err-make_room-2-clause-opened : goal.returns-in_err-make_room-2-clause-opened
returns-in_err-make_room-2-clause-opened g c s faults uid first st =
    turned_refused s _ _ _ c.from_residual-in_err-make_room-2.result _ c.from_residual-in_err-make_room-2.ensures.1
    (unwritten s _ [] [] c.in_err-make_room-2.field-0.0 c.in_err-make_room-2.ensures.refused
    (staged_out s c.answer.new.self c.make_room-2.new.self _ _ _ _ _ [] c.in_err-make_room-2.ensures.written
    (first_handed s _ (standing c.answer.new.self faults (supply (g.C.Clock.left c.now-moment.new.self) (g.C.Clock.gave c.now-moment.new.self)) (supply (g.S.Salt.left c.args.salt.now) (g.S.Salt.gave c.args.salt.now)) (g.O.Sink.held c.make_room.new.output)) c.args.first c.now-moment.result (Ok tt) first
    (c.in_ok-make_room.ensures.written.past ∙ c.requires.first) (took_one _ _ _ _ _ c.now-moment.ensures.next c.now-moment.ensures.gave) refl refl refl c.in_ok-make_room.ensures.ready
    (staged_out s c.args.served.now c.make_room.new.self _ _ _ _ _ [] c.in_ok-make_room.ensures.written st) c.in_ok-answer.ensures.answers c.in_ok-answer.ensures.legal)))

pub returns-in_err-make_room-2-clause-faults : goal.returns-in_err-make_room-2-clause-faults
returns-in_err-make_room-2-clause-faults g c =
    faults_refused g.O.Sink.held g.O.Sink.faults _ _ _ c.from_residual-in_err-make_room-2.result _ c.from_residual-in_err-make_room-2.ensures.1 c.in_ok-make_room.ensures.faults c.in_err-make_room-2.ensures.faults

pub returns-clause-opened : goal.returns-clause-opened
returns-clause-opened g c s faults uid first st =
    connect_handed s _ (standing c.answer-2.new.self faults (supply (g.C.Clock.left c.now-moment-2.new.self) (g.C.Clock.gave c.now-moment-2.new.self)) (supply (g.S.Salt.left c.word-salt.new.self) (g.S.Salt.gave c.word-salt.new.self)) (g.O.Sink.held c.make_room-2.new.output)) _ c.args.uid c.now-moment-2.result c.word-salt.result _ uid
    (c.in_ok-make_room-2.ensures.written.past ∙ c.in_ok-answer.ensures.answers.0.past ∙ ap (λ (past : List Item). next past (load_given LOADER c.now-moment.result c.args.first) ∷ past) (c.in_ok-make_room.ensures.written.past ∙ c.requires.first))
    (took_one _ _ _ _ _ c.now-moment-2.ensures.next c.now-moment-2.ensures.gave) (took_one _ _ _ _ _ c.word-salt.ensures.next c.word-salt.ensures.gave) refl refl c.in_ok-make_room-2.ensures.ready
    (staged_out s c.answer.new.self c.make_room-2.new.self _ _ _ _ _ [] c.in_ok-make_room-2.ensures.written
    (first_handed s _ (standing c.answer.new.self faults (supply (g.C.Clock.left c.now-moment.new.self) (g.C.Clock.gave c.now-moment.new.self)) (supply (g.S.Salt.left c.args.salt.now) (g.S.Salt.gave c.args.salt.now)) (g.O.Sink.held c.make_room.new.output)) c.args.first c.now-moment.result (Ok tt) first
    (c.in_ok-make_room.ensures.written.past ∙ c.requires.first) (took_one _ _ _ _ _ c.now-moment.ensures.next c.now-moment.ensures.gave) refl refl refl c.in_ok-make_room.ensures.ready
    (staged_out s c.args.served.now c.make_room.new.self _ _ _ _ _ [] c.in_ok-make_room.ensures.written st) c.in_ok-answer.ensures.answers c.in_ok-answer.ensures.legal))
    c.answer-2.ensures.answers c.answer-2.ensures.legal

pub make_room-requires-clause-may : goal.make_room-requires-clause-may
make_room-requires-clause-may g c κs within = may_now _ _ _ c.requires.may

pub make_room-requires-2-clause-may : goal.make_room-requires-2-clause-may
make_room-requires-2-clause-may g c κs within =
    may_now _ _ _ (may_answer _ _ c.make_room.new.self c.answer.new.self _ c.in_ok-answer.ensures.answers c.in_ok-answer.ensures.legal (may_out _ _ _ c.args.served.now c.make_room.new.self c.in_ok-make_room.ensures.written c.requires.may))

pub returns-clause-may : goal.returns-clause-may
returns-clause-may g c =
    may_answered _ _ c.make_room-2.new.self c.answer-2.new.self _ c.answer-2.result c.answer-2.ensures.answers c.answer-2.ensures.legal
    (may_out _ _ _ c.answer.new.self c.make_room-2.new.self c.in_ok-make_room-2.ensures.written
    (may_answer _ _ c.make_room.new.self c.answer.new.self _ c.in_ok-answer.ensures.answers c.in_ok-answer.ensures.legal (may_out _ _ _ c.args.served.now c.make_room.new.self c.in_ok-make_room.ensures.written c.requires.may)))
