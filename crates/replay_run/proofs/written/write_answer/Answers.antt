-- The sink failed in the line.
use Rattle.std.proofs.Common.{ap, refl, ◌∙◌}
use Rattle.scenario_text.specs.Answers.{message_line}
use Rattle.scenario_run.specs.Text.{loads_of}
use Rattle.replay_run.specs.declared.written.WriteRefused.TheVariants as refused
use Rattle.replay_run.proofs.Faults.{answers_refused}
use Rattle.replay_run.proofs.Texts.{on_err, front_line}
use Rattle.replay_run.proofs.Promised.{may_line}
use Rattle.replay_run.proofs.written.write_answer.Goals as goal

pub returns-in_err-write_all-clause-err : goal.returns-in_err-write_all-clause-err
returns-in_err-write_all-clause-err g c =
    on_err _ (front_line _ _ _ _
    (c.as_slice.ensures.items ∙ c.in_ok-line.ensures.line ∙ ap (λ n. message_line (loads_of c.args.journal.now.past) c.args.answer.now.to n c.args.answer.now.message) c.in_ok-serial.ensures.number)
    c.in_err-write_all.ensures.err)

pub returns-in_err-serial-clause-faults : goal.returns-in_err-serial-clause-faults
returns-in_err-serial-clause-faults g c = answers_refused g.O.Sink.held g.O.Sink.faults _ c.args.output.now _ c.from_residual.result refused.NoMemory c.from_residual.ensures.1 refl refl

pub returns-in_err-line-clause-faults : goal.returns-in_err-line-clause-faults
returns-in_err-line-clause-faults g c = answers_refused g.O.Sink.held g.O.Sink.faults _ c.args.output.now _ c.from_residual-in_err-line.result refused.NoMemory c.from_residual-in_err-line.ensures.1 refl refl

pub returns-in_err-write_all-clause-faults : goal.returns-in_err-write_all-clause-faults
returns-in_err-write_all-clause-faults g c = answers_refused g.O.Sink.held g.O.Sink.faults _ c.args.output.now _ c.from_residual-in_err-write_all.result refused.Failed c.from_residual-in_err-write_all.ensures.1 refl c.in_err-write_all.ensures.last

pub write_all-requires-clause-may : goal.write_all-requires-clause-may
write_all-requires-clause-may g c κs within =
    may_line g.O.Sink.allowed _ _ _
    (c.as_slice.ensures.items ∙ c.in_ok-line.ensures.line ∙ ap (λ n. message_line (loads_of c.args.journal.now.past) c.args.answer.now.to n c.args.answer.now.message) c.in_ok-serial.ensures.number)
    c.requires.may
