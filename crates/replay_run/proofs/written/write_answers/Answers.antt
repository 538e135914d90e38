-- One more answer, or a prefix of it.
use Rattle.std.proofs.Common.{◌∷◌, [], ◌∙◌, ◌+◌, take, drop}
use Rattle.scenario_run.specs.Text.{loads_of}
use Rattle.replay_run.specs.Counted.{counted}
use Rattle.replay_run.proofs.Faults.{answers_refused}
use Rattle.replay_run.proofs.Texts.{on_err, around, up_to, wrote_more, wrote_front}
use Rattle.replay_run.proofs.Promised.{may_next}
use Rattle.replay_run.proofs.written.write_answers.Goals as goal

pub returns-in_err-write_answer-clause-err : goal.returns-in_err-write_answer-clause-err
returns-in_err-write_answer-clause-err g c =
    on_err _ (wrote_front (loads_of c.args.journal.now.past) _ _ _ (counted c.args.counts.now) (counted c.loop-answer.counts)
    (take c.loop-answer.answer-index c.args.answers.now) (c.answer-item.result ∷ []) (drop (c.loop-answer.answer-index + 1) c.args.answers.now) c.args.answers.now
    (around c.args.answers.now c.loop-answer.answer-index c.answer-item.result c.loop-answer-test.true c.answer-item.is)
    c.loop-answer.invariant.counted c.loop-answer.invariant.written c.in_err-write_answer.ensures.err)

pub loop-answer-preserved : goal.loop-answer-preserved
loop-answer-preserved g c =
    let p = wrote_more (loads_of c.args.journal.now.past) _ _ _ (counted c.args.counts.now) (counted c.loop-answer.counts) (counted c.write_answer.new.counts)
    (take c.loop-answer.answer-index c.args.answers.now) (c.answer-item.result ∷ []) (take (c.loop-answer.answer-index + 1) c.args.answers.now)
    (up_to c.args.answers.now c.loop-answer.answer-index c.answer-item.result c.loop-answer-test.true c.answer-item.is)
    c.loop-answer.invariant.counted c.loop-answer.invariant.written c.in_ok-write_answer.ensures.counted c.in_ok-write_answer.ensures.ok in
    record { written = p.0; counted = p.1; quiet = c.in_ok-write_answer.ensures.faults ∙ c.loop-answer.invariant.quiet }

pub returns-in_err-write_answer-clause-faults : goal.returns-in_err-write_answer-clause-faults
returns-in_err-write_answer-clause-faults g c =
    answers_refused g.O.Sink.held g.O.Sink.faults _ c.loop-answer.output _ c.from_residual.result _ c.from_residual.ensures.1 c.loop-answer.invariant.quiet c.in_err-write_answer.ensures.faults

pub write_answer-requires-clause-may : goal.write_answer-requires-clause-may
write_answer-requires-clause-may g c κs within =
    may_next g.O.Sink.allowed _ _ (loads_of c.args.journal.now.past) (counted c.args.counts.now) (counted c.loop-answer.counts)
    (take c.loop-answer.answer-index c.args.answers.now) (c.answer-item.result ∷ []) (drop (c.loop-answer.answer-index + 1) c.args.answers.now) c.args.answers.now
    (around c.args.answers.now c.loop-answer.answer-index c.answer-item.result c.loop-answer-test.true c.answer-item.is)
    c.loop-answer.invariant.counted c.loop-answer.invariant.written c.requires.may
