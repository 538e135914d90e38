-- What the byte brings about.
use Rattle.std.proofs.Common.{sym, ◌∙◌, ap, ◌-◌, ◌++◌, ◌∷◌}
use Rattle.link_handshake.specs.Answers.{line_answer}
use Rattle.link_handshake.specs.Shakes.{answers, then_answers}
use Rattle.link_handshake.specs.Machines.{said, to_come_in}
use Rattle.link_handshake.proofs.Steps.{answers-too_many, answers-too_long, answers-open, answers-line}
use Rattle.link_handshake.proofs.server.line_byte.Goals as goal

pub returns-then-left-eq0-clause-step : goal.returns-then-left-eq0-clause-step
returns-then-left-eq0-clause-step c = λ more. answers-too_many _ _ _ _ more _ c.if-left-eq0.true

pub returns-then-is_full-clause-step : goal.returns-then-is_full-clause-step
returns-then-is_full-clause-step c = λ more. answers-too_long _ _ _ _ more _ c.if-left-eq0.false c.is_full.ensures.line c.if-is_full.ensures.full

pub returns-then-byte-ne10-clause-now : goal.returns-then-byte-ne10-clause-now
returns-then-byte-ne10-clause-now c = answers-open _ _ _ _ c.if-left-eq0.false c.push.ensures.line

pub returns-clause-step : goal.returns-clause-step
returns-clause-step c = λ more.
    let door = c.args.door in
    let line = c.args.line.now in
    ap (λ b. answers door c.args.left c.args.phase (line ++ b ∷ more)) c.if-byte-ne10.false
    ∙ answers-line door c.args.left c.args.phase line more c.if-left-eq0.false c.bytes.ensures.line c.if-is_full.ensures.full
    ∙ ap (then_answers (answers door (c.args.left - 1)) more) (sym (c.answer-answered.ensures.answer ∙ ap (line_answer door c.args.phase) c.bytes.ensures.bytes))
    ∙ c.behind_line.ensures.rest door more
    ∙ ap (λ line. said c.behind_line.result.step (to_come_in door c.behind_line.result.state line more)) (sym c.clear.ensures.empty)
