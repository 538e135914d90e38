-- What is answered, by the rule.
use Rattle.std.proofs.Common.{◌≡◌, ◌∙◌, ◌+◌, ◌≤◌, Result, OnOk, refl, sym, ap, arith}
use Rattle.agent_rules.specs.declared.line.Handling.TheVariants as handling
use Rattle.script_agent.specs.Challenges.{reply_by}
use Rattle.client_messages.specs.declared.agent.AgentReply.{AgentReply}
use Rattle.script_agent.specs.declared.status.AgentStatus.{AgentStatus}
use Rattle.script_agent.specs.Steps.{AnsweredBy, sent_to}
use Rattle.script_agent.proofs.Fronts.{err_along}
use Rattle.script_agent.proofs.Steering.{answered_ask, answered_plain, dials_same, unanswered_ask}
use Rattle.script_agent.proofs.meeting.answer.Goals as goal

pub ask-requires-clause-room : goal.ask-requires-clause-room
ask-requires-clause-room g c κs within = c.requires.room

pub ask-requires-clause-free_link : goal.ask-requires-clause-free_link
ask-requires-clause-free_link g c κs within = c.requires.free_link

pub returns-in_err-refused-in-Authenticate-clause-answers : goal.returns-in_err-refused-in-Authenticate-clause-answers
returns-in_err-refused-in-Authenticate-clause-answers g c asks line at =
    err_along (AnsweredBy c.args.task.now asks c.args.begin.now (g.N.Station.faults c.args.station.now) (g.N.Station.faults c.ask.new.station) c.ask.new.helper) c.from_residual.result c.in_err-refused-in-Authenticate.field-0.0 c.from_residual.ensures.1
    (unanswered_ask c.args.task.now asks c.args.begin.now c.in-Authenticate.uid _ _ c.ask.new.helper c.in_err-refused-in-Authenticate.field-0.0 (sym c.decide.ensures.first ∙ c.in-Authenticate.is) (c.in_err-refused-in-Authenticate.ensures.asks asks line at))

pub returns-in_err-refused-in-Authenticate-clause-dials : goal.returns-in_err-refused-in-Authenticate-clause-dials
returns-in_err-refused-in-Authenticate-clause-dials g c = c.in_err-refused-in-Authenticate.ensures.dials

pub returns-in_err-refused-in-Authenticate-clause-later : goal.returns-in_err-refused-in-Authenticate-clause-later
returns-in_err-refused-in-Authenticate-clause-later g c = c.in_err-refused-in-Authenticate.ensures.later

pub returns-then-refused-clause-answers : goal.returns-then-refused-clause-answers
returns-then-refused-clause-answers g c asks line at =
    answered_ask c.args.task.now asks c.args.begin.now c.in-Authenticate.uid c.ask.new.helper c.in_ok-refused-in-Authenticate.refused _ (sym c.decide.ensures.first ∙ c.in-Authenticate.is) (sym (ap (reply_by (handling.Authenticate c.in-Authenticate.uid)) c.if-refused.true)) (c.in_ok-refused-in-Authenticate.ensures.asks asks line at)

pub returns-then-refused-clause-dials : goal.returns-then-refused-clause-dials
returns-then-refused-clause-dials g c = c.in_ok-refused-in-Authenticate.ensures.dials

pub returns-then-refused-clause-later : goal.returns-then-refused-clause-later
returns-then-refused-clause-later g c = c.in_ok-refused-in-Authenticate.ensures.later

pub returns-else-refused-clause-answers : goal.returns-else-refused-clause-answers
returns-else-refused-clause-answers g c asks line at =
    answered_ask c.args.task.now asks c.args.begin.now c.in-Authenticate.uid c.ask.new.helper c.in_ok-refused-in-Authenticate.refused _ (sym c.decide.ensures.first ∙ c.in-Authenticate.is) (sym (ap (reply_by (handling.Authenticate c.in-Authenticate.uid)) c.if-refused.false)) (c.in_ok-refused-in-Authenticate.ensures.asks asks line at)

pub returns-else-refused-clause-dials : goal.returns-else-refused-clause-dials
returns-else-refused-clause-dials g c = c.in_ok-refused-in-Authenticate.ensures.dials

pub returns-else-refused-clause-later : goal.returns-else-refused-clause-later
returns-else-refused-clause-later g c = c.in_ok-refused-in-Authenticate.ensures.later

pub returns-in-Dismiss-clause-answers : goal.returns-in-Dismiss-clause-answers
returns-in-Dismiss-clause-answers g c asks line at = answered_plain c.args.task.now asks c.args.begin.now _ line handling.Dismiss _ (sym c.decide.ensures.first ∙ c.in-Dismiss.is) refl refl at

pub returns-in-Dismiss-clause-dials : goal.returns-in-Dismiss-clause-dials
returns-in-Dismiss-clause-dials g c = dials_same _ _ _

pub returns-in-Dismiss-clause-later : goal.returns-in-Dismiss-clause-later
returns-in-Dismiss-clause-later g c = omega arith

pub returns-in-Fail-clause-answers : goal.returns-in-Fail-clause-answers
returns-in-Fail-clause-answers g c asks line at = answered_plain c.args.task.now asks c.args.begin.now _ line handling.Fail _ (sym c.decide.ensures.first ∙ c.in-Fail.is) refl refl at

pub returns-in-Fail-clause-dials : goal.returns-in-Fail-clause-dials
returns-in-Fail-clause-dials g c = dials_same _ _ _

pub returns-in-Fail-clause-later : goal.returns-in-Fail-clause-later
returns-in-Fail-clause-later g c = omega arith

pub returns-in_err-refused-in-Authenticate-clause-sent : goal.returns-in_err-refused-in-Authenticate-clause-sent
returns-in_err-refused-in-Authenticate-clause-sent g c =
    err_along (λ (r : Result AgentReply AgentStatus). OnOk r (sent_to c.ask.new.helper ≤ sent_to c.args.helper.now + 1)) c.from_residual.result c.in_err-refused-in-Authenticate.field-0.0 c.from_residual.ensures.1 tt

pub returns-then-refused-clause-sent : goal.returns-then-refused-clause-sent
returns-then-refused-clause-sent g c = c.in_ok-refused-in-Authenticate.ensures.sent

pub returns-else-refused-clause-sent : goal.returns-else-refused-clause-sent
returns-else-refused-clause-sent g c = c.in_ok-refused-in-Authenticate.ensures.sent

pub returns-in-Dismiss-clause-sent : goal.returns-in-Dismiss-clause-sent
returns-in-Dismiss-clause-sent g c = omega arith

pub returns-in-Fail-clause-sent : goal.returns-in-Fail-clause-sent
returns-in-Fail-clause-sent g c = omega arith
