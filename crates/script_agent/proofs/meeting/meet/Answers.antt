-- The next challenge is awaited, answered and printed.
use Rattle.std.proofs.Common.{◌≡◌, ◌∙◌, ◌≤◌, ◌+◌, ℕ, refl, sym, ap, Option, Result, OnOk, arith}
use Rattle.script_agent.specs.declared.status.AgentStatus.{AgentStatus}
use Rattle.script_agent.specs.declared.status.AgentStatus.TheVariants as status
use Rattle.script_agent.specs.Challenges.{asks_of}
use Rattle.script_agent.specs.Lines.{LineNow}
use Rattle.script_agent.specs.Steps.{MetBy, sent_to}
use Rattle.script_agent.specs.Stops.{status_of}
use Rattle.script_agent.proofs.Fronts.{err_along}
use Rattle.script_agent.proofs.MetAll.{met_answered, met_part, met_printed, met_sent, met_stopped, met_unanswered, met_unprinted}
use Rattle.script_agent.proofs.meeting.meet.Goals as goal

pub returns-in_err-begin : goal.returns-in_err-begin
returns-in_err-begin g c = record {
  meets = λ start st. err_along (MetBy c.args.task.now start _ c.args.desk.now c.await_begin.new.self c.args.helper.now) c.from_residual.result (status_of c.in_err-begin.field-0.0) c.from_residual.ensures.1
      (met_stopped c.args.task.now start _ c.args.desk.now c.await_begin.new.self c.args.helper.now c.in_err-begin.field-0.0 st c.requires.few c.in_err-begin.ensures.waits);
  sent = err_along (λ (r : Result (Unit {0}) AgentStatus). OnOk r (c.await_begin.new.self.sent ≡ c.args.desk.now.sent + 1)) c.from_residual.result (status_of c.in_err-begin.field-0.0) c.from_residual.ensures.1 tt;
  asked = err_along (λ (r : Result (Unit {0}) AgentStatus). OnOk r (sent_to c.args.helper.now ≤ sent_to c.args.helper.now + 1)) c.from_residual.result (status_of c.in_err-begin.field-0.0) c.from_residual.ensures.1 tt;
}

pub answer-requires-clause-room : goal.answer-requires-clause-room
answer-requires-clause-room g c κs within = c.requires.room

pub answer-requires-clause-free_link : goal.answer-requires-clause-free_link
answer-requires-clause-free_link g c κs within = c.requires.free_link

pub returns-in_err-reply : goal.returns-in_err-reply
returns-in_err-reply g c = record {
  meets = λ start st. err_along (MetBy c.args.task.now start _ c.args.desk.now c.await_begin.new.self c.answer.new.helper) c.from_residual-in_err-reply.result c.in_err-reply.field-0.0 c.from_residual-in_err-reply.ensures.1
      (met_unanswered c.args.task.now start _ _ c.args.desk.now c.await_begin.new.self c.args.helper.now c.answer.new.helper c.in_ok-begin.begin c.in_err-reply.field-0.0 st c.requires.few c.in_ok-begin.ensures.waits c.in_err-reply.ensures.answers c.in_err-reply.ensures.dials refl c.in_err-reply.ensures.later (omega arith));
  sent = err_along (λ (r : Result (Unit {0}) AgentStatus). OnOk r (c.await_begin.new.self.sent ≡ c.args.desk.now.sent + 1)) c.from_residual-in_err-reply.result c.in_err-reply.field-0.0 c.from_residual-in_err-reply.ensures.1 tt;
  asked = err_along (λ (r : Result (Unit {0}) AgentStatus). OnOk r (sent_to c.answer.new.helper ≤ sent_to c.args.helper.now + 1)) c.from_residual-in_err-reply.result c.in_err-reply.field-0.0 c.from_residual-in_err-reply.ensures.1 tt;
}

pub reply-requires-clause-to : goal.reply-requires-clause-to
reply-requires-clause-to g c κs within = c.in_ok-begin.ensures.serial

pub reply-requires-clause-room : goal.reply-requires-clause-room
reply-requires-clause-room g c κs within = omega (arith, c.in_ok-begin.ensures.waits.sent, c.requires.few, c.requires.count)

pub reply-requires-clause-free : goal.reply-requires-clause-free
reply-requires-clause-free g c κs within = c.requires.free_link

pub print-requires-clause-free : goal.print-requires-clause-free
print-requires-clause-free g c κs within = c.requires.free

pub returns-in_err-reply-2 : goal.returns-in_err-reply-2
returns-in_err-reply-2 g c = record {
  meets = λ start st. err_along (MetBy c.args.task.now start _ c.args.desk.now c.reply.new.self c.answer.new.helper) c.from_residual-in_err-reply-2.result (status_of c.in_err-reply-2.field-0.0) c.from_residual-in_err-reply-2.ensures.1
      (met_part c.args.task.now start _ c.await_begin.new.self c.reply.new.self c.answer.new.helper c.in_ok-begin.begin c.in_ok-reply.reply c.in_err-reply-2.field-0.0
      (met_answered c.args.task.now start _ _ c.args.desk.now c.await_begin.new.self c.args.helper.now c.answer.new.helper c.in_ok-begin.begin c.in_ok-reply.reply st c.requires.few c.in_ok-begin.ensures.waits c.in_ok-reply.ensures.answers c.in_ok-reply.ensures.dials refl c.in_ok-reply.ensures.later (omega arith))
      c.in_err-reply-2.ensures.sends);
  sent = err_along (λ (r : Result (Unit {0}) AgentStatus). OnOk r (c.reply.new.self.sent ≡ c.args.desk.now.sent + 1)) c.from_residual-in_err-reply-2.result (status_of c.in_err-reply-2.field-0.0) c.from_residual-in_err-reply-2.ensures.1 tt;
  asked = err_along (λ (r : Result (Unit {0}) AgentStatus). OnOk r (sent_to c.answer.new.helper ≤ sent_to c.args.helper.now + 1)) c.from_residual-in_err-reply-2.result (status_of c.in_err-reply-2.field-0.0) c.from_residual-in_err-reply-2.ensures.1 tt;
}

pub returns-in_err-print : goal.returns-in_err-print
returns-in_err-print g c = record {
  meets = λ start st. err_along (MetBy c.args.task.now start _ c.args.desk.now c.reply.new.self c.answer.new.helper) c.from_residual-in_err-print.result status.WriteFault c.from_residual-in_err-print.ensures.1
      (met_unprinted c.args.task.now start _ _ c.await_begin.new.self c.reply.new.self c.answer.new.helper c.in_ok-begin.begin c.in_ok-reply.reply c.in_err-print.field-0.0
      (met_sent c.args.task.now start _ c.await_begin.new.self c.reply.new.self c.answer.new.helper c.in_ok-begin.begin c.in_ok-reply.reply
      (met_answered c.args.task.now start _ _ c.args.desk.now c.await_begin.new.self c.args.helper.now c.answer.new.helper c.in_ok-begin.begin c.in_ok-reply.reply st c.requires.few c.in_ok-begin.ensures.waits c.in_ok-reply.ensures.answers c.in_ok-reply.ensures.dials refl c.in_ok-reply.ensures.later (omega arith))
      c.in_ok-reply-2.ensures.sends c.in_ok-reply-2.ensures.sent)
      refl refl c.in_err-print.ensures.prints c.in_err-print.ensures.cause);
  sent = err_along (λ (r : Result (Unit {0}) AgentStatus). OnOk r (c.reply.new.self.sent ≡ c.args.desk.now.sent + 1)) c.from_residual-in_err-print.result status.WriteFault c.from_residual-in_err-print.ensures.1 tt;
  asked = err_along (λ (r : Result (Unit {0}) AgentStatus). OnOk r (sent_to c.answer.new.helper ≤ sent_to c.args.helper.now + 1)) c.from_residual-in_err-print.result status.WriteFault c.from_residual-in_err-print.ensures.1 tt;
}

pub returns : goal.returns
returns g c = record {
  meets = λ start st. met_printed c.args.task.now start _ _ c.args.desk.now c.await_begin.new.self c.reply.new.self c.answer.new.helper c.in_ok-begin.begin c.in_ok-reply.reply c.in_ok-begin.ensures.waits
      (met_sent c.args.task.now start _ c.await_begin.new.self c.reply.new.self c.answer.new.helper c.in_ok-begin.begin c.in_ok-reply.reply
      (met_answered c.args.task.now start _ _ c.args.desk.now c.await_begin.new.self c.args.helper.now c.answer.new.helper c.in_ok-begin.begin c.in_ok-reply.reply st c.requires.few c.in_ok-begin.ensures.waits c.in_ok-reply.ensures.answers c.in_ok-reply.ensures.dials refl c.in_ok-reply.ensures.later (omega arith))
      c.in_ok-reply-2.ensures.sends c.in_ok-reply-2.ensures.sent)
      refl refl c.in_ok-print.ensures.prints c.in_ok-print.ensures.cause;
  sent = c.in_ok-reply-2.ensures.sent ∙ ap (λ (n : ℕ). n + 1) c.in_ok-begin.ensures.waits.sent;
  asked = c.in_ok-reply.ensures.sent;
}
