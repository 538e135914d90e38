-- The agent shakes hands, asks to be registered, and awaits the reply.
use Rattle.std.proofs.Common.{◌≡◌, ◌∙◌, refl, ap, subst, ℕ, ◌+◌, Bool, None, Ok, Result, OnOk, arith}
use Rattle.script_agent.specs.declared.status.AgentStatus.{AgentStatus}
use Rattle.script_agent.specs.declared.status.AgentStatus.TheVariants as status
use Rattle.script_agent.specs.Steps.{OpenedBy}
use Rattle.script_agent.specs.Stops.{status_of}
use Rattle.script_agent.specs.Waits.{Waits, refusal_of}
use Rattle.script_agent.proofs.Fronts.{err_along}
use Rattle.script_agent.proofs.Opening.{open_done, open_part, open_refused, open_sent, open_shaken, open_stopped, open_unsent, open_unshaken}
use Rattle.script_agent.proofs.Shaking.{still_sound}
use Rattle.script_agent.proofs.Steering.{registration_method}
use Rattle.script_agent.proofs.line.Line.open.Goals as goal

pub shake-requires-clause-rest : goal.shake-requires-clause-rest
shake-requires-clause-rest g c κs within = c.requires.rest

pub shake-requires-clause-free : goal.shake-requires-clause-free
shake-requires-clause-free g c κs within = c.requires.free

pub returns-in_err-shake : goal.returns-in_err-shake
returns-in_err-shake g c = record {
  opens = λ start now a. err_along (OpenedBy c.args.task.now start now c.shake.new.self None) c.from_residual.result (status_of c.in_err-shake.field-0.0) c.from_residual.ensures.1
      (open_unshaken c.args.task.now start now c.args.self.now c.shake.new.self c.in_err-shake.field-0.0 a c.in_err-shake.ensures.shakes c.in_err-shake.ensures.origin c.in_err-shake.ensures.faults);
  sent = err_along (λ (r : Result (Unit {0}) AgentStatus). OnOk r (c.shake.new.self.sent ≡ 1)) c.from_residual.result (status_of c.in_err-shake.field-0.0) c.from_residual.ensures.1 tt;
}

pub returns-in_err-message : goal.returns-in_err-message
returns-in_err-message g c = record {
  opens = λ start now a. err_along (OpenedBy c.args.task.now start now c.shake.new.self None) c.from_residual-in_err-message.result status.NoMemory c.from_residual-in_err-message.ensures.1
      (open_unsent c.args.task.now start now c.shake.new.self
      (open_shaken c.args.task.now start now c.args.self.now c.shake.new.self a c.in_ok-shake.ensures.shakes c.in_ok-shake.ensures.origin c.in_ok-shake.ensures.sent (still_sound c.args.self.now c.shake.new.self a.dialled.sound c.in_ok-shake.ensures.faults)));
  sent = err_along (λ (r : Result (Unit {0}) AgentStatus). OnOk r (c.shake.new.self.sent ≡ 1)) c.from_residual-in_err-message.result status.NoMemory c.from_residual-in_err-message.ensures.1 tt;
}

pub call-requires-clause-method : goal.call-requires-clause-method
call-requires-clause-method g c κs within = registration_method _ _ c.in_ok-message.ensures.call

pub call-requires-clause-short : goal.call-requires-clause-short
call-requires-clause-short g c κs within = c.in_ok-message.ensures.short

pub call-requires-clause-room : goal.call-requires-clause-room
call-requires-clause-room g c κs within = omega (arith, c.in_ok-shake.ensures.sent, c.requires.sent)

pub call-requires-clause-free : goal.call-requires-clause-free
call-requires-clause-free g c κs within = c.requires.free

pub returns-in_err-call : goal.returns-in_err-call
returns-in_err-call g c = record {
  opens = λ start now a. err_along (OpenedBy c.args.task.now start now c.call.new.self None) c.from_residual-in_err-call.result (status_of c.in_err-call.field-0.0) c.from_residual-in_err-call.ensures.1
      (open_part c.args.task.now start now c.shake.new.self c.call.new.self c.in_ok-message.message c.in_err-call.field-0.0
      (open_shaken c.args.task.now start now c.args.self.now c.shake.new.self a c.in_ok-shake.ensures.shakes c.in_ok-shake.ensures.origin c.in_ok-shake.ensures.sent (still_sound c.args.self.now c.shake.new.self a.dialled.sound c.in_ok-shake.ensures.faults))
      c.in_ok-message.ensures.call c.in_err-call.ensures.sends);
  sent = err_along (λ (r : Result (Unit {0}) AgentStatus). OnOk r (c.call.new.self.sent ≡ 1)) c.from_residual-in_err-call.result (status_of c.in_err-call.field-0.0) c.from_residual-in_err-call.ensures.1 tt;
}

pub returns-in_err-refused : goal.returns-in_err-refused
returns-in_err-refused g c = record {
  opens = λ start now a. err_along (OpenedBy c.args.task.now start now c.await_refusal.new.self None) c.from_residual-in_err-refused.result (status_of c.in_err-refused.field-0.0) c.from_residual-in_err-refused.ensures.1
      (open_stopped c.args.task.now start now c.call.new.self c.await_refusal.new.self c.in_err-refused.field-0.0
      (open_sent c.args.task.now start now c.shake.new.self c.call.new.self c.in_ok-message.message
      (open_shaken c.args.task.now start now c.args.self.now c.shake.new.self a c.in_ok-shake.ensures.shakes c.in_ok-shake.ensures.origin c.in_ok-shake.ensures.sent (still_sound c.args.self.now c.shake.new.self a.dialled.sound c.in_ok-shake.ensures.faults))
      c.in_ok-message.ensures.call c.in_ok-call.ensures.sends c.in_ok-call.ensures.sent)
      c.in_err-refused.ensures.waits);
  sent = err_along (λ (r : Result (Unit {0}) AgentStatus). OnOk r (c.await_refusal.new.self.sent ≡ 1)) c.from_residual-in_err-refused.result (status_of c.in_err-refused.field-0.0) c.from_residual-in_err-refused.ensures.1 tt;
}

pub returns-then-refused : goal.returns-then-refused
returns-then-refused g c = record {
  opens = λ start now a. open_refused c.args.task.now start now c.call.new.self c.await_refusal.new.self
      (open_sent c.args.task.now start now c.shake.new.self c.call.new.self c.in_ok-message.message
      (open_shaken c.args.task.now start now c.args.self.now c.shake.new.self a c.in_ok-shake.ensures.shakes c.in_ok-shake.ensures.origin c.in_ok-shake.ensures.sent (still_sound c.args.self.now c.shake.new.self a.dialled.sound c.in_ok-shake.ensures.faults))
      c.in_ok-message.ensures.call c.in_ok-call.ensures.sends c.in_ok-call.ensures.sent)
      (subst (λ (b : Bool). Waits (refusal_of 1) c.call.new.self c.await_refusal.new.self (Ok b)) c.if-refused.true c.in_ok-refused.ensures.waits);
  sent = tt;
}

pub returns : goal.returns
returns g c = record {
  opens = λ start now a. open_done c.args.task.now start now c.call.new.self c.await_refusal.new.self
      (open_sent c.args.task.now start now c.shake.new.self c.call.new.self c.in_ok-message.message
      (open_shaken c.args.task.now start now c.args.self.now c.shake.new.self a c.in_ok-shake.ensures.shakes c.in_ok-shake.ensures.origin c.in_ok-shake.ensures.sent (still_sound c.args.self.now c.shake.new.self a.dialled.sound c.in_ok-shake.ensures.faults))
      c.in_ok-message.ensures.call c.in_ok-call.ensures.sends c.in_ok-call.ensures.sent)
      (subst (λ (b : Bool). Waits (refusal_of 1) c.call.new.self c.await_refusal.new.self (Ok b)) c.if-refused.false c.in_ok-refused.ensures.waits);
  sent = c.in_ok-refused.ensures.waits.sent ∙ c.in_ok-call.ensures.sent ∙ ap (λ (n : ℕ). n + 1) (c.in_ok-shake.ensures.sent ∙ c.requires.sent);
}
