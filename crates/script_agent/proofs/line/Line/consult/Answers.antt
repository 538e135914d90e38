-- The helper's link, whatever it was asked before.
use Rattle.std.proofs.Common.{◌≡◌, ◌∙◌, refl, Bool, Result, OnOk, ◌+◌, ◌++◌, ◌∷◌, [], arith}
use Rattle.script_agent.specs.declared.status.AgentStatus.{AgentStatus}
use Rattle.script_agent.specs.declared.status.AgentStatus.TheVariants as status
use Rattle.script_agent.specs.Steps.{ConsultedBy}
use Rattle.script_agent.specs.Stops.{status_of}
use Rattle.script_agent.proofs.Consulting.{consult_part, consult_replied, consult_sent, consult_stopped, consult_unsent}
use Rattle.script_agent.proofs.Fronts.{err_along}
use Rattle.script_agent.proofs.Steering.{response_method, waits_serial}
use Rattle.script_agent.proofs.line.Line.consult.Goals as goal

pub returns-in_err-message : goal.returns-in_err-message
returns-in_err-message g c = record {
  consults = record {
    from = λ path asks line h. err_along (ConsultedBy path asks c.args.cookie.now c.args.uid c.args.self.now) c.from_residual.result status.NoMemory c.from_residual.ensures.1 (consult_unsent path asks c.args.self.now line c.args.cookie.now c.args.uid h);
    origin = refl;
  };
  sent = err_along (λ (r : Result Bool AgentStatus). OnOk r (c.args.self.now.sent ≡ c.args.self.now.sent + 1)) c.from_residual.result status.NoMemory c.from_residual.ensures.1 tt;
}

pub call-requires-clause-method : goal.call-requires-clause-method
call-requires-clause-method g c κs within = response_method _ _ _ c.in_ok-message.ensures.call

pub call-requires-clause-short : goal.call-requires-clause-short
call-requires-clause-short g c κs within = c.in_ok-message.ensures.short

pub call-requires-clause-room : goal.call-requires-clause-room
call-requires-clause-room g c κs within = c.requires.room

pub call-requires-clause-free : goal.call-requires-clause-free
call-requires-clause-free g c κs within = c.requires.free

pub returns-in_err-call : goal.returns-in_err-call
returns-in_err-call g c = record {
  consults = record {
    from = λ path asks line h. err_along (ConsultedBy path asks c.args.cookie.now c.args.uid c.call.new.self) c.from_residual-in_err-call.result (status_of c.in_err-call.field-0.0) c.from_residual-in_err-call.ensures.1
        (consult_part path asks c.args.self.now c.call.new.self line c.in_ok-message.message c.args.cookie.now c.args.uid c.in_err-call.field-0.0 h c.in_ok-message.ensures.call c.in_err-call.ensures.sends);
    origin = c.in_err-call.ensures.sends.origin;
  };
  sent = err_along (λ (r : Result Bool AgentStatus). OnOk r (c.call.new.self.sent ≡ c.args.self.now.sent + 1)) c.from_residual-in_err-call.result (status_of c.in_err-call.field-0.0) c.from_residual-in_err-call.ensures.1 tt;
}

pub returns-in_err-refused : goal.returns-in_err-refused
returns-in_err-refused g c = record {
  consults = record {
    from = λ path asks line h. err_along (ConsultedBy path asks c.args.cookie.now c.args.uid c.await_refusal.new.self) c.from_residual-in_err-refused.result (status_of c.in_err-refused.field-0.0) c.from_residual-in_err-refused.ensures.1
        (consult_stopped path asks c.args.cookie.now c.args.uid c.call.new.self c.await_refusal.new.self c.in_err-refused.field-0.0
        (consult_sent path asks c.args.self.now c.call.new.self line c.in_ok-message.message c.args.cookie.now c.args.uid h c.in_ok-message.ensures.call c.in_ok-call.ensures.sends c.in_ok-call.ensures.sent)
        (waits_serial _ _ _ _ _ c.sent-serial.ensures.sent c.in_err-refused.ensures.waits));
    origin = c.in_err-refused.ensures.waits.origin ∙ c.in_ok-call.ensures.sends.origin;
  };
  sent = err_along (λ (r : Result Bool AgentStatus). OnOk r (c.await_refusal.new.self.sent ≡ c.args.self.now.sent + 1)) c.from_residual-in_err-refused.result (status_of c.in_err-refused.field-0.0) c.from_residual-in_err-refused.ensures.1 tt;
}

pub returns : goal.returns
returns g c = record {
  consults = record {
    from = λ path asks line h. consult_replied path asks c.args.cookie.now c.args.uid c.call.new.self c.await_refusal.new.self c.in_ok-refused.refused
        (consult_sent path asks c.args.self.now c.call.new.self line c.in_ok-message.message c.args.cookie.now c.args.uid h c.in_ok-message.ensures.call c.in_ok-call.ensures.sends c.in_ok-call.ensures.sent)
        (waits_serial _ _ _ _ _ c.sent-serial.ensures.sent c.in_ok-refused.ensures.waits);
    origin = c.in_ok-refused.ensures.waits.origin ∙ c.in_ok-call.ensures.sends.origin;
  };
  sent = c.in_ok-refused.ensures.waits.sent ∙ c.in_ok-call.ensures.sent;
}
