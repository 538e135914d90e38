-- The helper's link, which was not used before.
use Rattle.std.proofs.Common.{◌≡◌, ◌∙◌, refl, Bool, false, Result, OnOk, [], arith}
use Rattle.script_agent.specs.declared.status.AgentStatus.{AgentStatus}
use Rattle.script_agent.specs.Steps.{ConsultedBy, asked}
use Rattle.script_agent.proofs.Steering.{first_sent}
use Rattle.script_agent.specs.Stops.{status_of}
use Rattle.script_agent.proofs.Fronts.{err_along}
use Rattle.script_agent.proofs.Shaking.{helper_shaken, helper_unshaken, shaken, still_sound}
use Rattle.script_agent.proofs.line.Line.introduce.Goals as goal

pub shake-requires-clause-rest : goal.shake-requires-clause-rest
shake-requires-clause-rest g c κs within = c.requires.rest

pub shake-requires-clause-free : goal.shake-requires-clause-free
shake-requires-clause-free g c κs within = c.requires.free

pub returns-in_err-shake : goal.returns-in_err-shake
returns-in_err-shake g c = record {
  introduces = record {
    from = λ path d. err_along (ConsultedBy path [] c.args.cookie.now c.args.uid c.shake.new.self) c.from_residual.result (status_of c.in_err-shake.field-0.0) c.from_residual.ensures.1
        (helper_unshaken path c.args.self.now c.shake.new.self (asked c.args.cookie.now c.args.uid false) c.in_err-shake.field-0.0 c.in_err-shake.ensures.shakes d c.in_err-shake.ensures.origin c.in_err-shake.ensures.faults);
    origin = c.in_err-shake.ensures.origin;
  };
  sent = err_along (λ (r : Result Bool AgentStatus). OnOk r (c.shake.new.self.sent ≡ 1)) c.from_residual.result (status_of c.in_err-shake.field-0.0) c.from_residual.ensures.1 tt;
}

pub consult-requires-clause-room : goal.consult-requires-clause-room
consult-requires-clause-room g c κs within = omega (arith, c.in_ok-shake.ensures.sent, c.requires.sent)

pub consult-requires-clause-free : goal.consult-requires-clause-free
consult-requires-clause-free g c κs within = c.requires.free

pub returns : goal.returns
returns g c = record {
  introduces = record {
    from = λ path d. c.consult.ensures.consults.from path [] (shaken path c.shake.new.self c.in_ok-shake.ensures.shakes.read c.in_ok-shake.ensures.shakes.written)
        (helper_shaken path c.args.self.now c.shake.new.self c.in_ok-shake.ensures.shakes d c.in_ok-shake.ensures.origin c.in_ok-shake.ensures.sent (still_sound c.args.self.now c.shake.new.self d.sound c.in_ok-shake.ensures.faults));
    origin = c.consult.ensures.consults.origin ∙ c.in_ok-shake.ensures.origin;
  };
  sent = first_sent c.consult.result c.shake.new.self.sent c.consult.new.self.sent (c.in_ok-shake.ensures.sent ∙ c.requires.sent) c.consult.ensures.sent;
}
