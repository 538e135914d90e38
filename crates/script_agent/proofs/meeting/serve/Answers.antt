-- The agent is registered, and meets one challenge after another.
use Rattle.std.proofs.Common.{◌≡◌, ◌+◌, ◌≤◌, ◌∙◌, ℕ, refl, sym, ap, subst, Option, arith}
use Rattle.script_agent.specs.Lines.{LineNow}
use Rattle.script_agent.specs.Steps.{ServedBy, sent_to}
use Rattle.script_agent.proofs.Ending.{opened_with, stopped_with}
use Rattle.script_agent.proofs.Fronts.{err_along}
use Rattle.script_agent.proofs.meeting.serve.Goals as goal

pub open-requires-clause-rest : goal.open-requires-clause-rest
open-requires-clause-rest g c κs within = c.requires.rest

pub open-requires-clause-sent : goal.open-requires-clause-sent
open-requires-clause-sent g c κs within = c.requires.sent

pub open-requires-clause-free : goal.open-requires-clause-free
open-requires-clause-free g c κs within = c.requires.free_link

pub returns-in_err-open : goal.returns-in_err-open
returns-in_err-open g c = record {
  serves = λ start a. err_along (ServedBy c.args.task.now start _ c.open.new.self c.args.helper.now) c.from_residual.result c.in_err-open.field-0.0 c.from_residual.ensures.1
      (stopped_with c.args.task.now start _ c.args.desk.now c.open.new.self c.args.helper.now c.in_err-open.field-0.0 c.requires.alone c.in_err-open.ensures.opens a);
}

pub challenges-init : goal.challenges-init
challenges-init g c = record {
  standing = λ start a. opened_with c.args.task.now start _ c.args.desk.now c.open.new.self c.args.helper.now c.requires.alone c.in_ok-open.ensures.opens a;
  sent = c.in_ok-open.ensures.sent;
  asked = subst (λ (h : Option LineNow). sent_to h ≤ 0) (sym c.requires.alone) (omega arith);
}

pub meet-requires-clause-few : goal.meet-requires-clause-few
meet-requires-clause-few g c κs within = omega (arith, c.challenges.invariant.sent)

pub meet-requires-clause-count : goal.meet-requires-clause-count
meet-requires-clause-count g c κs within = c.requires.count

pub meet-requires-clause-room : goal.meet-requires-clause-room
meet-requires-clause-room g c κs within = omega (arith, c.challenges.invariant.asked, c.requires.count)

pub meet-requires-clause-free : goal.meet-requires-clause-free
meet-requires-clause-free g c κs within = c.requires.free

pub meet-requires-clause-free_link : goal.meet-requires-clause-free_link
meet-requires-clause-free_link g c κs within = c.requires.free_link

pub returns-in_err-meet : goal.returns-in_err-meet
returns-in_err-meet g c = record {
  serves = λ start a. err_along (ServedBy c.args.task.now start _ c.meet.new.desk c.meet.new.helper) c.from_residual-in_err-meet.result c.in_err-meet.field-0.0 c.from_residual-in_err-meet.ensures.1
      (c.in_err-meet.ensures.meets start (c.challenges.invariant.standing start a));
}

pub challenges-preserved : goal.challenges-preserved
challenges-preserved g c = record {
  standing = λ start a. (c.in_ok-meet.ensures.meets start (c.challenges.invariant.standing start a)).0;
  sent = c.in_ok-meet.ensures.sent ∙ ap (λ (n : ℕ). n + 1) c.challenges.invariant.sent;
  asked = omega (arith, c.in_ok-meet.ensures.asked, c.challenges.invariant.asked);
}

pub returns : goal.returns
returns g c = record {
  serves = λ start a. (c.challenges.invariant.standing start a, omega (arith, c.challenges.invariant.sent));
}
