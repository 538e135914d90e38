use Rattle.std.proofs.Common.{◌≡◌, ◌+◌, ◌∙◌, ℕ, ap, refl, false, Result, OnOk, arith}
use Rattle.dbus_values.specs.Form.{message_bytes}
use Rattle.authority_messages.specs.Outgoing.{under}
use Rattle.client_messages.specs.Calls.{call_for}
use Rattle.client_link.specs.declared.stop.LinkStop.{LinkStop}
use Rattle.script_agent.specs.Lines.{LineNow}
use Rattle.script_agent.specs.Waits.{Sends}
use Rattle.script_agent.proofs.Fronts.{err_along}
use Rattle.script_agent.proofs.Moves.{sends_err, sends_from}
use Rattle.script_agent.proofs.line.Line.call.Goals as goal

pub overflow_add-self-inside : goal.overflow_add-self-inside
overflow_add-self-inside g c = let s : c.self.inside.sent ≡ c.args.self.now.sent = ap (λ (x : LineNow). x.sent) c.self.view_is in omega (arith, s, c.requires.room)

pub send_call-requires-clause-method : goal.send_call-requires-clause-method
send_call-requires-clause-method g c κs within = c.requires.method

pub send_call-requires-clause-short : goal.send_call-requires-clause-short
send_call-requires-clause-short g c κs within = c.requires.short

pub send_call-requires-clause-serial : goal.send_call-requires-clause-serial
send_call-requires-clause-serial g c κs within = omega arith

pub send_call-requires-clause-free : goal.send_call-requires-clause-free
send_call-requires-clause-free g c κs within = c.requires.free

pub returns-in_err-send_call-clause-sends : goal.returns-in_err-send_call-clause-sends
returns-in_err-send_call-clause-sends g c =
    sends_err (λ n. message_bytes false (under n (call_for c.args.call.now))) _ _ _ _ c.in_err-send_call.field-0.0 c.from_residual.ensures.1 c.self.view_is c.in_err-send_call.ensures.sends refl refl refl refl refl c.in_err-send_call.ensures.faults

pub returns-in_err-send_call-clause-sent : goal.returns-in_err-send_call-clause-sent
returns-in_err-send_call-clause-sent g c =
    let P : Result (Unit {0}) LinkStop → Type 0 = λ r. OnOk r (c.self.inside.sent ≡ c.args.self.now.sent + 1) in
    err_along P c.from_residual.result c.in_err-send_call.field-0.0 c.from_residual.ensures.1 tt

pub overflow_add-self : goal.overflow_add-self
overflow_add-self g c = let s : c.self.inside.sent ≡ c.args.self.now.sent = ap (λ (x : LineNow). x.sent) c.self.view_is in omega (arith, s, c.requires.room)

pub returns-clause-sends : goal.returns-clause-sends
returns-clause-sends g c = sends_from (λ n. message_bytes false (under n (call_for c.args.call.now))) _ _ _ _ c.self.view_is c.in_ok-send_call.ensures.sends refl refl refl refl refl c.in_ok-send_call.ensures.faults

pub returns-clause-sent : goal.returns-clause-sent
returns-clause-sent g c = ap (λ (x : LineNow). x.sent + 1) c.self.view_is
