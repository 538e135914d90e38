use Rattle.std.proofs.Common.{◌≡◌, ◌+◌, ◌∙◌, ℕ, ap, refl, false, Result, OnOk, arith}
use Rattle.dbus_values.specs.Form.{message_bytes}
use Rattle.authority_messages.specs.Outgoing.{under}
use Rattle.client_messages.specs.Agents.{reply_for}
use Rattle.client_link.specs.declared.stop.LinkStop.{LinkStop}
use Rattle.script_agent.specs.Lines.{LineNow}
use Rattle.script_agent.specs.Waits.{Sends}
use Rattle.script_agent.proofs.Fronts.{err_along}
use Rattle.script_agent.proofs.Moves.{sends_err, sends_from}
use Rattle.script_agent.proofs.line.Line.reply.Goals as goal

pub overflow_add-self-inside : goal.overflow_add-self-inside
overflow_add-self-inside g c = let s : c.self.inside.sent ≡ c.args.self.now.sent = ap (λ (x : LineNow). x.sent) c.self.view_is in omega (arith, s, c.requires.room)

pub send_reply-requires-clause-to : goal.send_reply-requires-clause-to
send_reply-requires-clause-to g c κs within = c.requires.to

pub send_reply-requires-clause-serial : goal.send_reply-requires-clause-serial
send_reply-requires-clause-serial g c κs within = omega arith

pub send_reply-requires-clause-free : goal.send_reply-requires-clause-free
send_reply-requires-clause-free g c κs within = c.requires.free

pub returns-in_err-send_reply-clause-sends : goal.returns-in_err-send_reply-clause-sends
returns-in_err-send_reply-clause-sends g c =
    sends_err (λ n. message_bytes false (under n (reply_for c.args.reply c.args.to))) _ _ _ _ c.in_err-send_reply.field-0.0 c.from_residual.ensures.1 c.self.view_is c.in_err-send_reply.ensures.sends refl refl refl refl refl c.in_err-send_reply.ensures.faults

pub returns-in_err-send_reply-clause-sent : goal.returns-in_err-send_reply-clause-sent
returns-in_err-send_reply-clause-sent g c =
    let P : Result (Unit {0}) LinkStop → Type 0 = λ r. OnOk r (c.self.inside.sent ≡ c.args.self.now.sent + 1) in
    err_along P c.from_residual.result c.in_err-send_reply.field-0.0 c.from_residual.ensures.1 tt

pub overflow_add-self : goal.overflow_add-self
overflow_add-self g c = let s : c.self.inside.sent ≡ c.args.self.now.sent = ap (λ (x : LineNow). x.sent) c.self.view_is in omega (arith, s, c.requires.room)

pub returns-clause-sends : goal.returns-clause-sends
returns-clause-sends g c = sends_from (λ n. message_bytes false (under n (reply_for c.args.reply c.args.to))) _ _ _ _ c.self.view_is c.in_ok-send_reply.ensures.sends refl refl refl refl refl c.in_ok-send_reply.ensures.faults

pub returns-clause-sent : goal.returns-clause-sent
returns-clause-sent g c = ap (λ (x : LineNow). x.sent + 1) c.self.view_is
