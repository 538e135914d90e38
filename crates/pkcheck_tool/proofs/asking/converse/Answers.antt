-- The handshake, the call and the reply, one after another.
use Rattle.std.proofs.Common.{◌∙◌, refl, List, ℕ}
use Rattle.client_link.specs.declared.stop.LinkStop.TheVariants as stop
use Rattle.pkcheck_tool.proofs.Conversing.{converses, converses_refused, nothing_done, stopped_sending, stopped_shaking}
use Rattle.pkcheck_tool.proofs.asking.converse.Goals as goal

pub returns-in_err-buffer-clause-converses : goal.returns-in_err-buffer-clause-converses
returns-in_err-buffer-clause-converses g c = converses_refused _ _ _ _ _ _ c.from_residual.result stop.NoMemory c.from_residual.ensures.1 (nothing_done c.args.plan.now _ _ _)

pub returns-in_err-shake_hands-clause-converses : goal.returns-in_err-shake_hands-clause-converses
returns-in_err-shake_hands-clause-converses g c =
    converses_refused _ _ _ _ _ _ c.from_residual-in_err-shake_hands.result c.in_err-shake_hands.field-0.0 c.from_residual-in_err-shake_hands.ensures.1
    (stopped_shaking c.args.plan.now _ _ _ _ _ c.shake_hands.new.buffer c.in_err-shake_hands.field-0.0 c.in_err-shake_hands.ensures.shakes)

pub returns-in_err-send_check-clause-converses : goal.returns-in_err-send_check-clause-converses
returns-in_err-send_check-clause-converses g c =
    converses_refused _ _ _ _ _ _ c.from_residual-in_err-send_check.result c.in_err-send_check.field-0.0 c.from_residual-in_err-send_check.ensures.1
    (stopped_sending c.args.plan.now _ _ _ _ _ _ _ c.shake_hands.new.buffer c.in_err-send_check.field-0.0 c.in_ok-shake_hands.ensures.shakes c.in_err-send_check.ensures.sends)

pub returns-clause-converses : goal.returns-clause-converses
returns-clause-converses g c =
    let a = c.await_reply.ensures.awaits in
    converses c.args.plan.now _ _ _ _ _ _ _ _ c.shake_hands.new.buffer a.0 c.await_reply.result c.in_ok-shake_hands.ensures.shakes c.in_ok-send_check.ensures.sends a.1 a.2

pub returns-clause-all : goal.returns-clause-all
returns-clause-all g c =
    let laws = g.met.I.Source g.world.𝓛 g.world.𝓜 g.world.𝓡 ((λ s x. x), (λ x. x), (λ x. x), λ x. x) in
    laws.ended_is_used_up c.await_reply.new.source
