-- The call is sent, or memory was refused before.
use Rattle.std.proofs.Common.{◌∙◌, [], ap, refl, subst, List, ℕ}
use Rattle.dbus_values.specs.Form.{message_bytes}
use Rattle.authority_messages.specs.Outgoing.{under}
use Rattle.authority_model.specs.declared.event.Call.{Call}
use Rattle.std.specs.Prelude.{false}
use Rattle.pk_outside.proofs.Written.{Got-none}
use Rattle.client_messages.specs.Calls.{call_for}
use Rattle.client_link.specs.Sending.{Sends}
use Rattle.client_link.specs.declared.stop.LinkStop.TheVariants as stop
use Rattle.client_link.proofs.Refused.{sends_refused}
use Rattle.pkcheck_tool.specs.declared.asking.TheConstants.{SERIAL}
use Rattle.pkcheck_tool.proofs.asking.send_check.Goals as goal

pub returns-in_err-call-clause-sends : goal.returns-in_err-call-clause-sends
returns-in_err-call-clause-sends g c = sends_refused _ _ _ c.from_residual.result stop.NoMemory c.from_residual.ensures.1 (_, ([], refl, Got-none _))

pub returns-clause-sends : goal.returns-clause-sends
returns-clause-sends g c =
    subst (λ (bytes : List ℕ). Sends (g.O.Sink.held c.args.sink.now) (g.O.Sink.held c.send_call.new.sink) bytes c.send_call.result) (ap (λ (said : Call). message_bytes false (under SERIAL (call_for said))) c.in_ok-call.ensures.call) c.send_call.ensures.sends
