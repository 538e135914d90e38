-- What an agent is asked, and what it replies.
use Rattle.std.specs.Prelude.{ℕ, ◌==◌, ◌&&◌, Bool, false, if◌then◌else◌, [], Option, Some, None, codes}
use Rattle.std.specs.Option.{option_map}
use Rattle.std.specs.Str.{bytes_eq}
use Rattle.dbus_values.specs.Next.{Seen}
use Rattle.authority_model.specs.Answers.{cancelled_name}
use Rattle.authority_model.specs.Words.{Bytes}
use Rattle.dbus_values.specs.declared.codes.TheConstants.{METHOD_CALL}
use Rattle.authority_calls.specs.Arguments.{Reading, ◌>>=◌, given, as_bytes, as_enter, part_as, text, behind}
use Rattle.authority_messages.specs.declared.calls.TheConstants.{AGENT}
use Rattle.authority_messages.specs.Outgoing.{Outgoing, return_to, error_to}
use Rattle.client_messages.specs.declared.agent.TheConstants.{BEGIN_AUTHENTICATION, BEGIN_TAKES}
use Rattle.client_messages.specs.declared.agent.AgentBegin.{AgentBegin}
use Rattle.client_messages.specs.declared.agent.AgentReply.{AgentReply}
use Rattle.client_messages.specs.declared.agent.AgentReply.TheVariants as reply

-- whether there is a name, and it is this one
abbrev pub is_named : Bytes → Option Bytes → Bool
is_named name None = false
is_named name (Some bytes) = bytes_eq bytes name

-- whether a message is a call of BeginAuthentication, to whichever object
abbrev pub is_begin : Seen → Bool
is_begin m = (m.kind == METHOD_CALL) && is_named AGENT.now m.interface && is_named BEGIN_AUTHENTICATION.now m.member && bytes_eq m.signature BEGIN_TAKES.now

-- The arguments of BeginAuthentication up to the cookie: an action, a message and an icon of any length, details, a cookie.
unfoldable pub question : ℕ → Reading AgentBegin
question serial = do
  action ← text
  message ← part_as as_bytes
  icon ← part_as as_bytes
  details ← part_as as_enter
  ends ← behind 1
  cookie ← text
  given (record { serial = serial; action = action; cookie = cookie })

-- What a message asks of an agent. An action and a cookie have at most 65,535 bytes.
abbrev pub begin_of : Seen → Option AgentBegin
begin_of m = if is_begin m then option_map (λ (begin, _). begin) (question m.serial m.parts) else None

-- what an agent replies to the call with a serial
abbrev pub reply_for : AgentReply → ℕ → Outgoing
reply_for reply.Return to = return_to to []
reply_for reply.Failed to = error_to to (codes "org.freedesktop.PolicyKit1.Error.Failed") (codes "failed")
reply_for reply.Cancelled to = error_to to cancelled_name (codes "dismissed")
