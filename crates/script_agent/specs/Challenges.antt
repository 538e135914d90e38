-- The challenges that an agent meets, and what it sends and prints for them.
use Rattle.std.specs.Prelude.{◌≡◌, ℕ, ◌+◌, ◌==◌, Bool, true, false, if◌then◌else◌, List, [], ◌∷◌, ◌++◌, length, map, Option, Some, None, codes}
use Rattle.std.specs.List.{filter_map, flat_map}
use Rattle.pk_types.specs.declared.values.Identity.TheVariants as identity
use Rattle.pk_types.specs.declared.values.Subject.TheVariants as subject
use Rattle.dbus_values.specs.Form.{message_bytes}
use Rattle.authority_model.specs.declared.event.Call.{Call}
use Rattle.authority_model.specs.declared.event.Call.TheVariants as call
use Rattle.authority_model.specs.Words.{Bytes}
use Rattle.authority_messages.specs.Outgoing.{under}
use Rattle.client_messages.specs.declared.agent.AgentBegin.{AgentBegin}
use Rattle.client_messages.specs.declared.agent.AgentReply.{AgentReply}
use Rattle.client_messages.specs.declared.agent.AgentReply.TheVariants as reply
use Rattle.client_messages.specs.Agents.{reply_for}
use Rattle.client_messages.specs.Calls.{call_for}
use Rattle.client_link.specs.Shakings.{client_bytes}
use Rattle.agent_rules.specs.declared.line.Handling.{Handling}
use Rattle.agent_rules.specs.declared.line.Handling.TheVariants as handling

-- A challenge that the agent met: what it was asked, how its rules handle that, and whether the
-- helper's reply was an error, which counts only where the helper was asked.
pub record Challenge : Type 0 where
  pub begin : AgentBegin
  pub handling : Handling
  pub refused : Bool

-- # What is answered

-- An empty return where the authority took the user for authenticated, and else an error.
abbrev pub reply_by : Handling → Bool → AgentReply
reply_by (handling.Authenticate uid) false = reply.Return
reply_by (handling.Authenticate uid) true = reply.Failed
reply_by handling.Dismiss refused = reply.Cancelled
reply_by handling.Fail refused = reply.Failed

abbrev pub reply_of : Challenge → AgentReply
reply_of c = reply_by c.handling c.refused

-- the message that answers a challenge, with this serial
abbrev pub reply_bytes : ℕ → Challenge → Bytes
reply_bytes serial c = message_bytes false (under serial (reply_for (reply_of c) c.begin.serial))

-- the answers of challenges, of which the first has this serial and each further one the next
abbrev pub replies_from : ℕ → List Challenge → Bytes
replies_from serial [] = []
replies_from serial (c ∷ met) = reply_bytes serial c ++ replies_from (serial + 1) met

-- # What is printed

abbrev pub word_of : AgentReply → Bytes
word_of reply.Return = codes " return\n"
word_of reply.Cancelled = codes " dismiss\n"
word_of reply.Failed = codes " fail\n"

-- the line of a challenge: its action, and what was answered
abbrev pub line_of : Challenge → Bytes
line_of c = c.begin.action ++ word_of (reply_of c)

abbrev pub lines_of : List Challenge → Bytes
lines_of met = flat_map line_of met

-- # What the helper is asked

-- What the helper was asked, for which user, and whether its reply was an error.
pub record Ask : Type 0 where
  pub cookie : Bytes
  pub uid : ℕ
  pub refused : Bool

abbrev pub ask_by : Challenge → Handling → Option Ask
ask_by c (handling.Authenticate uid) = Some (record { cookie = c.begin.cookie; uid = uid; refused = c.refused })
ask_by c handling.Dismiss = None
ask_by c handling.Fail = None

-- what the helper is asked for a challenge
abbrev pub ask_of : Challenge → Option Ask
ask_of c = ask_by c c.handling

abbrev pub asks_of : List Challenge → List Ask
asks_of met = filter_map ask_of met

-- AuthenticationAgentResponse: this user was authenticated for the challenge with this cookie
abbrev pub response : Bytes → ℕ → Call
response cookie uid = call.Respond cookie (identity.User uid)

abbrev pub ask_bytes : ℕ → Ask → Bytes
ask_bytes serial a = message_bytes false (under serial (call_for (response a.cookie a.uid)))

abbrev pub asks_from : ℕ → List Ask → Bytes
asks_from serial [] = []
asks_from serial (a ∷ asks) = ask_bytes serial a ++ asks_from (serial + 1) asks

-- all that is written on the second link, which is needed where something is asked
abbrev pub helper_bytes : List Ask → Bytes
helper_bytes asks = client_bytes 0 ++ asks_from 1 asks

-- # What the authority is told

-- RegisterAuthenticationAgent for a session, with the locale C and the path /agent
abbrev pub registration : Bytes → Call
registration session = call.Register (subject.Session session) (codes "C") (codes "/agent")

-- the handshake of this user, and the registration
abbrev pub opening_bytes : ℕ → Bytes → Bytes
opening_bytes uid session = client_bytes uid ++ message_bytes false (under 1 (call_for (registration session)))

-- all that is written on the first link
abbrev pub desk_bytes : ℕ → Bytes → List Challenge → Bytes
desk_bytes uid session met = opening_bytes uid session ++ replies_from 2 met
