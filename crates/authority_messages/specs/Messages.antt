-- Which message each output is.
use Rattle.std.specs.Prelude.{ℕ, ◌-◌, ◌==◌, ◌<◌, nat_lt, Bool, false, true, if◌then◌else◌, List, [], ◌∷◌, Option, None, is_some, length, map, slice_get, codes}
use Rattle.std.specs.Option.{option_map_or}
use Rattle.pk_types.specs.Text.{text_fault_of}
use Rattle.pk_types.specs.declared.values.Identity.{Identity}
use Rattle.pk_types.specs.declared.values.Pair.{Pair}
use Rattle.dbus_values.specs.Basics.{is_path}
use Rattle.dbus_values.specs.Form.{message_bytes}
use Rattle.authority_model.specs.declared.load.Loaded.{Loaded}
use Rattle.authority_model.specs.declared.message.Answer.{Answer}
use Rattle.authority_model.specs.declared.message.Answer.TheVariants as answer
use Rattle.authority_model.specs.declared.message.Message.{Message}
use Rattle.authority_model.specs.declared.message.Message.TheVariants as message
use Rattle.authority_model.specs.declared.policy.Action.{Action}
use Rattle.authority_model.specs.declared.verdict.Cookie.{Cookie}
use Rattle.authority_model.specs.Causes.{error_name, error_text}
use Rattle.authority_model.specs.Cookies.{cookie_text}
use Rattle.authority_model.specs.Reasons.{reason_text}
use Rattle.authority_model.specs.Words.{Bytes}
use Rattle.authority_calls.specs.declared.event.TheConstants.{NO_REPLY_EXPECTED}
use Rattle.authority_calls.specs.declared.methods.TheConstants.{AUTHORITY, AUTHORITY_PATH}
use Rattle.dbus_values.specs.declared.codes.TheConstants.{MAX_MESSAGE}
use Rattle.authority_messages.specs.declared.calls.TheConstants.{AGENT}
use Rattle.authority_messages.specs.declared.replies.TheConstants.{LIMITS_EXCEEDED, TOO_LONG}
use Rattle.authority_messages.specs.Values.{string, array, pairs, identity, authorization_result, description, authorization}
use Rattle.authority_messages.specs.Outgoing.{Outgoing, under, return_to, error_to, call_at, signal_of, nothing}

-- how many bytes a message has, whatever its serial is
abbrev pub size : Outgoing → ℕ
size o = length (message_bytes false (under 1 o))

-- whether it has more bytes than a message may have
abbrev pub is_over : Outgoing → Bool
is_over o = nat_lt MAX_MESSAGE (size o)

-- the load with this number; loads are counted from 1
abbrev pub loaded_as : List Loaded → ℕ → Option Loaded
loaded_as loads n = if n == 0 then None else slice_get loads (n - 1)

-- its actions; a number of no load has none
abbrev pub actions_of : List Loaded → ℕ → List Action
actions_of loads n = option_map_or (λ (loaded : Loaded). loaded.policy.actions) (loaded_as loads n) []

-- in place of a reply that is too long
abbrev pub too_long : ℕ → Outgoing
too_long answered = error_to answered LIMITS_EXCEEDED.now TOO_LONG.now

-- whether an answer has what no text holds, since it is longer than a text may be
abbrev pub is_unspoken : Answer → Bool
is_unspoken (answer.Verdict verdict) = is_some (text_fault_of (reason_text verdict.reason))
is_unspoken _ = false

-- the reply that gives an answer to the call with a serial
abbrev pub answering : List Loaded → ℕ → Answer → Outgoing
answering loads answered (answer.Verdict verdict) = return_to answered (authorization_result verdict ∷ [])
answering loads answered answer.Done = return_to answered []
answering loads answered (answer.Name name) = return_to answered (string name ∷ [])
answering loads answered (answer.Actions load locale) = return_to answered (array (codes "(ssssssuuua{ss})") (map (description locale) (actions_of loads load)) ∷ [])
answering loads answered (answer.Grants rows) = return_to answered (array (codes "(ss(sa{sv})tt)") (map authorization rows) ∷ [])
answering loads answered (answer.Refused cause) = error_to answered (error_name cause) (error_text cause)

-- the same, unless it is too long
abbrev pub reply : List Loaded → ℕ → Answer → Outgoing
reply loads answered a = if is_unspoken a then too_long answered else (let whole = answering loads answered a in if is_over whole then too_long answered else whole)

-- the path of an agent; what is not an object path is the root
abbrev pub agent_path : Bytes → Bytes
agent_path path = if is_path path then path else codes "/"

-- BeginAuthentication
abbrev pub asking : Bytes → Bytes → Bytes → Bytes → List Pair → Cookie → List Identity → Outgoing
asking path action text icon details cookie identities =
    call_at 0 (agent_path path) AGENT.now (codes "BeginAuthentication") (string action ∷ string text ∷ string icon ∷ pairs details ∷ string (cookie_text cookie) ∷ array (codes "(sa{sv})") (map identity identities) ∷ [])

-- the same; where it is too long, with no details and no identities
abbrev pub begin : Bytes → Bytes → Bytes → Bytes → List Pair → Cookie → List Identity → Outgoing
begin path action text icon details cookie identities =
    let whole = asking path action text icon details cookie identities in
    if is_over whole then asking path action text icon [] cookie [] else whole

-- CancelAuthentication, to which no reply is expected
abbrev pub cancel : Bytes → Cookie → Outgoing
cancel path cookie = call_at NO_REPLY_EXPECTED (agent_path path) AGENT.now (codes "CancelAuthentication") (string (cookie_text cookie) ∷ [])

-- the signal Changed
abbrev pub changed : Outgoing
changed = signal_of AUTHORITY_PATH.now AUTHORITY.now (codes "Changed")

-- whether an output is a message, and not a request to the loader
abbrev pub is_message : Message → Bool
is_message message.LoadWanted = false
is_message message.StopWanted = false
is_message _ = true

-- a call that is answered has a serial other than 0
abbrev pub AnswersCall : Message → Type 0
AnswersCall (message.Reply answered a) = 0 < answered
AnswersCall _ = Unit {0}

-- The message that an output is. What is asked of the loader is none.
abbrev pub message_for : List Loaded → Message → Outgoing
message_for loads (message.Reply answered a) = reply loads answered a
message_for loads (message.Begin path action text icon details cookie identities) = begin path action text icon details cookie identities
message_for loads (message.CancelBegin path cookie) = cancel path cookie
message_for loads message.Changed = changed
message_for loads message.LoadWanted = nothing
message_for loads message.StopWanted = nothing
