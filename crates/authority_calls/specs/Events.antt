-- What a message from a connection asks of the authority.
use Rattle.std.specs.Prelude.{ℕ, ◌%◌, ◌*◌, ◌==◌, Bool, if◌then◌else◌, [], Option, unwrap_or}
use Rattle.std.specs.Option.{option_map_or, option_and_then}
use Rattle.std.specs.Str.{bytes_eq}
use Rattle.dbus_values.specs.Next.{Seen}
use Rattle.authority_model.specs.declared.event.Call.{Call}
use Rattle.authority_model.specs.declared.event.Call.TheVariants as call
use Rattle.authority_model.specs.declared.event.Event.{Event}
use Rattle.authority_model.specs.declared.event.Event.TheVariants as event
use Rattle.authority_model.specs.declared.message.ErrorCause.{ErrorCause}
use Rattle.authority_model.specs.Words.{Bytes}
use Rattle.authority_calls.specs.declared.methods.TheConstants.{AUTHORITY_PATH}
use Rattle.dbus_values.specs.declared.codes.TheConstants.{METHOD_CALL, METHOD_RETURN, ERROR}
use Rattle.authority_calls.specs.declared.event.TheConstants.{NO_REPLY_EXPECTED}
use Rattle.authority_calls.specs.declared.methods.Method.{Method}
use Rattle.authority_calls.specs.Methods.{row_of, method_named}
use Rattle.authority_calls.specs.Arguments.{text_of}
use Rattle.authority_calls.specs.Calls.{arguments}

-- whether the flags say that no reply is wanted
abbrev pub is_quiet : ℕ → Bool
is_quiet flags = flags % (2 * NO_REPLY_EXPECTED) == NO_REPLY_EXPECTED

-- the call of a method, where the arguments are those of the method
abbrev pub call_with : Seen → Method → Call
call_with m asked =
    if bytes_eq (row_of asked).takes m.signature then option_map_or (λ (said, _). said) (arguments asked m.parts) (call.Wrong ErrorCause.InvalidArgs)
    else call.Wrong ErrorCause.InvalidArgs

-- the method that a message asks for
abbrev pub method_of : Seen → Option Method
method_of m = option_and_then (method_named m.interface) m.member

-- whether a path is that of the authority
abbrev pub is_authority : Option Bytes → Bool
is_authority path = bytes_eq (unwrap_or path []) AUTHORITY_PATH.now

-- what a call asks for: first its object is judged, then its method, then its arguments
abbrev pub call_of : Seen → Call
call_of m =
    if is_authority m.path then option_map_or (call_with m) (method_of m) (call.Wrong ErrorCause.UnknownMethod)
    else call.Wrong ErrorCause.UnknownObject

-- the name of an error; a name over 65,535 bytes is taken as the empty name
abbrev pub error_name : Option Bytes → Bytes
error_name name = unwrap_or (option_and_then text_of name) []

-- A call, a return and an error ask something. A signal and a message of an unknown type are passed over.
abbrev pub event_of : Seen → Event
event_of m =
    if m.kind == METHOD_CALL then event.Call m.serial (is_quiet m.flags) (call_of m) else
    (if m.kind == METHOD_RETURN then option_map_or event.Returned m.reply_serial event.Passed else
    (if m.kind == ERROR then option_map_or (λ serial. event.AgentError serial (error_name m.error_name)) m.reply_serial event.Passed
    else event.Passed))

-- what a message can ask: no event of the journal's own
abbrev pub IsAsked : Event → Type 0
IsAsked (event.Call serial quiet said) = Unit {0}
IsAsked (event.Returned serial) = Unit {0}
IsAsked (event.AgentError serial name) = Unit {0}
IsAsked event.Passed = Unit {0}
IsAsked _ = ⊥
