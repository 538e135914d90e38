-- Which message each call of a client is.
use Rattle.std.specs.Prelude.{List, [], ◌∷◌, Option, Some, None, codes}
use Rattle.std.specs.Option.{option_map_or}
use Rattle.pk_types.specs.declared.values.Subject.{Subject}
use Rattle.dbus_values.specs.Trees.{Tree}
use Rattle.authority_model.specs.declared.event.Call.{Call}
use Rattle.authority_model.specs.declared.event.Call.TheVariants as call
use Rattle.authority_calls.specs.declared.methods.Method.{Method}
use Rattle.authority_calls.specs.declared.methods.Method.TheVariants as method
use Rattle.authority_calls.specs.declared.methods.TheConstants.{AUTHORITY_PATH}
use Rattle.authority_calls.specs.Methods.{row_of}
use Rattle.authority_messages.specs.Values.{string, uint32, uint64, pairs, keyed, known_by, identity}
use Rattle.authority_messages.specs.Outgoing.{Outgoing, call_at, nothing}

-- Subject of the reference manual
abbrev pub subject : Subject → Tree
subject (Subject.Process pid start) = known_by (codes "unix-process") (keyed (codes "pid") (uint32 pid) ∷ keyed (codes "start-time") (uint64 start) ∷ [])
subject (Subject.Session id) = known_by (codes "unix-session") (keyed (codes "session-id") (string id) ∷ [])
subject (Subject.BusName name) = known_by (codes "system-bus-name") (keyed (codes "name") (string name) ∷ [])

-- a call of a method with these arguments, to which a reply is expected
abbrev pub calling : Method → List Tree → Outgoing
calling asked values = call_at 0 AUTHORITY_PATH.now (row_of asked).interface (row_of asked).name values

-- the method of a call
abbrev pub method_of : Call → Option Method
method_of (call.Check who action details flags cancel) = Some method.CheckAuthorization
method_of (call.Cancel id) = Some method.CancelCheckAuthorization
method_of (call.Register who locale path) = Some method.RegisterAuthenticationAgent
method_of (call.Unregister who path) = Some method.UnregisterAuthenticationAgent
method_of (call.Respond cookie who) = Some method.AuthenticationAgentResponse
method_of (call.EnumerateActions locale) = Some method.EnumerateActions
method_of (call.EnumerateGrants who) = Some method.EnumerateTemporaryAuthorizations
method_of (call.RevokeAll who) = Some method.RevokeTemporaryAuthorizations
method_of (call.RevokeOne id) = Some method.RevokeTemporaryAuthorizationById
method_of (call.Announce pid start) = Some method.Announce
method_of call.Reload = Some method.Reload
method_of (call.Wrong cause) = None

-- its arguments
abbrev pub arguments_of : Call → List Tree
arguments_of (call.Check who action details flags cancel) = subject who ∷ string action ∷ pairs details ∷ uint32 flags ∷ string cancel ∷ []
arguments_of (call.Cancel id) = string id ∷ []
arguments_of (call.Register who locale path) = subject who ∷ string locale ∷ string path ∷ []
arguments_of (call.Unregister who path) = subject who ∷ string path ∷ []
arguments_of (call.Respond cookie who) = string cookie ∷ identity who ∷ []
arguments_of (call.EnumerateActions locale) = string locale ∷ []
arguments_of (call.EnumerateGrants who) = subject who ∷ []
arguments_of (call.RevokeAll who) = subject who ∷ []
arguments_of (call.RevokeOne id) = string id ∷ []
arguments_of (call.Announce pid start) = uint32 pid ∷ uint64 start ∷ []
arguments_of call.Reload = []
arguments_of (call.Wrong cause) = []

-- The message of a call. A call that is not one of a method has none.
abbrev pub call_for : Call → Outgoing
call_for said = option_map_or (λ asked. calling asked (arguments_of said)) (method_of said) nothing
