-- The calls of the methods, by their arguments.
use Rattle.authority_model.specs.declared.event.Call.{Call}
use Rattle.authority_model.specs.declared.event.Call.TheVariants as call
use Rattle.authority_calls.specs.declared.methods.Method.{Method}
use Rattle.authority_calls.specs.declared.methods.Method.TheVariants as method
use Rattle.authority_calls.specs.Arguments.{Reading, ◌>>=◌, given, text, uint32, uint64, path}
use Rattle.authority_calls.specs.Dictionaries.{pairs}
use Rattle.authority_calls.specs.Subjects.{subject, identity}

-- CheckAuthorization: a subject, an action id, details, flags and a cancellation id
unfoldable pub check : Reading Call
check = do
  who ← subject
  action ← text
  details ← pairs
  flags ← uint32
  cancel ← text
  given (call.Check who action details flags cancel)

-- RegisterAuthenticationAgent: a subject, a locale and the agent's object path
unfoldable pub register : Reading Call
register = do
  who ← subject
  locale ← text
  at ← path
  given (call.Register who locale at)

-- UnregisterAuthenticationAgent: a subject and the agent's object path
unfoldable pub unregister : Reading Call
unregister = do
  who ← subject
  at ← path
  given (call.Unregister who at)

-- AuthenticationAgentResponse: a cookie and an identity
unfoldable pub respond : Reading Call
respond = do
  cookie ← text
  who ← identity
  given (call.Respond cookie who)

-- Announce: a pid and a start time
unfoldable pub announce : Reading Call
announce = do
  pid ← uint32
  start ← uint64
  given (call.Announce pid start)

-- the call of a method
abbrev pub arguments : Method → Reading Call
arguments method.CheckAuthorization = check
arguments method.CancelCheckAuthorization = text >>= λ id. given (call.Cancel id)
arguments method.RegisterAuthenticationAgent = register
arguments method.UnregisterAuthenticationAgent = unregister
arguments method.AuthenticationAgentResponse = respond
arguments method.EnumerateActions = text >>= λ locale. given (call.EnumerateActions locale)
arguments method.EnumerateTemporaryAuthorizations = subject >>= λ who. given (call.EnumerateGrants who)
arguments method.RevokeTemporaryAuthorizations = subject >>= λ who. given (call.RevokeAll who)
arguments method.RevokeTemporaryAuthorizationById = text >>= λ id. given (call.RevokeOne id)
arguments method.Announce = announce
arguments method.Reload = given call.Reload
