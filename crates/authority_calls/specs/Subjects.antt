-- The structures Subject and Identity of the reference manual: a kind and a dictionary `(sa{sv})`.
use Rattle.std.specs.Prelude.{if◌then◌else◌, codes}
use Rattle.std.specs.Str.{bytes_eq}
use Rattle.pk_types.specs.declared.values.Subject.{Subject}
use Rattle.pk_types.specs.declared.values.Subject.TheVariants as subject_kind
use Rattle.pk_types.specs.declared.values.Identity.{Identity}
use Rattle.pk_types.specs.declared.values.Identity.TheVariants as identity_kind
use Rattle.authority_model.specs.Words.{Bytes}
use Rattle.authority_calls.specs.Arguments.{Reading, ◌>>=◌, given, out_of_form, chosen, as_text, as_u32, as_u64, as_bytes, as_enter, as_leave, part_as}
use Rattle.authority_calls.specs.Dictionaries.{one, two}

-- a process by its pid and its start time
abbrev pub process : Reading Subject
process = do
  (pid_value, start_value) ← two (codes "pid") (codes "start-time")
  pid ← chosen (as_u32 pid_value)
  start ← chosen (as_u64 start_value)
  given (subject_kind.Process pid start)

-- a session by its id
abbrev pub session : Reading Subject
session = do
  found ← one (codes "session-id")
  id ← chosen (as_text found)
  given (subject_kind.Session id)

-- a connection by its name
abbrev pub bus_name : Reading Subject
bus_name = do
  found ← one (codes "name")
  name ← chosen (as_text found)
  given (subject_kind.BusName name)

-- a subject of a kind
abbrev pub subject_of : Bytes → Reading Subject
subject_of kind =
    if bytes_eq kind (codes "unix-process") then process else
    (if bytes_eq kind (codes "unix-session") then session else
    (if bytes_eq kind (codes "system-bus-name") then bus_name else out_of_form))

unfoldable pub subject : Reading Subject
subject = do
  begins ← part_as as_enter
  kind ← part_as as_bytes
  value ← subject_of kind
  ends ← part_as as_leave
  given value

-- a user by its uid
abbrev pub user : Reading Identity
user = do
  found ← one (codes "uid")
  uid ← chosen (as_u32 found)
  given (identity_kind.User uid)

-- a group by its gid
abbrev pub group : Reading Identity
group = do
  found ← one (codes "gid")
  gid ← chosen (as_u32 found)
  given (identity_kind.Group gid)

-- an identity of a kind
abbrev pub identity_of : Bytes → Reading Identity
identity_of kind =
    if bytes_eq kind (codes "unix-user") then user else
    (if bytes_eq kind (codes "unix-group") then group else out_of_form)

unfoldable pub identity : Reading Identity
identity = do
  begins ← part_as as_enter
  kind ← part_as as_bytes
  value ← identity_of kind
  ends ← part_as as_leave
  given value
