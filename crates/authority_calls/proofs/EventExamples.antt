-- What messages ask, worked out.
use Rattle.std.proofs.Common.{◌≡◌, false, true, List, [], ◌∷◌, ◌++◌, Some, None, refl}
use Rattle.std.specs.Prelude.{codes}
use Rattle.std.specs.Str.{is_utf8, chars}
use Rattle.std.specs.Char.{encode_utf8}
use Rattle.std.specs.Str.Lossy.{utf8_valid_len}
use Rattle.pk_types.specs.declared.values.Identity.{Identity}
use Rattle.pk_types.specs.declared.values.Subject.{Subject}
use Rattle.dbus_values.specs.Next.{Seen}
use Rattle.dbus_values.specs.Parts.{Piece, Number, Text, Enter, Leave, Variant}
use Rattle.authority_model.specs.declared.event.Call.TheVariants as call
use Rattle.authority_model.specs.declared.event.Event.TheVariants as event
use Rattle.authority_model.specs.declared.message.ErrorCause.{ErrorCause}
use Rattle.authority_model.specs.Words.{Bytes}
use Rattle.authority_calls.specs.declared.methods.TheConstants.{AUTHORITY, AUTHORITY_PATH}
use Rattle.authority_calls.specs.Arguments.{behind, many}
use Rattle.authority_calls.specs.Subjects.{subject, identity}
use Rattle.authority_calls.specs.Calls.{check, register, respond}
use Rattle.authority_calls.specs.Events.{event_of}

-- a call with the serial 1
abbrev call_to : Bytes → Bytes → Bytes → List Piece → Seen
call_to path member signature parts = record {
  kind = 1;
  flags = 0;
  serial = 1;
  path = Some path;
  interface = Some AUTHORITY.now;
  member = Some member;
  error_name = None;
  reply_serial = None;
  signature = signature;
  parts = parts;
}

-- a call to the authority
abbrev of_authority : Bytes → Bytes → List Piece → Seen
of_authority member signature parts = call_to AUTHORITY_PATH.now member signature parts

abbrev string : Bytes → Piece
string bytes = Text 115 bytes

-- an entry of a dictionary `a{sv}`
abbrev keyed : Bytes → Bytes → Piece → List Piece
keyed key signature value = Enter 123 ∷ string key ∷ Variant signature ∷ value ∷ Leave 123 ∷ []

-- a kind, and what it is known by
abbrev known_by : Bytes → List Piece → List Piece
known_by kind entries = Enter 40 ∷ string kind ∷ Enter 97 ∷ (entries ++ Leave 97 ∷ Leave 40 ∷ [])

-- the process 51 that started at 8
abbrev process : List Piece
process = known_by (codes "unix-process") (keyed (codes "pid") (codes "u") (Number 117 51) ++ keyed (codes "start-time") (codes "t") (Number 116 8))

-- the session s1
abbrev session : List Piece
session = known_by (codes "unix-session") (keyed (codes "session-id") (codes "s") (string (codes "s1")))

abbrev checking : List Piece
checking = process ++ (string (codes "a.yes") ∷ Enter 97 ∷ Leave 97 ∷ Number 117 0 ∷ string [] ∷ [])

checked : event_of (of_authority (codes "CheckAuthorization") (codes "(sa{sv})sa{ss}us") checking) ≡ event.Call 1 false (call.Check (Subject.Process 51 8) (codes "a.yes") [] 0 [])
unfolding check subject many behind utf8_valid_len is_utf8 chars encode_utf8
checked = refl

-- the same with a body of another signature
other_signature : event_of (of_authority (codes "CheckAuthorization") (codes "(sa{sv})sa{ss}u") checking) ≡ event.Call 1 false (call.Wrong ErrorCause.InvalidArgs)
other_signature = refl

-- the same to another object, and of another member
other_object : event_of (call_to (codes "/") (codes "CheckAuthorization") (codes "(sa{sv})sa{ss}us") checking) ≡ event.Call 1 false (call.Wrong ErrorCause.UnknownObject)
other_object = refl

other_member : event_of (of_authority (codes "Check") (codes "(sa{sv})sa{ss}us") checking) ≡ event.Call 1 false (call.Wrong ErrorCause.UnknownMethod)
other_member = refl

-- the same with a flag for no reply, and a cancellation id
cancellable : event_of (record (of_authority (codes "CheckAuthorization") (codes "(sa{sv})sa{ss}us") (process ++ (string (codes "a.yes") ∷ Enter 97 ∷ Leave 97 ∷ Number 117 1 ∷ string (codes "x") ∷ []))) { flags = 1 }) ≡ event.Call 1 true (call.Check (Subject.Process 51 8) (codes "a.yes") [] 1 (codes "x"))
unfolding check subject many behind utf8_valid_len is_utf8 chars encode_utf8
cancellable = refl

-- that check is cancelled
cancelled : event_of (of_authority (codes "CancelCheckAuthorization") (codes "s") (string (codes "x") ∷ [])) ≡ event.Call 1 false (call.Cancel (codes "x"))
unfolding utf8_valid_len is_utf8 chars encode_utf8
cancelled = refl

-- a pid that lacks, and one of another type
no_pid : event_of (of_authority (codes "RevokeTemporaryAuthorizations") (codes "(sa{sv})") (known_by (codes "unix-process") (keyed (codes "start-time") (codes "t") (Number 116 8)))) ≡ event.Call 1 false (call.Wrong ErrorCause.InvalidArgs)
unfolding subject many behind
no_pid = refl

long_pid : event_of (of_authority (codes "RevokeTemporaryAuthorizations") (codes "(sa{sv})") (known_by (codes "unix-process") (keyed (codes "pid") (codes "t") (Number 116 51) ++ keyed (codes "start-time") (codes "t") (Number 116 8)))) ≡ event.Call 1 false (call.Wrong ErrorCause.InvalidArgs)
unfolding subject many behind
long_pid = refl

-- agents, and what is not an object path
registered : event_of (of_authority (codes "RegisterAuthenticationAgent") (codes "(sa{sv})ss") (session ++ (string (codes "C") ∷ string (codes "/agent") ∷ []))) ≡ event.Call 1 false (call.Register (Subject.Session (codes "s1")) (codes "C") (codes "/agent"))
unfolding register subject many behind utf8_valid_len is_utf8 chars encode_utf8
registered = refl

no_path : event_of (of_authority (codes "RegisterAuthenticationAgent") (codes "(sa{sv})ss") (session ++ (string (codes "C") ∷ string (codes "agent") ∷ []))) ≡ event.Call 1 false (call.Wrong ErrorCause.InvalidArgs)
unfolding register subject many behind utf8_valid_len is_utf8 chars encode_utf8
no_path = refl

-- an answer to a dialogue, with a further key
responded : event_of (of_authority (codes "AuthenticationAgentResponse") (codes "s(sa{sv})") (string (codes "1-0") ∷ known_by (codes "unix-user") (keyed (codes "name") (codes "s") (string (codes "ann")) ++ keyed (codes "uid") (codes "u") (Number 117 1000)))) ≡ event.Call 1 false (call.Respond (codes "1-0") (Identity.User 1000))
unfolding respond identity many behind utf8_valid_len is_utf8 chars encode_utf8
responded = refl

-- temporary authorizations are revoked
all_revoked : event_of (of_authority (codes "RevokeTemporaryAuthorizations") (codes "(sa{sv})") process) ≡ event.Call 1 false (call.RevokeAll (Subject.Process 51 8))
unfolding subject many behind
all_revoked = refl

one_revoked : event_of (of_authority (codes "RevokeTemporaryAuthorizationById") (codes "s") (string (codes "tmpauthz0") ∷ [])) ≡ event.Call 1 false (call.RevokeOne (codes "tmpauthz0"))
unfolding utf8_valid_len is_utf8 chars encode_utf8
one_revoked = refl

-- an error that replies to the message with the serial 2, and a return
failed : event_of (record (of_authority [] [] []) { kind = 3; error_name = Some (codes "a.Fault"); reply_serial = Some 2 }) ≡ event.AgentError 2 (codes "a.Fault")
unfolding utf8_valid_len is_utf8 chars encode_utf8
failed = refl

returned : event_of (record (of_authority [] [] []) { kind = 2; reply_serial = Some 2 }) ≡ event.Returned 2
returned = refl
