-- The lines that make an event of a connection, by the words after the first.
use Rattle.std.specs.Prelude.{ℕ, false, List, [], ◌∷◌, length, nat_lt, Option, None, Some, Result, Ok, Err, codes, if◌then◌else◌}
use Rattle.std.specs.Str.{bytes_eq}
use Rattle.authority_model.specs.declared.event.Call.{Call}
use Rattle.authority_model.specs.declared.event.Call.TheVariants as call
use Rattle.authority_model.specs.declared.event.Event.{Event}
use Rattle.authority_model.specs.declared.event.Event.TheVariants as event
use Rattle.authority_model.specs.declared.interaction.TheConstants.{ALLOW_USER_INTERACTION}
use Rattle.pk_types.specs.declared.values.Subject.{Subject}
use Rattle.authority_model.specs.Words.{after_front}
use Rattle.scenario_text.specs.declared.fault.LineKind.{LineKind}
use Rattle.scenario_text.specs.declared.fault.LineKind.TheVariants as kind
use Rattle.scenario_text.specs.declared.first_word.CallerWord.{CallerWord}
use Rattle.scenario_text.specs.declared.first_word.CallerWord.TheVariants as caller_word
use Rattle.scenario_text.specs.declared.check_options.CheckOptions.{CheckOptions}
use Rattle.scenario_text.specs.declared.step.Step.{Step}
use Rattle.scenario_text.specs.declared.step.Step.TheVariants as step
use Rattle.scenario_text.specs.Faults.{◌>>=◌}
use Rattle.scenario_text.specs.Words.{number_32_in, number_64_in, caller_in, serial_in, text_in}
use Rattle.scenario_text.specs.Subjects.{subject_in, identity_in}

-- an event that speaks of a serial
abbrev pub serial_event : List ℕ → List ℕ → (ℕ → Event) → Result Step LineKind
serial_event caller serial event = do
  c ← caller_in caller
  s ← serial_in serial
  Ok (step.Act c (event s))

-- a call, which wants its reply
abbrev pub call_event : List ℕ → List ℕ → Result Call LineKind → Result Step LineKind
call_event caller serial said = do
  c ← caller_in caller
  s ← serial_in serial
  what ← said
  Ok (step.Act c (event.Call s false what))

-- peer N UID
abbrev pub peer_line : List (List ℕ) → Result Step LineKind
peer_line (caller ∷ uid ∷ []) = do
  c ← caller_in caller
  u ← number_32_in uid
  Ok (step.Act c (event.Connect u))
peer_line other = Err kind.Count

-- depart N
abbrev pub depart_line : List (List ℕ) → Result Step LineKind
depart_line (caller ∷ []) = do
  c ← caller_in caller
  Ok (step.Act c event.Depart)
depart_line other = Err kind.Count

-- the process that a connection says it is
abbrev pub announce_call : List ℕ → List ℕ → Result Call LineKind
announce_call pid start = do
  p ← number_32_in pid
  s ← number_64_in start
  Ok (call.Announce p s)

-- announce N S PID START
abbrev pub announce_line : List (List ℕ) → Result Step LineKind
announce_line (caller ∷ serial ∷ pid ∷ start ∷ []) = call_event caller serial (announce_call pid start)
announce_line other = Err kind.Count

-- no flags and no cancellation id
abbrev pub no_options : CheckOptions
no_options = record { flags = 0; cancel = [] }

-- `ask` is flag bit 0
abbrev pub asking : CheckOptions
asking = record { flags = ALLOW_USER_INTERACTION; cancel = [] }

-- the options with this cancellation id
abbrev pub with_cancel : CheckOptions → Result (List ℕ) LineKind → Result CheckOptions LineKind
with_cancel options id = id >>= (λ text. Ok (record options { cancel = text }))

-- a cancellation id by what comes after `cancel=`
abbrev pub cancel_of : Option (List ℕ) → Result (List ℕ) LineKind
cancel_of None = Err kind.Value
cancel_of (Some id) = text_in id

-- cancel=ID
unfoldable pub cancel_in : List ℕ → Result (List ℕ) LineKind
cancel_in word = cancel_of (after_front (codes "cancel=") word)

-- the words after the action of a check: none, `ask`, `cancel=ID` or both in this order
abbrev pub options_in : List (List ℕ) → Result CheckOptions LineKind
options_in [] = Ok no_options
options_in (word ∷ []) = if bytes_eq word (codes "ask") then Ok asking else with_cancel no_options (cancel_in word)
options_in (word ∷ id ∷ []) = if bytes_eq word (codes "ask") then with_cancel asking (cancel_in id) else Err kind.Value
options_in other = Err kind.Value

-- whether a subject may do an action
abbrev pub check_call : List ℕ → List ℕ → List (List ℕ) → Result Call LineKind
check_call subject action more = do
  b ← subject_in subject
  a ← text_in action
  o ← options_in more
  Ok (call.Check b a [] o.flags o.cancel)

-- the event of a check
unfoldable pub check_event : List ℕ → List ℕ → List ℕ → List ℕ → List (List ℕ) → Result Step LineKind
check_event caller serial subject action more = call_event caller serial (check_call subject action more)

-- check N S SUBJECT ACTION, and at most two words after them
abbrev pub check_line : List (List ℕ) → Result Step LineKind
check_line (caller ∷ serial ∷ subject ∷ action ∷ more) =
    if nat_lt 2 (length more) then Err kind.Count else check_event caller serial subject action more
check_line other = Err kind.Count

-- a call with one text
abbrev pub text_call : (List ℕ → Call) → List ℕ → Result Call LineKind
text_call said text = do
  t ← text_in text
  Ok (said t)

-- cancel N S ID
abbrev pub cancel_line : List (List ℕ) → Result Step LineKind
cancel_line (caller ∷ serial ∷ id ∷ []) = call_event caller serial (text_call call.Cancel id)
cancel_line other = Err kind.Count

-- an agent for a subject, with the locale C
abbrev pub register_call : List ℕ → List ℕ → Result Call LineKind
register_call subject path = do
  b ← subject_in subject
  p ← text_in path
  Ok (call.Register b (codes "C") p)

-- register N S SUBJECT PATH
abbrev pub register_line : List (List ℕ) → Result Step LineKind
register_line (caller ∷ serial ∷ subject ∷ path ∷ []) = call_event caller serial (register_call subject path)
register_line other = Err kind.Count

-- an agent of a subject is unregistered
abbrev pub unregister_call : List ℕ → List ℕ → Result Call LineKind
unregister_call subject path = do
  b ← subject_in subject
  p ← text_in path
  Ok (call.Unregister b p)

-- unregister N S SUBJECT PATH
abbrev pub unregister_line : List (List ℕ) → Result Step LineKind
unregister_line (caller ∷ serial ∷ subject ∷ path ∷ []) = call_event caller serial (unregister_call subject path)
unregister_line other = Err kind.Count

-- an identity was authenticated, whose number is read first
abbrev pub respond_call : List ℕ → List ℕ → Result Call LineKind
respond_call cookie identity = do
  i ← identity_in identity
  c ← text_in cookie
  Ok (call.Respond c i)

-- respond N S COOKIE user:UID
abbrev pub respond_line : List (List ℕ) → Result Step LineKind
respond_line (caller ∷ serial ∷ cookie ∷ identity ∷ []) = call_event caller serial (respond_call cookie identity)
respond_line other = Err kind.Count

-- return N S
abbrev pub return_line : List (List ℕ) → Result Step LineKind
return_line (caller ∷ serial ∷ []) = serial_event caller serial event.Returned
return_line other = Err kind.Count

-- the reply with an error of this name
abbrev pub error_named : List ℕ → ℕ → Event
error_named name serial = event.AgentError serial name

-- N S, to which an agent replies with the error of this name
abbrev pub error_line : List ℕ → List (List ℕ) → Result Step LineKind
error_line name (caller ∷ serial ∷ []) = serial_event caller serial (error_named name)
error_line name other = Err kind.Count

-- dismiss N S
abbrev pub dismiss_line : List (List ℕ) → Result Step LineKind
dismiss_line args = error_line (codes "org.freedesktop.PolicyKit1.Error.Cancelled") args

-- fail N S
abbrev pub fail_line : List (List ℕ) → Result Step LineKind
fail_line args = error_line (codes "org.freedesktop.PolicyKit1.Error.Failed") args

-- actions N S LOCALE
abbrev pub actions_line : List (List ℕ) → Result Step LineKind
actions_line (caller ∷ serial ∷ locale ∷ []) = call_event caller serial (text_call call.EnumerateActions locale)
actions_line other = Err kind.Count

-- a call with one subject
abbrev pub subject_call : (Subject → Call) → List ℕ → Result Call LineKind
subject_call said subject = do
  b ← subject_in subject
  Ok (said b)

-- grants N S SUBJECT
abbrev pub grants_line : List (List ℕ) → Result Step LineKind
grants_line (caller ∷ serial ∷ subject ∷ []) = call_event caller serial (subject_call call.EnumerateGrants subject)
grants_line other = Err kind.Count

-- revoke N S SUBJECT
abbrev pub revoke_line : List (List ℕ) → Result Step LineKind
revoke_line (caller ∷ serial ∷ subject ∷ []) = call_event caller serial (subject_call call.RevokeAll subject)
revoke_line other = Err kind.Count

-- revoke-id N S ID
abbrev pub revoke_id_line : List (List ℕ) → Result Step LineKind
revoke_id_line (caller ∷ serial ∷ id ∷ []) = call_event caller serial (text_call call.RevokeOne id)
revoke_id_line other = Err kind.Count

-- a line of a connection by its first word and the words after it
abbrev pub caller_line : CallerWord → List (List ℕ) → Result Step LineKind
caller_line caller_word.Peer args = peer_line args
caller_line caller_word.Depart args = depart_line args
caller_line caller_word.Announce args = announce_line args
caller_line caller_word.Check args = check_line args
caller_line caller_word.Cancel args = cancel_line args
caller_line caller_word.Register args = register_line args
caller_line caller_word.Unregister args = unregister_line args
caller_line caller_word.Respond args = respond_line args
caller_line caller_word.Return args = return_line args
caller_line caller_word.Dismiss args = dismiss_line args
caller_line caller_word.Fail args = fail_line args
caller_line caller_word.Actions args = actions_line args
caller_line caller_word.Grants args = grants_line args
caller_line caller_word.Revoke args = revoke_line args
caller_line caller_word.RevokeId args = revoke_id_line args
