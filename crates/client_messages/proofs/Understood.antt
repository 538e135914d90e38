-- What a call that was written asks, and what an agent's reply is.
use Rattle.std.proofs.Common.{◌≡◌, ℕ, ◌+◌, ◌<◌, ◌≤◌, List, [], ◌∷◌, ◌++◌, map, length, Bool, true, false, Option, Some, None, IsSome, refl, ap, ◌∙◌, arith, length-append}
use Rattle.std.proofs.lemmas.Bool.{ltb-false}
use Rattle.std.specs.Prelude.{if◌then◌else◌, codes, unwrap_or}
use Rattle.std.specs.Option.{option_map_or}
use Rattle.std.specs.Int.{w32}
use Rattle.pk_types.specs.Text.{IsText}
use Rattle.pk_types.specs.declared.values.Identity.{Identity}
use Rattle.pk_types.specs.declared.values.Pair.{Pair}
use Rattle.pk_types.specs.declared.values.Subject.{Subject}
use Rattle.dbus_values.specs.Basics.{gap, is_path}
use Rattle.dbus_values.specs.Header.{Header, no_fields}
use Rattle.dbus_values.specs.Next.{Seen}
use Rattle.dbus_values.specs.Parts.{Piece}
use Rattle.dbus_values.specs.Parts as part
use Rattle.dbus_values.specs.Trees.{Tree, Trees, more, types_of, pieces, all_pieces, bytes_of, padding, marshalled, all_marshalled}
use Rattle.dbus_values.specs.Form.{header_from, fields_bytes, shown_of}
use Rattle.dbus_values.specs.Written.{signature_field}
use Rattle.dbus_values.proofs.Numbers.{wide32}
use Rattle.dbus_values.proofs.Sending.{message_length}
use Rattle.authority_model.specs.declared.event.Call.{Call}
use Rattle.authority_model.specs.declared.event.Call.TheVariants as call
use Rattle.authority_model.specs.declared.event.Event.TheVariants as event
use Rattle.authority_model.specs.declared.message.ErrorCause.{ErrorCause}
use Rattle.authority_model.specs.Answers.{cancelled_name}
use Rattle.authority_model.specs.Words.{Bytes}
use Rattle.authority_calls.specs.declared.methods.Method.{Method}
use Rattle.authority_calls.specs.declared.methods.Method.TheVariants as method
use Rattle.authority_calls.specs.declared.methods.TheConstants.{AUTHORITY_PATH}
use Rattle.authority_calls.specs.Methods.{row_of}
use Rattle.authority_calls.specs.Arguments.{go_on, given, out_of_form, text, path}
use Rattle.authority_calls.specs.Subjects.{subject as subject_reading}
use Rattle.authority_calls.specs.Calls.{check, register, unregister, respond, announce, arguments}
use Rattle.authority_calls.specs.Events.{event_of}
use Rattle.authority_messages.specs.Values.{row, string, uint32 as uint32_tree, pair, pairs as pairs_tree, identity}
use Rattle.authority_messages.specs.Outgoing.{Outgoing, under, error_to}
use Rattle.authority_messages.specs.Messages.{is_over}
use Rattle.authority_messages.proofs.Plain.{plain_text}
use Rattle.client_messages.specs.declared.agent.AgentReply.{AgentReply}
use Rattle.client_messages.specs.declared.agent.AgentReply.TheVariants as reply
use Rattle.client_messages.specs.Calls.{subject, calling, method_of, arguments_of, call_for}
use Rattle.client_messages.specs.Agents.{reply_for}
use Rattle.client_messages.specs.Told.{SubjectInRange, CallInRange, understood, event_for}
use Rattle.client_messages.proofs.Calling.{typed}
use Rattle.client_messages.proofs.Reading.{after, text_ok, text_read, uint32_read, pairs_read, subject_read, identity_read}

-- ---- a call as it is shown

-- a call of this interface and this member, to the authority
abbrev call_seen : ℕ → Bytes → Bytes → Bytes → List Piece → Seen
call_seen serial interface member signature parts = record {
  kind = 1;
  flags = 0;
  serial = serial;
  path = Some AUTHORITY_PATH.now;
  interface = Some interface;
  member = Some member;
  error_name = None;
  reply_serial = None;
  signature = signature;
  parts = parts;
}

-- a message with this header
abbrev seen_with : ℕ → Header → Bytes → List Piece → Seen
seen_with serial h signature parts = record {
  kind = 1;
  flags = 0;
  serial = serial;
  path = h.path;
  interface = h.interface;
  member = h.member;
  error_name = h.error_name;
  reply_serial = h.reply_serial;
  signature = signature;
  parts = parts;
}

abbrev member_header : Bytes → Bytes → Header
member_header interface member = record no_fields { path = Some AUTHORITY_PATH.now; interface = Some interface; member = Some member }

-- SIGNATURE changes nothing else
seen_same : (serial : ℕ) (interface member sig signature : Bytes) (parts : List Piece) → seen_with serial (header_from (member_header interface member) (signature_field sig)) signature parts ≡ call_seen serial interface member signature parts
seen_same serial interface member [] signature parts = refl
seen_same serial interface member (c ∷ sig) signature parts = refl

shown : (serial : ℕ) (asked : Method) (values : List Tree) → shown_of (under serial (calling asked values)) ≡ call_seen serial (row_of asked).interface (row_of asked).name (types_of (row values)) (all_pieces (row values))
shown serial asked values = seen_same serial (row_of asked).interface (row_of asked).name (types_of (row values)) (types_of (row values)) (all_pieces (row values))

-- what was read; what is out of form has wrong arguments
abbrev judged : Option (Call × List Piece) → Call
judged r = option_map_or (λ x. x.0) r (call.Wrong ErrorCause.InvalidArgs)

-- each row of the table is found again
asked_event : (asked : Method) (serial : ℕ) (parts : List Piece) → event_of (call_seen serial (row_of asked).interface (row_of asked).name (row_of asked).takes parts) ≡ event.Call serial false (judged (arguments asked parts))
asked_event method.CheckAuthorization serial parts = refl
asked_event method.CancelCheckAuthorization serial parts = refl
asked_event method.RegisterAuthenticationAgent serial parts = refl
asked_event method.UnregisterAuthenticationAgent serial parts = refl
asked_event method.AuthenticationAgentResponse serial parts = refl
asked_event method.EnumerateActions serial parts = refl
asked_event method.EnumerateTemporaryAuthorizations serial parts = refl
asked_event method.RevokeTemporaryAuthorizations serial parts = refl
asked_event method.RevokeTemporaryAuthorizationById serial parts = refl
asked_event method.Announce serial parts = refl
asked_event method.Reload serial parts = refl

-- ---- a message that is not too long has few pairs

entry_size : (big : Bool) (p : Pair) (at : ℕ) → 1 ≤ length (marshalled big at (pair p))
entry_size big p at =
    let here = at + gap 8 at in
    let k = marshalled big here (string p.key) in
    let v = marshalled big (here + length k) (string p.value) in
    let text = bytes_of big w32 (length p.key) in
    omega (arith, length-append (padding (gap 8 at)) (k ++ v), length-append k v, length-append (padding (gap 4 here)) (text ++ (p.key ++ 0 ∷ [])), length-append text (p.key ++ 0 ∷ []), wide32.len big (length p.key))

pairs_size : (big : Bool) (ps : List Pair) (at : ℕ) → length ps ≤ length (all_marshalled big at (row (map pair ps)))
pairs_size big [] at = omega arith
pairs_size big (p ∷ ps) at =
    let a = marshalled big at (pair p) in
    omega (arith, length-append a (all_marshalled big (at + length a) (row (map pair ps))), entry_size big p at, pairs_size big ps (at + length a))

pub dictionary_size : (big : Bool) (ps : List Pair) (at : ℕ) → length ps ≤ length (marshalled big at (pairs_tree ps))
dictionary_size big ps at =
    let start = at + gap 4 at + 4 + gap 8 (at + gap 4 at + 4) in
    let items = all_marshalled big start (row (map pair ps)) in
    let size = bytes_of big w32 (length items) in
    let pad = padding (gap 8 (at + gap 4 at + 4)) in
    omega (arith, length-append (padding (gap 4 at)) (size ++ (pad ++ items)), length-append size (pad ++ items), length-append pad items, pairs_size big ps start)

-- what stands among values is no longer than they are
pub first_size : (big : Bool) (n : ℕ) (t : Tree) (ts : Trees) → ((at : ℕ) → n ≤ length (marshalled big at t)) → (at : ℕ) → n ≤ length (all_marshalled big at (more t ts))
first_size big n t ts le at = let a = marshalled big at t in omega (arith, length-append a (all_marshalled big (at + length a) ts), le at)

pub later_size : (big : Bool) (n : ℕ) (t : Tree) (ts : Trees) → ((at : ℕ) → n ≤ length (all_marshalled big at ts)) → (at : ℕ) → n ≤ length (all_marshalled big at (more t ts))
later_size big n t ts le at = let a = marshalled big at t in omega (arith, length-append a (all_marshalled big (at + length a) ts), le (at + length a))

pub few_in : (o : Outgoing) (n : ℕ) → ((at : ℕ) → n ≤ length (all_marshalled false at o.body)) → is_over o ≡ false → n < 4294967296
few_in o n le fits =
    let m = under 1 o in
    let F = length (fields_bytes false 16 m.fields) in
    omega (arith, ltb-false _ _ fits, message_length m, le (16 + F + gap 8 (16 + F)))

-- ---- the arguments are read again

-- a path of an agent
path_read : (p : Bytes) → IsText p → path (part.Text 115 p ∷ []) ≡ (if is_path p then Some (p, []) else None)
path_read p is = ap (go_on (λ (bytes : Bytes). if is_path bytes then given bytes else out_of_form)) (text_read p [] is) ∙ by (is_path p)
  where
    by : (b : Bool) → (if b then given p else out_of_form) [] ≡ (if b then Some (p, []) else None)
    by true = refl
    by false = refl

path_judged : (p : Bytes) (b : Bool) (make : Bytes → Call) → judged (go_on (λ (at : Bytes). given (make at)) (if b then Some (p, []) else None)) ≡ (if b then make p else call.Wrong ErrorCause.InvalidArgs)
path_judged p true make = refl
path_judged p false make = refl

check_read : (who : Subject) (action : Bytes) (details : List Pair) (flags : ℕ) (cancel : Bytes) → length details < 4294967296 → CallInRange (call.Check who action details flags cancel)
    → check (all_pieces (row (arguments_of (call.Check who action details flags cancel)))) ≡ Some (call.Check who action details flags cancel, [])
unfolding check
check_read who action details flags cancel few range =
    let behind_flags : List Piece = part.Text 115 cancel ∷ [] in
    let behind_details : List Piece = part.Number 117 flags ∷ behind_flags in
    let behind_action : List Piece = pieces (pairs_tree details) ++ behind_details in
    let behind_subject : List Piece = part.Text 115 action ∷ behind_action in
    after _ _ (subject_read who behind_subject range.0)
    (after _ _ (text_read action behind_action range.1)
    (after _ _ (pairs_read details behind_details few range.2)
    (after _ _ (uint32_read flags behind_flags range.3)
    (after _ _ (text_read cancel [] range.4) refl))))

register_read : (who : Subject) (locale p : Bytes) → CallInRange (call.Register who locale p) → judged (register (all_pieces (row (arguments_of (call.Register who locale p))))) ≡ understood (call.Register who locale p)
unfolding register
register_read who locale p range =
    ap judged (after _ _ (subject_read who (part.Text 115 locale ∷ part.Text 115 p ∷ []) range.0)
    (after _ _ (text_read locale (part.Text 115 p ∷ []) range.1)
    (ap (go_on (λ (at : Bytes). given (call.Register who locale at))) (path_read p range.2))))
    ∙ path_judged p (is_path p) (call.Register who locale)

unregister_read : (who : Subject) (p : Bytes) → CallInRange (call.Unregister who p) → judged (unregister (all_pieces (row (arguments_of (call.Unregister who p))))) ≡ understood (call.Unregister who p)
unfolding unregister
unregister_read who p range =
    ap judged (after _ _ (subject_read who (part.Text 115 p ∷ []) range.0)
    (ap (go_on (λ (at : Bytes). given (call.Unregister who at))) (path_read p range.1)))
    ∙ path_judged p (is_path p) (call.Unregister who)

respond_read : (cookie : Bytes) (who : Identity) → CallInRange (call.Respond cookie who) → respond (all_pieces (row (arguments_of (call.Respond cookie who)))) ≡ Some (call.Respond cookie who, [])
unfolding respond
respond_read cookie who range = after _ _ (text_read cookie (pieces (identity who) ++ []) range.0) (after _ _ (identity_read who [] range.1) refl)

announce_read : (pid start : ℕ) → CallInRange (call.Announce pid start) → announce (all_pieces (row (arguments_of (call.Announce pid start)))) ≡ Some (call.Announce pid start, [])
unfolding announce
announce_read pid start range = after _ _ (uint32_read pid (part.Number 116 start ∷ []) range) refl

-- a call of one text, and one of one subject
one_text : (make : Bytes → Call) (t : Bytes) → IsText t → go_on (λ (id : Bytes). given (make id)) (text (part.Text 115 t ∷ [])) ≡ Some (make t, [])
one_text make t is = ap (go_on (λ (id : Bytes). given (make id))) (text_read t [] is)

one_subject : (make : Subject → Call) (who : Subject) → SubjectInRange who → go_on (λ (s : Subject). given (make s)) (subject_reading (pieces (subject who) ++ [])) ≡ Some (make who, [])
one_subject make who range = ap (go_on (λ (s : Subject). given (make s))) (subject_read who [] range)

-- ---- what a call asks

asks : (asked : Method) (said : Call) (serial : ℕ) → types_of (row (arguments_of said)) ≡ (row_of asked).takes → judged (arguments asked (all_pieces (row (arguments_of said)))) ≡ understood said
    → event_of (shown_of (under serial (calling asked (arguments_of said)))) ≡ event.Call serial false (understood said)
asks asked said serial types read =
    ap event_of (shown serial asked (arguments_of said))
    ∙ ap (λ (t : Bytes). event_of (call_seen serial (row_of asked).interface (row_of asked).name t (all_pieces (row (arguments_of said))))) types
    ∙ asked_event asked serial (all_pieces (row (arguments_of said)))
    ∙ ap (λ (c : Call). event.Call serial false c) read

pub call_understood : (said : Call) (serial : ℕ) → IsSome (method_of said) → is_over (call_for said) ≡ false → CallInRange said → event_of (shown_of (under serial (call_for said))) ≡ event.Call serial false (understood said)
call_understood (call.Check who action details flags cancel) serial some fits range =
    let rest = row (uint32_tree flags ∷ string cancel ∷ []) in
    let few : length details < 4294967296 =
    few_in (call_for (call.Check who action details flags cancel)) (length details)
    (later_size false (length details) (subject who) (row (string action ∷ pairs_tree details ∷ uint32_tree flags ∷ string cancel ∷ []))
    (later_size false (length details) (string action) (row (pairs_tree details ∷ uint32_tree flags ∷ string cancel ∷ []))
    (first_size false (length details) (pairs_tree details) rest (dictionary_size false details)))) fits in
    asks method.CheckAuthorization (call.Check who action details flags cancel) serial (typed (call.Check who action details flags cancel)) (ap judged (check_read who action details flags cancel few range))
call_understood (call.Cancel id) serial some fits range = asks method.CancelCheckAuthorization (call.Cancel id) serial refl (ap judged (one_text call.Cancel id range))
call_understood (call.Register who locale p) serial some fits range = asks method.RegisterAuthenticationAgent (call.Register who locale p) serial (typed (call.Register who locale p)) (register_read who locale p range)
call_understood (call.Unregister who p) serial some fits range = asks method.UnregisterAuthenticationAgent (call.Unregister who p) serial (typed (call.Unregister who p)) (unregister_read who p range)
call_understood (call.Respond cookie who) serial some fits range = asks method.AuthenticationAgentResponse (call.Respond cookie who) serial (typed (call.Respond cookie who)) (ap judged (respond_read cookie who range))
call_understood (call.EnumerateActions locale) serial some fits range = asks method.EnumerateActions (call.EnumerateActions locale) serial refl (ap judged (one_text call.EnumerateActions locale range))
call_understood (call.EnumerateGrants who) serial some fits range = asks method.EnumerateTemporaryAuthorizations (call.EnumerateGrants who) serial (typed (call.EnumerateGrants who)) (ap judged (one_subject call.EnumerateGrants who range))
call_understood (call.RevokeAll who) serial some fits range = asks method.RevokeTemporaryAuthorizations (call.RevokeAll who) serial (typed (call.RevokeAll who)) (ap judged (one_subject call.RevokeAll who range))
call_understood (call.RevokeOne id) serial some fits range = asks method.RevokeTemporaryAuthorizationById (call.RevokeOne id) serial refl (ap judged (one_text call.RevokeOne id range))
call_understood (call.Announce pid start) serial some fits range = asks method.Announce (call.Announce pid start) serial refl (ap judged (announce_read pid start range))
call_understood call.Reload serial some fits range = asks method.Reload call.Reload serial refl refl
call_understood (call.Wrong cause) serial some fits range = absurd (cc)

-- ---- what an agent's reply is

error_event : (to serial : ℕ) (name said : Bytes) → IsText name → event_of (shown_of (under serial (error_to to name said))) ≡ event.AgentError to name
error_event to serial name said is = ap (λ (o : Option Bytes). event.AgentError to (unwrap_or o [])) (text_ok name is)

pub reply_replied : (said : AgentReply) (to serial : ℕ) → event_of (shown_of (under serial (reply_for said to))) ≡ event_for said to
reply_replied reply.Return to serial = refl
reply_replied reply.Failed to serial = error_event to serial (codes "org.freedesktop.PolicyKit1.Error.Failed") (codes "failed") (plain_text (codes "org.freedesktop.PolicyKit1.Error.Failed") refl)
reply_replied reply.Cancelled to serial = error_event to serial cancelled_name (codes "dismissed") (plain_text cancelled_name refl)
