-- How the messages of the two other sides are built.
use Rattle.std.proofs.Common.{◌≡◌, ℕ, ◌+◌, ◌<◌, ◌≤◌, ◌^◌, List, [], ◌∷◌, ◌++◌, length, true, Option, Some, None, Result, Ok, Err, IfOk, refl, ap, ◌∙◌, arith, lit≤}
use Rattle.std.specs.Prelude.{codes}
use Rattle.pk_types.specs.declared.values.Subject.{Subject}
use Rattle.dbus_values.specs.declared.value.ValueList.{ValueList}
use Rattle.dbus_values.specs.declared.wire_out.WireOut.{WireOut}
use Rattle.dbus_values.specs.Signatures.{type_end, members_end, are_types, is_signature}
use Rattle.dbus_values.specs.Trees.{Tree, none, type_of, types_of}
use Rattle.authority_model.specs.declared.event.Call.{Call}
use Rattle.authority_model.specs.declared.event.Call.TheVariants as call
use Rattle.authority_model.specs.Words.{Bytes}
use Rattle.authority_calls.specs.declared.methods.Method.{Method}
use Rattle.authority_calls.specs.declared.methods.Method.TheVariants as method
use Rattle.authority_calls.specs.Methods.{row_of}
use Rattle.authority_messages.specs.Plain.{is_plain}
use Rattle.authority_messages.specs.Values.{row, string}
use Rattle.authority_messages.specs.Built.{Rows}
use Rattle.authority_messages.specs.Outgoing.{outgoing, under, return_to, error_to, MayBeSent, IsSent}
use Rattle.authority_messages.proofs.Plain.{plain_text}
use Rattle.authority_messages.proofs.Signatures.{empty_sig}
use Rattle.authority_messages.proofs.Sent.{return_is, error_is}
use Rattle.authority_messages.proofs.Sending.{error_fields_within}
use Rattle.authority_messages.proofs.Bounds.{string_within, none_within, more_within, fields_none, number_field, message_within}
use Rattle.authority_messages.proofs.Types.{identity_type}
use Rattle.client_messages.specs.Calls.{subject, method_of, arguments_of}

-- what has a form has it also where more containers may stand inside each other
pub deeper : (list : ValueList) (ts : List Tree) → Rows 0 list ts → Rows 4 list ts
deeper list ts rows = record { are = rows.are; fit = λ d le. rows.fit d (omega arith) }

-- ---- the table of the methods

pub interface_plain : (m : Method) → is_plain (row_of m).interface ≡ true
interface_plain method.CheckAuthorization = refl
interface_plain method.CancelCheckAuthorization = refl
interface_plain method.RegisterAuthenticationAgent = refl
interface_plain method.UnregisterAuthenticationAgent = refl
interface_plain method.AuthenticationAgentResponse = refl
interface_plain method.EnumerateActions = refl
interface_plain method.EnumerateTemporaryAuthorizations = refl
interface_plain method.RevokeTemporaryAuthorizations = refl
interface_plain method.RevokeTemporaryAuthorizationById = refl
interface_plain method.Announce = refl
interface_plain method.Reload = refl

pub name_plain : (m : Method) → is_plain (row_of m).name ≡ true
name_plain method.CheckAuthorization = refl
name_plain method.CancelCheckAuthorization = refl
name_plain method.RegisterAuthenticationAgent = refl
name_plain method.UnregisterAuthenticationAgent = refl
name_plain method.AuthenticationAgentResponse = refl
name_plain method.EnumerateActions = refl
name_plain method.EnumerateTemporaryAuthorizations = refl
name_plain method.RevokeTemporaryAuthorizations = refl
name_plain method.RevokeTemporaryAuthorizationById = refl
name_plain method.Announce = refl
name_plain method.Reload = refl

takes_is : (m : Method) → is_signature (row_of m).takes ≡ true
unfolding type_end members_end are_types
takes_is method.CheckAuthorization = refl
takes_is method.CancelCheckAuthorization = refl
takes_is method.RegisterAuthenticationAgent = refl
takes_is method.UnregisterAuthenticationAgent = refl
takes_is method.AuthenticationAgentResponse = refl
takes_is method.EnumerateActions = refl
takes_is method.EnumerateTemporaryAuthorizations = refl
takes_is method.RevokeTemporaryAuthorizations = refl
takes_is method.RevokeTemporaryAuthorizationById = refl
takes_is method.Announce = refl
takes_is method.Reload = refl

pub takes_sig : (m : Method) (ts : List Tree) → types_of (row ts) ≡ (row_of m).takes → is_signature (types_of (row ts)) ≡ true
takes_sig m ts typed = ap is_signature typed ∙ takes_is m

-- ---- the arguments of a call have the types of its method

subject_type : (s : Subject) → type_of (subject s) ≡ codes "(sa{sv})"
subject_type (Subject.Process pid start) = refl
subject_type (Subject.Session id) = refl
subject_type (Subject.BusName name) = refl

with_subject : (s : Subject) (rest : Bytes) → type_of (subject s) ++ rest ≡ codes "(sa{sv})" ++ rest
with_subject s rest = ap (λ (t : Bytes). t ++ rest) (subject_type s)

abbrev pub Typed : Call → Option Method → Type 0
Typed said None = Unit {0}
Typed said (Some asked) = types_of (row (arguments_of said)) ≡ (row_of asked).takes

pub typed : (said : Call) → Typed said (method_of said)
typed (call.Check who action details flags cancel) = with_subject who (codes "sa{ss}us")
typed (call.Cancel id) = refl
typed (call.Register who locale path) = with_subject who (codes "ss")
typed (call.Unregister who path) = with_subject who (codes "s")
typed (call.Respond cookie who) = ap (λ (t : Bytes). 115 ∷ (t ++ [])) (identity_type who)
typed (call.EnumerateActions locale) = refl
typed (call.EnumerateGrants who) = with_subject who []
typed (call.RevokeAll who) = with_subject who []
typed (call.RevokeOne id) = refl
typed (call.Announce pid start) = refl
typed call.Reload = refl
typed (call.Wrong cause) = tt

pub form_at : {E : Type 0} (r : Result WireOut E) (ts : List Tree) (list : ValueList) (asked : Method) → types_of (row ts) ≡ (row_of asked).takes → Rows 4 list ts
    → IfOk r (λ out. (ts : List Tree) → types_of (row ts) ≡ (row_of asked).takes → Rows 4 list ts → MayBeSent (outgoing out)) → IfOk r (λ out. MayBeSent (outgoing out))
form_at (Ok out) ts list asked types rows may = may ts types rows
form_at (Err e) ts list asked types rows may = tt

-- ---- an agent's replies, which are short

pub return_sent : (to : ℕ) → 0 < to → to < 2 ^ 32 → IsSent (return_to to [])
return_sent to low high serial some small =
    return_is to [] low high empty_sig tt serial some small (message_within (under serial (return_to to [])) (18 + 0) 0 (number_field 0 to [] fields_none) none_within (lit≤ tt))

pub error_sent : (to : ℕ) (name text : Bytes) → 0 < to → to < 2 ^ 32 → is_plain name ≡ true → is_plain text ≡ true → length name ≤ 64 → length text ≤ 64 → IsSent (error_to to name text)
error_sent to name text low high name-is text-is name-short text-short serial some small =
    error_is to name text low high (plain_text name name-is) (plain_text text text-is) serial some small
    (message_within (under serial (error_to to name text)) (83 + (18 + 14)) 72 (error_fields_within to name name-short) (more_within 72 0 (string text) none (string_within text 64 text-short) none_within) (lit≤ tt))
