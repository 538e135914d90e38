-- A call without details is short.
use Rattle.std.proofs.Common.{◌≡◌, ℕ, ◌+◌, ◌≤◌, List, [], ◌∷◌, ◌++◌, length, false, nat_lt, IsSome, refl, ap, sym, subst, arith, length-append, lit≤}
use Rattle.std.proofs.lemmas.Bool.Decides.{nat_tests}
use Rattle.std.specs.Prelude.{codes}
use Rattle.std.specs.Int.{w32, w64}
use Rattle.pk_types.specs.Text.{IsText}
use Rattle.pk_types.specs.declared.values.Identity.{Identity}
use Rattle.pk_types.specs.declared.values.Subject.{Subject}
use Rattle.dbus_values.specs.declared.codes.TheConstants.{MAX_MESSAGE}
use Rattle.dbus_values.specs.Basics.{gap}
use Rattle.dbus_values.specs.Trees.{Tree, Trees, none, more, type_of, types_of, bytes_of, padding, marshalled, all_marshalled}
use Rattle.dbus_values.specs.Trees as trees
use Rattle.dbus_values.specs.Written.{signature_field}
use Rattle.dbus_values.proofs.Numbers.{length-padding, wide32, wide64}
use Rattle.authority_model.specs.declared.event.Call.{Call}
use Rattle.authority_model.specs.declared.event.Call.TheVariants as call
use Rattle.authority_model.specs.Words.{Bytes}
use Rattle.authority_calls.specs.declared.methods.Method.{Method}
use Rattle.authority_calls.specs.declared.methods.Method.TheVariants as method
use Rattle.authority_calls.specs.declared.methods.TheConstants.{AUTHORITY_PATH}
use Rattle.authority_calls.specs.Methods.{row_of}
use Rattle.authority_messages.specs.Values.{row, string, uint32, uint64, keyed, known_by, identity, pairs}
use Rattle.authority_messages.specs.Outgoing.{under}
use Rattle.authority_messages.specs.Messages.{size, is_over}
use Rattle.authority_messages.proofs.Plain.{text_length}
use Rattle.authority_messages.proofs.Bounds.{Within, AllWithin, FieldsWithin, string_within, number_within, empty_within, none_within, more_within, fields_none, signature_field as signature_within, message_within}
use Rattle.authority_messages.proofs.Sending.{members_within}
use Rattle.client_messages.specs.Calls.{subject, calling, method_of, call_for}
use Rattle.client_messages.specs.Told.{SubjectInRange, CallInRange, details_in}
use Rattle.client_messages.proofs.Calling.{typed}

-- ---- how long values are at most

long_within : (m : ℕ) → Within 15 (uint64 m)
long_within m at = omega (arith, length-append (padding (gap 8 at)) (bytes_of false w64 m), length-padding (gap 8 at), wide64.len false m)

struct_within : (n : ℕ) (ts : Trees) → AllWithin n ts → Within (n + 7) (trees.Struct ts)
struct_within n ts le at = omega (arith, length-append (padding (gap 8 at)) (all_marshalled false (at + gap 8 at) ts), length-padding (gap 8 at), le (at + gap 8 at))

dictionary_within : (n : ℕ) (ts : Trees) → AllWithin n ts → Within (n + 14) (trees.Array (codes "{sv}") ts)
dictionary_within n ts le at =
    let here = at + gap 4 at + 4 in
    let items = all_marshalled false (here + gap 8 here) ts in
    let count = bytes_of false w32 (length items) in
    omega (arith, length-append (padding (gap 4 at)) (count ++ (padding (gap 8 here) ++ items)), length-append count (padding (gap 8 here) ++ items), length-append (padding (gap 8 here)) items, length-padding (gap 4 at), length-padding (gap 8 here), wide32.len false (length items), le (here + gap 8 here))

keyed_within : (n c : ℕ) (key : Bytes) (t : Tree) → length key ≤ 16 → type_of t ≡ c ∷ [] → Within n t → Within (n + 34) (keyed key t)
keyed_within n c key t short one le at =
    let here = at + gap 8 at in
    let k = marshalled false here (string key) in
    let T = type_of t in
    let place = here + length k + length T + 2 in
    let letter : length T ≡ 1 = ap length one in
    omega (arith, length-append (padding (gap 8 at)) (k ++ (length T ∷ (T ++ (0 ∷ marshalled false place t)))), length-append k (length T ∷ (T ++ (0 ∷ marshalled false place t))), length-append T (0 ∷ marshalled false place t), length-padding (gap 8 at), string_within key 16 short here, letter, le place)

known_within : (n : ℕ) (kind : Bytes) (entries : List Tree) → length kind ≤ 16 → AllWithin n (row entries) → Within (24 + (n + 14 + 0) + 7) (known_by kind entries)
known_within n kind entries short le =
    struct_within (24 + (n + 14 + 0)) (row (string kind ∷ trees.Array (codes "{sv}") (row entries) ∷ []))
    (more_within 24 (n + 14 + 0) (string kind) (row (trees.Array (codes "{sv}") (row entries) ∷ [])) (string_within kind 16 short)
    (more_within (n + 14) 0 (trees.Array (codes "{sv}") (row entries)) none (dictionary_within n (row entries) le) none_within))

one_within : (n : ℕ) (kind : Bytes) (t : Tree) → length kind ≤ 16 → Within n t → Within (24 + (n + 0 + 14 + 0) + 7) (known_by kind (t ∷ []))
one_within n kind t short le = known_within (n + 0) kind (t ∷ []) short (more_within n 0 t none le none_within)

text_within : (t : Bytes) → IsText t → Within 65543 (string t)
text_within t is = string_within t 65535 (text_length t is)

subject_within : (s : Subject) → SubjectInRange s → Within 66000 (subject s)
subject_within (Subject.Process pid start) range at =
    omega (
      arith,
      known_within (41 + (49 + 0)) (codes "unix-process") (keyed (codes "pid") (uint32 pid) ∷ keyed (codes "start-time") (uint64 start) ∷ []) (lit≤ tt)
          (more_within 41 (49 + 0) (keyed (codes "pid") (uint32 pid)) (row (keyed (codes "start-time") (uint64 start) ∷ [])) (keyed_within 7 117 (codes "pid") (uint32 pid) (lit≤ tt) refl (number_within pid))
          (more_within 49 0 (keyed (codes "start-time") (uint64 start)) none (keyed_within 15 116 (codes "start-time") (uint64 start) (lit≤ tt) refl (long_within start)) none_within)) at,
    )
subject_within (Subject.Session id) range at =
    omega (arith, one_within 65577 (codes "unix-session") (keyed (codes "session-id") (string id)) (lit≤ tt) (keyed_within 65543 115 (codes "session-id") (string id) (lit≤ tt) refl (text_within id range)) at)
subject_within (Subject.BusName name) range at =
    omega (arith, one_within 65577 (codes "system-bus-name") (keyed (codes "name") (string name)) (lit≤ tt) (keyed_within 65543 115 (codes "name") (string name) (lit≤ tt) refl (text_within name range)) at)

identity_within : (i : Identity) → Within 66000 (identity i)
identity_within (Identity.User uid) at =
    omega (arith, one_within 41 (codes "unix-user") (keyed (codes "uid") (uint32 uid)) (lit≤ tt) (keyed_within 7 117 (codes "uid") (uint32 uid) (lit≤ tt) refl (number_within uid)) at)
identity_within (Identity.Group gid) at =
    omega (arith, one_within 41 (codes "unix-group") (keyed (codes "gid") (uint32 gid)) (lit≤ tt) (keyed_within 7 117 (codes "gid") (uint32 gid) (lit≤ tt) refl (number_within gid)) at)

-- ---- a message of such values

interface_short : (m : Method) → length (row_of m).interface ≤ 64
interface_short method.CheckAuthorization = lit≤ tt
interface_short method.CancelCheckAuthorization = lit≤ tt
interface_short method.RegisterAuthenticationAgent = lit≤ tt
interface_short method.UnregisterAuthenticationAgent = lit≤ tt
interface_short method.AuthenticationAgentResponse = lit≤ tt
interface_short method.EnumerateActions = lit≤ tt
interface_short method.EnumerateTemporaryAuthorizations = lit≤ tt
interface_short method.RevokeTemporaryAuthorizations = lit≤ tt
interface_short method.RevokeTemporaryAuthorizationById = lit≤ tt
interface_short method.Announce = lit≤ tt
interface_short method.Reload = lit≤ tt

name_short : (m : Method) → length (row_of m).name ≤ 32
name_short method.CheckAuthorization = lit≤ tt
name_short method.CancelCheckAuthorization = lit≤ tt
name_short method.RegisterAuthenticationAgent = lit≤ tt
name_short method.UnregisterAuthenticationAgent = lit≤ tt
name_short method.AuthenticationAgentResponse = lit≤ tt
name_short method.EnumerateActions = lit≤ tt
name_short method.EnumerateTemporaryAuthorizations = lit≤ tt
name_short method.RevokeTemporaryAuthorizations = lit≤ tt
name_short method.RevokeTemporaryAuthorizationById = lit≤ tt
name_short method.Announce = lit≤ tt
name_short method.Reload = lit≤ tt

takes_short : (m : Method) → length (row_of m).takes ≤ 32
takes_short method.CheckAuthorization = lit≤ tt
takes_short method.CancelCheckAuthorization = lit≤ tt
takes_short method.RegisterAuthenticationAgent = lit≤ tt
takes_short method.UnregisterAuthenticationAgent = lit≤ tt
takes_short method.AuthenticationAgentResponse = lit≤ tt
takes_short method.EnumerateActions = lit≤ tt
takes_short method.EnumerateTemporaryAuthorizations = lit≤ tt
takes_short method.RevokeTemporaryAuthorizations = lit≤ tt
takes_short method.RevokeTemporaryAuthorizationById = lit≤ tt
takes_short method.Announce = lit≤ tt
takes_short method.Reload = lit≤ tt

field_within : (sig : Bytes) → length sig ≤ 32 → FieldsWithin 45 (signature_field sig)
field_within [] le at = omega (arith, fields_none at)
field_within (c ∷ sig) le at = signature_within 32 0 (c ∷ sig) [] le fields_none at

not_over : (n : ℕ) → n ≤ MAX_MESSAGE → nat_lt MAX_MESSAGE n ≡ false
not_over n le = grind (arith, nat_tests)

fits : (asked : Method) (values : List Tree) (n : ℕ) → types_of (row values) ≡ (row_of asked).takes → AllWithin n (row values) → n ≤ 1000000 → is_over (calling asked values) ≡ false
fits asked values n types within le =
    let short : length (types_of (row values)) ≤ 32 = subst (λ (t : Bytes). length t ≤ 32) (sym types) (takes_short asked) in
    not_over (size (calling asked values)) (message_within (under 1 (calling asked values)) (65554 + (83 + (51 + 45))) n
    (members_within AUTHORITY_PATH.now (row_of asked).interface (row_of asked).name (signature_field (types_of (row values))) 45 (lit≤ tt) (interface_short asked) (name_short asked) (field_within (types_of (row values)) short))
    within (omega arith))

one_text : (asked : Method) (t : Bytes) → codes "s" ≡ (row_of asked).takes → IsText t → is_over (calling asked (string t ∷ [])) ≡ false
one_text asked t types is = fits asked (string t ∷ []) (65543 + 0) types (more_within 65543 0 (string t) none (text_within t is) none_within) (lit≤ tt)

one_subject : (asked : Method) (s : Subject) → types_of (row (subject s ∷ [])) ≡ (row_of asked).takes → SubjectInRange s → is_over (calling asked (subject s ∷ [])) ≡ false
one_subject asked s types range = fits asked (subject s ∷ []) (66000 + 0) types (more_within 66000 0 (subject s) none (subject_within s range) none_within) (lit≤ tt)

check_short : (who : Subject) (action : Bytes) (flags : ℕ) (cancel : Bytes) → CallInRange (call.Check who action [] flags cancel) → is_over (call_for (call.Check who action [] flags cancel)) ≡ false
check_short who action flags cancel range =
    let values = subject who ∷ string action ∷ pairs [] ∷ uint32 flags ∷ string cancel ∷ [] in
    fits method.CheckAuthorization values (66000 + (65543 + (14 + (7 + (65543 + 0))))) (typed (call.Check who action [] flags cancel))
    (more_within 66000 (65543 + (14 + (7 + (65543 + 0)))) (subject who) (row (string action ∷ pairs [] ∷ uint32 flags ∷ string cancel ∷ [])) (subject_within who range.0)
    (more_within 65543 (14 + (7 + (65543 + 0))) (string action) (row (pairs [] ∷ uint32 flags ∷ string cancel ∷ [])) (text_within action range.1)
    (more_within 14 (7 + (65543 + 0)) (pairs []) (row (uint32 flags ∷ string cancel ∷ [])) (empty_within (codes "{ss}") refl)
    (more_within 7 (65543 + 0) (uint32 flags) (row (string cancel ∷ [])) (number_within flags)
    (more_within 65543 0 (string cancel) none (text_within cancel range.4) none_within)))))
    (lit≤ tt)

pub short : (said : Call) → IsSome (method_of said) → CallInRange said → details_in said ≡ [] → is_over (call_for said) ≡ false
short (call.Check who action [] flags cancel) some range empty = check_short who action flags cancel range
short (call.Check who action (p ∷ ps) flags cancel) some range empty = absurd (cc)
short (call.Cancel id) some range empty = one_text method.CancelCheckAuthorization id refl range
short (call.Register who locale p) some range empty =
    fits method.RegisterAuthenticationAgent (subject who ∷ string locale ∷ string p ∷ []) (66000 + (65543 + (65543 + 0))) (typed (call.Register who locale p))
    (more_within 66000 (65543 + (65543 + 0)) (subject who) (row (string locale ∷ string p ∷ [])) (subject_within who range.0)
    (more_within 65543 (65543 + 0) (string locale) (row (string p ∷ [])) (text_within locale range.1)
    (more_within 65543 0 (string p) none (text_within p range.2) none_within)))
    (lit≤ tt)
short (call.Unregister who p) some range empty =
    fits method.UnregisterAuthenticationAgent (subject who ∷ string p ∷ []) (66000 + (65543 + 0)) (typed (call.Unregister who p))
    (more_within 66000 (65543 + 0) (subject who) (row (string p ∷ [])) (subject_within who range.0)
    (more_within 65543 0 (string p) none (text_within p range.1) none_within))
    (lit≤ tt)
short (call.Respond cookie who) some range empty =
    fits method.AuthenticationAgentResponse (string cookie ∷ identity who ∷ []) (65543 + (66000 + 0)) (typed (call.Respond cookie who))
    (more_within 65543 (66000 + 0) (string cookie) (row (identity who ∷ [])) (text_within cookie range.0)
    (more_within 66000 0 (identity who) none (identity_within who) none_within))
    (lit≤ tt)
short (call.EnumerateActions locale) some range empty = one_text method.EnumerateActions locale refl range
short (call.EnumerateGrants who) some range empty = one_subject method.EnumerateTemporaryAuthorizations who (typed (call.EnumerateGrants who)) range
short (call.RevokeAll who) some range empty = one_subject method.RevokeTemporaryAuthorizations who (typed (call.RevokeAll who)) range
short (call.RevokeOne id) some range empty = one_text method.RevokeTemporaryAuthorizationById id refl range
short (call.Announce pid start) some range empty =
    fits method.Announce (uint32 pid ∷ uint64 start ∷ []) (7 + (15 + 0)) refl
    (more_within 7 (15 + 0) (uint32 pid) (row (uint64 start ∷ [])) (number_within pid) (more_within 15 0 (uint64 start) none (long_within start) none_within)) (lit≤ tt)
short call.Reload some range empty = fits method.Reload [] 0 refl none_within (lit≤ tt)
short (call.Wrong cause) some range empty = absurd (cc)
