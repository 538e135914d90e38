-- Subjects and checks in their usual forms.
use Rattle.std.proofs.Common.{◌≡◌, ℕ, suc, ◌+◌, ◌-◌, ◌<◌, ◌≤◌, ◌^◌, List, [], ◌∷◌, ◌++◌, length, Bool, true, false, nat_lt, Option, Some, None, refl, sym, ap, subst, ◌∙◌, arith, append_assoc, length-append}
use Rattle.std.proofs.lemmas.List.{append-nil}
use Rattle.std.proofs.lemmas.Bool.Decides.{nat_tests}
use Rattle.std.specs.Prelude.{codes, if◌then◌else◌, is_none}
use Rattle.std.specs.Int.{w32, w64}
use Rattle.pk_types.specs.Text.{IsText}
use Rattle.pk_types.specs.declared.text.TextFault.{TextFault}
use Rattle.pk_types.specs.declared.values.Pair.{Pair}
use Rattle.pk_types.specs.declared.values.Subject.{Subject}
use Rattle.dbus_values.specs.Parts.{Piece}
use Rattle.dbus_values.specs.Parts as part
use Rattle.dbus_values.specs.Trees.{Tree, Trees, more, Number, type_of, types_of, bytes_of, padding, marshalled, all_marshalled, pieces, all_pieces, FitsAs, Each}
use Rattle.dbus_values.proofs.Numbers.{wide32}
use Rattle.dbus_values.specs.Signatures.{type_end, members_end, are_types, is_signature, after_type}
use Rattle.authority_model.specs.declared.event.Call.TheVariants as call
use Rattle.authority_model.specs.Words.{Bytes}
use Rattle.authority_calls.specs.Arguments.{Reading, go_on, ◌>>=◌, given, chosen, text_of, as_u32, as_leave, part_as, text, uint32 as uint32_reading, behind, many}
use Rattle.authority_calls.specs.Dictionaries.{pairs as pairs_reading}
use Rattle.authority_calls.specs.Calls.{check}
use Rattle.authority_calls.specs.Subjects.{subject}
use Rattle.authority_messages.specs.Values.{row, string, pairs, uint32, uint64, keyed, known_by}
use Rattle.authority_messages.proofs.Plain.{plain_text}
use Rattle.authority_messages.proofs.Signatures.{sv_item, ss_item, u_sig, u_one, t_sig, t_one, s_sig, s_one}
use Rattle.authority_messages.proofs.Building.{string_fits, uint32_fits, uint64_fits}
use Rattle.usual_calls.specs.declared.subjects.TheConstants.{PROCESS, PID, START_TIME, UID, SESSION, SESSION_ID, BUS_NAME, NAME}
use Rattle.usual_calls.specs.Forms.{IsSubject, BeginsWithSubject, AreArguments, IsBody}

-- ---- what is read of values of basic types

-- what is read first, and then what is read of the rest
after : {A B : Type 0} {x : A} {rest : List Piece} {out : Option (B × List Piece)} (further : A → Reading B) (r : Option (A × List Piece)) → r ≡ Some (x, rest) → further x rest ≡ out → go_on further r ≡ out
after further r first next = ap (go_on further) first ∙ next

text_ok : (t : Bytes) → IsText t → text_of t ≡ Some t
text_ok t is = ap (λ (o : Option TextFault). if is_none o then Some t else None) is

text_read : (t : Bytes) (rest : List Piece) → IsText t → text (part.Text 115 t ∷ rest) ≡ Some (t, rest)
text_read t rest is = ap (λ (o : Option Bytes). chosen o rest) (text_ok t is)

is_small : (n : ℕ) → n < 2 ^ 32 → nat_lt n (2 ^ 32) ≡ true
is_small n lt = grind (arith, nat_tests)

u32_ok : (n : ℕ) → n < 2 ^ 32 → as_u32 (part.Number 117 n) ≡ Some n
u32_ok n lt = ap (λ (b : Bool). if b then Some n else None) (is_small n lt)

uint32_read : (n : ℕ) (rest : List Piece) → n < 2 ^ 32 → uint32_reading (part.Number 117 n ∷ rest) ≡ Some (n, rest)
uint32_read n rest lt = ap (λ (o : Option ℕ). chosen o rest) (u32_ok n lt)

none_read : (rest : List Piece) → pairs_reading (part.Enter 97 ∷ part.Leave 97 ∷ rest) ≡ Some ([], rest)
unfolding many
none_read rest = refl

-- ---- a process, with the uid of its user or not

abbrev process : ℕ → ℕ → List Tree → Tree
process pid start others = known_by (codes "unix-process") (keyed (codes "pid") (uint32 pid) ∷ keyed (codes "start-time") (uint64 start) ∷ others)

abbrev uid_entry : ℕ → List Tree
uid_entry uid = keyed (codes "uid") (Number 105 uid) ∷ []

keyed_fits : (d : ℕ) (key : Bytes) (t : Tree) → IsText key → is_signature (type_of t) ≡ true → after_type (type_of t) ≡ Some [] → FitsAs false d t → FitsAs true (suc (suc d)) (keyed key t)
unfolding FitsAs
keyed_fits d key t is sig one fit = (tt, string_fits false (suc d) key is, (sig, one, fit))

known_fits : (d : ℕ) (kind : Bytes) (entries : List Tree) → IsText kind → Each (λ t. (type_of t ≡ codes "{sv}") × FitsAs true d t) (row entries) → FitsAs false (suc (suc d)) (known_by kind entries)
unfolding FitsAs
known_fits d kind entries is each = (tt, (string_fits false (suc d) kind is, ((sv_item, each), tt)))

i_sig : is_signature (codes "i") ≡ true
unfolding type_end members_end are_types
i_sig = refl

i_one : after_type (codes "i") ≡ Some []
unfolding type_end members_end
i_one = refl

pid_fits : (pid : ℕ) → pid < 2 ^ 32 → FitsAs true 62 (keyed (codes "pid") (uint32 pid))
pid_fits pid low = keyed_fits 60 (codes "pid") (uint32 pid) (plain_text (codes "pid") refl) u_sig u_one (uint32_fits false 60 pid low)

start_fits : (start : ℕ) → start < 2 ^ 64 → FitsAs true 62 (keyed (codes "start-time") (uint64 start))
start_fits start low = keyed_fits 60 (codes "start-time") (uint64 start) (plain_text (codes "start-time") refl) t_sig t_one (uint64_fits false 60 start low)

uid_fits : (uid : ℕ) → uid < 2 ^ 32 → FitsAs true 62 (keyed (codes "uid") (Number 105 uid))
unfolding FitsAs
uid_fits uid low = keyed_fits 60 (codes "uid") (Number 105 uid) (plain_text (codes "uid") refl) i_sig i_one low

-- a value that is made of what was found, and the end of its structure
abbrev made : {A B : Type 0} → (A → B) → List Piece → Option A → Option (B × List Piece)
made make rest found = go_on (λ value. part_as as_leave >>= λ ends. given value) (go_on (λ x. given (make x)) (chosen found (part.Leave 40 ∷ rest)))

process_read : (pid start : ℕ) (rest : List Piece) → pid < 2 ^ 32 → subject (pieces (process pid start []) ++ rest) ≡ Some (Subject.Process pid start, rest)
unfolding subject many behind
process_read pid start rest low = ap (made (λ n. Subject.Process n start) rest) (u32_ok pid low)

uid_read : (pid start uid : ℕ) (rest : List Piece) → pid < 2 ^ 32 → subject (pieces (process pid start (uid_entry uid)) ++ rest) ≡ Some (Subject.Process pid start, rest)
unfolding subject many behind
uid_read pid start uid rest low = ap (made (λ n. Subject.Process n start) rest) (u32_ok pid low)

pub process_is : (pid start : ℕ) → pid < 2 ^ 32 → start < 2 ^ 64 → IsSubject (Subject.Process pid start) (process pid start [])
process_is pid start low small = record {
  type = refl;
  fits = known_fits 62 (codes "unix-process") (keyed (codes "pid") (uint32 pid) ∷ keyed (codes "start-time") (uint64 start) ∷ []) (plain_text (codes "unix-process") refl) ((refl, pid_fits pid low), ((refl, start_fits start small), tt));
  read = λ rest. process_read pid start rest low;
}

pub process_with_uid_is : (pid start uid : ℕ) → pid < 2 ^ 32 → start < 2 ^ 64 → uid < 2 ^ 32 → IsSubject (Subject.Process pid start) (process pid start (uid_entry uid))
process_with_uid_is pid start uid low small short = record {
  type = refl;
  fits = known_fits 62 (codes "unix-process") (keyed (codes "pid") (uint32 pid) ∷ keyed (codes "start-time") (uint64 start) ∷ uid_entry uid) (plain_text (codes "unix-process") refl) ((refl, pid_fits pid low), ((refl, start_fits start small), ((refl, uid_fits uid short), tt)));
  read = λ rest. uid_read pid start uid rest low;
}

-- the bytes of a process whose dictionary has this size, and what follows its start time
abbrev process_front : ℕ → ℕ → ℕ → List ℕ → List ℕ
process_front size pid start rest = PROCESS.now ++ (bytes_of false w32 size ++ (PID.now ++ (bytes_of false w32 pid ++ (START_TIME.now ++ (bytes_of false w64 start ++ rest)))))

process_bytes : (pid start : ℕ) (rest : List ℕ) → process_front 48 pid start rest ≡ marshalled false 0 (process pid start []) ++ rest
unfolding padding
process_bytes pid start rest = refl

uid_bytes : (pid start uid : ℕ) (rest : List ℕ) → process_front 64 pid start (UID.now ++ (bytes_of false w32 uid ++ rest)) ≡ marshalled false 0 (process pid start (uid_entry uid)) ++ rest
unfolding padding
uid_bytes pid start uid rest = refl

pub begins_process : (size pid start : ℕ) (body rest : List ℕ) → pid < 2 ^ 32 → start < 2 ^ 64 → body ≡ process_front size pid start rest → size ≡ 48 → BeginsWithSubject (Subject.Process pid start) body rest
begins_process size pid start body rest low small is size-is =
    (process pid start [], process_is pid start low small, is ∙ ap (λ (n : ℕ). process_front n pid start rest) size-is ∙ process_bytes pid start rest)

pub begins_with_uid : (size pid start uid : ℕ) (body behind_start behind_key rest : List ℕ) → pid < 2 ^ 32 → start < 2 ^ 64 → uid < 2 ^ 32 → body ≡ process_front size pid start behind_start → size ≡ 64 → behind_start ≡ UID.now ++ behind_key → behind_key ≡ bytes_of false w32 uid ++ rest
    → BeginsWithSubject (Subject.Process pid start) body rest
begins_with_uid size pid start uid body behind_start behind_key rest low small short is size-is key-is uid-is = (
  process pid start (uid_entry uid),
  process_with_uid_is pid start uid low small short,
  is ∙ ap (λ (n : ℕ). process_front n pid start behind_start) size-is ∙ ap (λ (x : List ℕ). process_front 64 pid start x) (key-is ∙ ap (λ (x : List ℕ). UID.now ++ x) uid-is) ∙ uid_bytes pid start uid rest,
)

-- ---- a session and a connection of the bus

abbrev session : Bytes → Tree
session id = known_by (codes "unix-session") (keyed (codes "session-id") (string id) ∷ [])

abbrev bus_name : Bytes → Tree
bus_name name = known_by (codes "system-bus-name") (keyed (codes "name") (string name) ∷ [])

session_read : (id : Bytes) (rest : List Piece) → IsText id → subject (pieces (session id) ++ rest) ≡ Some (Subject.Session id, rest)
unfolding subject many behind
session_read id rest is = ap (made Subject.Session rest) (text_ok id is)

bus_name_read : (name : Bytes) (rest : List Piece) → IsText name → subject (pieces (bus_name name) ++ rest) ≡ Some (Subject.BusName name, rest)
unfolding subject many behind
bus_name_read name rest is = ap (made Subject.BusName rest) (text_ok name is)

session_is : (id : Bytes) → IsText id → IsSubject (Subject.Session id) (session id)
session_is id is = record {
  type = refl;
  fits = known_fits 62 (codes "unix-session") (keyed (codes "session-id") (string id) ∷ []) (plain_text (codes "unix-session") refl) ((refl, keyed_fits 60 (codes "session-id") (string id) (plain_text (codes "session-id") refl) s_sig s_one (string_fits false 60 id is)), tt);
  read = λ rest. session_read id rest is;
}

bus_name_is : (name : Bytes) → IsText name → IsSubject (Subject.BusName name) (bus_name name)
bus_name_is name is = record {
  type = refl;
  fits = known_fits 62 (codes "system-bus-name") (keyed (codes "name") (string name) ∷ []) (plain_text (codes "system-bus-name") refl) ((refl, keyed_fits 60 (codes "name") (string name) (plain_text (codes "name") refl) s_sig s_one (string_fits false 60 name is)), tt);
  read = λ rest. bus_name_read name rest is;
}

-- a text and what follows it
abbrev ended : Bytes → List ℕ
ended t = t ++ 0 ∷ []

session_by : (id : Bytes) (rest : List ℕ) → marshalled false 0 (session id) ++ rest ≡ SESSION.now ++ (bytes_of false w32 (length (SESSION_ID.now ++ (bytes_of false w32 (length id) ++ (ended id ++ [])))) ++ (SESSION_ID.now ++ (bytes_of false w32 (length id) ++ (((ended id ++ []) ++ []) ++ rest))))
unfolding padding
session_by id rest = refl

bus_name_by : (name : Bytes) (rest : List ℕ) → marshalled false 0 (bus_name name) ++ rest ≡ BUS_NAME.now ++ (bytes_of false w32 (length (NAME.now ++ (bytes_of false w32 (length name) ++ (ended name ++ [])))) ++ (NAME.now ++ (bytes_of false w32 (length name) ++ (((ended name ++ []) ++ []) ++ rest))))
unfolding padding
bus_name_by name rest = refl

string_at_0 : (t : Bytes) (rest : List ℕ) → marshalled false 0 (string t) ++ rest ≡ bytes_of false w32 (length t) ++ (ended t ++ rest)
unfolding padding
string_at_0 t rest = append_assoc (bytes_of false w32 (length t)) (ended t) rest

no_nils : (t : Bytes) → (ended t ++ []) ++ [] ≡ ended t
no_nils t = append-nil (ended t ++ []) ∙ append-nil (ended t)

session_bytes : (id : Bytes) (rest : List ℕ) → SESSION.now ++ (bytes_of false w32 (length SESSION_ID.now + 5 + length id) ++ (SESSION_ID.now ++ (marshalled false 0 (string id) ++ rest))) ≡ marshalled false 0 (session id) ++ rest
session_bytes id rest =
    let size : length SESSION_ID.now + 5 + length id ≡ length (SESSION_ID.now ++ (bytes_of false w32 (length id) ++ (ended id ++ []))) = omega (arith, length-append SESSION_ID.now (bytes_of false w32 (length id) ++ (ended id ++ [])), length-append (bytes_of false w32 (length id)) (ended id ++ []), wide32.len false (length id), ap length (append-nil (ended id)), length-append id (0 ∷ [])) in
    ap (λ (n : ℕ). SESSION.now ++ (bytes_of false w32 n ++ (SESSION_ID.now ++ (marshalled false 0 (string id) ++ rest)))) size
    ∙ ap (λ (x : List ℕ). SESSION.now ++ (bytes_of false w32 (length (SESSION_ID.now ++ (bytes_of false w32 (length id) ++ (ended id ++ [])))) ++ (SESSION_ID.now ++ x))) (string_at_0 id rest)
    ∙ ap (λ (x : List ℕ). SESSION.now ++ (bytes_of false w32 (length (SESSION_ID.now ++ (bytes_of false w32 (length id) ++ (ended id ++ [])))) ++ (SESSION_ID.now ++ (bytes_of false w32 (length id) ++ (x ++ rest))))) (sym (no_nils id))
    ∙ sym (session_by id rest)

bus_name_bytes : (name : Bytes) (rest : List ℕ) → BUS_NAME.now ++ (bytes_of false w32 (length NAME.now + 5 + length name) ++ (NAME.now ++ (marshalled false 0 (string name) ++ rest))) ≡ marshalled false 0 (bus_name name) ++ rest
bus_name_bytes name rest =
    let size : length NAME.now + 5 + length name ≡ length (NAME.now ++ (bytes_of false w32 (length name) ++ (ended name ++ []))) = omega (arith, length-append NAME.now (bytes_of false w32 (length name) ++ (ended name ++ [])), length-append (bytes_of false w32 (length name)) (ended name ++ []), wide32.len false (length name), ap length (append-nil (ended name)), length-append name (0 ∷ [])) in
    ap (λ (n : ℕ). BUS_NAME.now ++ (bytes_of false w32 n ++ (NAME.now ++ (marshalled false 0 (string name) ++ rest)))) size
    ∙ ap (λ (x : List ℕ). BUS_NAME.now ++ (bytes_of false w32 (length (NAME.now ++ (bytes_of false w32 (length name) ++ (ended name ++ [])))) ++ (NAME.now ++ x))) (string_at_0 name rest)
    ∙ ap (λ (x : List ℕ). BUS_NAME.now ++ (bytes_of false w32 (length (NAME.now ++ (bytes_of false w32 (length name) ++ (ended name ++ [])))) ++ (NAME.now ++ (bytes_of false w32 (length name) ++ (x ++ rest))))) (sym (no_nils name))
    ∙ sym (bus_name_by name rest)

pub begins_session : (id t : Bytes) (a rest : List ℕ) → IsText id → id ≡ t → a ≡ SESSION.now ++ (bytes_of false w32 (length SESSION_ID.now + 5 + length t) ++ (SESSION_ID.now ++ (marshalled false 0 (string t) ++ rest))) → BeginsWithSubject (Subject.Session id) a rest
begins_session id t a rest is same a-is =
    (session id, session_is id is, a-is ∙ ap (λ (x : Bytes). SESSION.now ++ (bytes_of false w32 (length SESSION_ID.now + 5 + length x) ++ (SESSION_ID.now ++ (marshalled false 0 (string x) ++ rest)))) (sym same) ∙ session_bytes id rest)

pub begins_bus_name : (name t : Bytes) (a rest : List ℕ) → IsText name → name ≡ t → a ≡ BUS_NAME.now ++ (bytes_of false w32 (length NAME.now + 5 + length t) ++ (NAME.now ++ (marshalled false 0 (string t) ++ rest))) → BeginsWithSubject (Subject.BusName name) a rest
begins_bus_name name t a rest is same a-is =
    (bus_name name, bus_name_is name is, a-is ∙ ap (λ (x : Bytes). BUS_NAME.now ++ (bytes_of false w32 (length NAME.now + 5 + length x) ++ (NAME.now ++ (marshalled false 0 (string x) ++ rest)))) (sym same) ∙ bus_name_bytes name rest)

-- ---- the arguments of a check

none_fit : FitsAs false 64 (pairs [])
unfolding FitsAs
none_fit = (ss_item, tt)

arguments_read : (s : Subject) (t : Tree) (action : Bytes) (flags : ℕ) (cancel : Bytes) → IsSubject s t → IsText action → flags < 2 ^ 32 → IsText cancel
    → check (all_pieces (more t (row (string action ∷ pairs [] ∷ uint32 flags ∷ string cancel ∷ [])))) ≡ Some (call.Check s action [] flags cancel, [])
unfolding check
arguments_read s t action flags cancel is action-is low cancel-is =
    let behind_flags : List Piece = part.Text 115 cancel ∷ [] in
    let behind_details : List Piece = part.Number 117 flags ∷ behind_flags in
    let behind_action : List Piece = part.Enter 97 ∷ part.Leave 97 ∷ behind_details in
    let behind_subject : List Piece = part.Text 115 action ∷ behind_action in
    after _ _ (is.read behind_subject)
    (after _ _ (text_read action behind_action action-is)
    (after _ _ (none_read behind_details)
    (after _ _ (uint32_read flags behind_flags low)
    (after _ _ (text_read cancel [] cancel-is) refl))))

are_arguments : (s : Subject) (t : Tree) (action : Bytes) (flags : ℕ) (cancel : Bytes) → IsSubject s t → IsText action → flags < 2 ^ 32 → IsText cancel
    → AreArguments (call.Check s action [] flags cancel) (more t (row (string action ∷ pairs [] ∷ uint32 flags ∷ string cancel ∷ [])))
are_arguments s t action flags cancel is action-is low cancel-is = record {
  types = ap (λ (x : Bytes). x ++ codes "sa{ss}us") is.type;
  fits = (is.fits, (string_fits false 64 action action-is, (none_fit, (uint32_fits false 64 flags low, (string_fits false 64 cancel cancel-is, tt)))));
  read = arguments_read s t action flags cancel is action-is low cancel-is;
}

pub rest_shorter : (s : Subject) (body rest : List ℕ) → BeginsWithSubject s body rest → length rest ≤ length body
rest_shorter s body rest begins = omega (arith, ap length begins.2, length-append (marshalled false 0 begins.0) rest)

pub is_body : (s : Subject) (action cancel a c : Bytes) (details : List Pair) (flags at : ℕ) (body rest : List ℕ) → BeginsWithSubject s body rest → at ≡ length body - length rest → rest ≡ all_marshalled false at (row (string a ∷ pairs [] ∷ uint32 flags ∷ string c ∷ [])) → action ≡ a → cancel ≡ c → IsText action → details ≡ [] → flags < 2 ^ 32 → IsText cancel
    → IsBody (call.Check s action details flags cancel) body
is_body s action cancel a c details flags at body rest begins at-is rest-is action-same cancel-same action-is none low cancel-is =
    let t = begins.0 in
    let m = marshalled false 0 t in
    let place : at ≡ 0 + length m = omega (arith, at-is, ap length begins.2, length-append m rest) in
    let same : rest ≡ all_marshalled false (0 + length m) (row (string action ∷ pairs [] ∷ uint32 flags ∷ string cancel ∷ [])) =
    rest-is ∙ ap (λ (n : ℕ). all_marshalled false n (row (string a ∷ pairs [] ∷ uint32 flags ∷ string c ∷ []))) place
    ∙ ap (λ (x : Bytes). all_marshalled false (0 + length m) (row (string x ∷ pairs [] ∷ uint32 flags ∷ string c ∷ []))) (sym action-same)
    ∙ ap (λ (x : Bytes). all_marshalled false (0 + length m) (row (string action ∷ pairs [] ∷ uint32 flags ∷ string x ∷ []))) (sym cancel-same) in
    let whole : IsBody (call.Check s action [] flags cancel) body =
    (more t (row (string action ∷ pairs [] ∷ uint32 flags ∷ string cancel ∷ [])), are_arguments s t action flags cancel begins.1 action-is low cancel-is, begins.2 ∙ ap (λ (x : List ℕ). m ++ x) same) in
    subst (λ (ps : List Pair). IsBody (call.Check s action ps flags cancel) body) (sym none) whole
