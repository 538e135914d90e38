-- A line is read numbers first, so its fault is the first in the order of kinds.
use Rattle.std.proofs.Common.{◌≡◌, [], ◌∷◌, List, ℕ, Bool, true, false, Option, None, Some, Result, Ok, Err, ◌||◌, if◌then◌else◌, refl, length, nat_lt}
use Rattle.std.specs.List.{list_any}
use Rattle.pk_types.specs.declared.values.Subject.{Subject}
use Rattle.pk_types.specs.Pieces.{pieces_of}
use Rattle.authority_model.specs.declared.event.Call.{Call}
use Rattle.authority_model.specs.declared.event.Event.{Event}
use Rattle.scenario_text.specs.declared.fault.LineKind.{LineKind}
use Rattle.scenario_text.specs.declared.fault.LineKind.TheVariants as kind
use Rattle.scenario_text.specs.declared.first_word.CallerWord.{CallerWord}
use Rattle.scenario_text.specs.declared.first_word.CallerWord.TheVariants as caller_word
use Rattle.scenario_text.specs.declared.first_word.DraftWord.{DraftWord}
use Rattle.scenario_text.specs.declared.first_word.DraftWord.TheVariants as draft
use Rattle.scenario_text.specs.declared.first_word.FirstWord.{FirstWord}
use Rattle.scenario_text.specs.declared.first_word.FirstWord.TheVariants as first
use Rattle.scenario_text.specs.Faults.{◌>>=◌, fault_in}
use Rattle.scenario_text.specs.Words.{number_in, number_32_in, number_64_in, caller_in, serial_in, implicit_in, optional_implicit_in, some_value_in, text_in, id_in, local_in, active_in, session_in, texts_in, gids_in}
use Rattle.scenario_text.specs.Subjects.{subject_in, identity_in}
use Rattle.scenario_text.specs.DraftLines.{draft_line}
use Rattle.scenario_text.specs.CallerLines.{serial_event, call_event, announce_call, options_in, check_call, check_event, text_call, subject_call, register_call, unregister_call, respond_call, caller_line}
use Rattle.scenario_text.specs.Lines.{first_word_of, line_of, line_from, step_of_words, is_blank, step_of}
use Rattle.scenario_text.specs.Order.{Faults, is_number, is_fault, kind_of_faults, behind_call, draft_faults, caller_faults, faults_of, count_or_kind, word_or_kind, kind_of_words, line_kind}
use Rattle.scenario_text.proofs.WordFaults.{IsOfWord, number, value, OnlyNumber, OnlyValue, OnlyOfWord, value_of_word, number_only, number_32_only, number_64_only, caller_only, serial_only, implicit_only, optional_implicit_only, some_value_only, text_only, id_only, local_only, active_only, session_only, texts_only, gids_only, subject_only, identity_only, options_only}

-- no word among these is a faulty number
record NoNumber (faults : Faults) : Type 0 where
  none : list_any is_number faults ≡ false

-- what is read has the kind of these faults
record IsKindOf {B : Type 0} (r : Result B LineKind) (faults : Faults) : Type 0 where
  same : fault_in r ≡ kind_of_faults faults

-- a word that is a number, before any others
number_first : {A B : Type 0} (r : Result A LineKind) (f : A → Result B LineKind) {rest : Faults} → OnlyNumber r
    → ((x : A) → IsKindOf (f x) rest) → IsKindOf (r >>= f) (fault_in r ∷ rest)
number_first (Ok x) f only read = record { same = (read x).same }
number_first (Err k) f only read = record { same = rw (only k refl) refl }

of_word : (k : LineKind) (rest : Faults) → IsOfWord k → NoNumber rest → Some k ≡ kind_of_faults (Some k ∷ rest)
of_word _ rest number values = refl
of_word _ rest value values = rw values.none refl

-- a word of either fault, before words without a faulty number
then_values : {A B : Type 0} (r : Result A LineKind) (f : A → Result B LineKind) {rest : Faults} → OnlyOfWord r → NoNumber rest
    → ((x : A) → IsKindOf (f x) rest) → IsKindOf (r >>= f) (fault_in r ∷ rest)
then_values (Ok x) f only values read = record { same = (read x).same }
then_values (Err k) f {rest} only values read = record { same = of_word k rest (only k refl) values }

-- a word with no fault but Value, before words without a faulty number
then_value : {A B : Type 0} (r : Result A LineKind) (f : A → Result B LineKind) {rest : Faults} → OnlyValue r → NoNumber rest
    → ((x : A) → IsKindOf (f x) rest) → IsKindOf (r >>= f) (fault_in r ∷ rest)
then_value r f only values read = then_values r f (value_of_word r only) values read

-- without words there is no faulty number
no_words : NoNumber []
no_words = record { none = refl }

-- no word has a fault
no_fault : {A : Type 0} (x : A) → IsKindOf (Ok x) []
no_fault x = record { same = refl }

-- a word with no fault but Value, and words without a faulty number
no_number : {A : Type 0} (r : Result A LineKind) {rest : Faults} → OnlyValue r → NoNumber rest → NoNumber (fault_in r ∷ rest)
no_number (Ok x) only values = record { none = values.none }
no_number (Err k) only values = record { none = rw (only k refl) values.none }

or_swapped : (a b c : Bool) → (a || (b || c)) ≡ (b || (a || c))
or_swapped true true c = refl
or_swapped true false c = refl
or_swapped false true c = refl
or_swapped false false c = refl

-- the order of the words does not matter
swapped : {B : Type 0} (r : Result B LineKind) (a b : Option LineKind) (rest : Faults) → IsKindOf r (b ∷ a ∷ rest) → IsKindOf r (a ∷ b ∷ rest)
swapped r a b rest read = record {
  same = rw (or_swapped (is_number a) (is_number b) (list_any is_number rest), or_swapped (is_fault a) (is_fault b) (list_any is_fault rest)) read.same;
}

-- the words of a line with a right count, or another count
abbrev IsDraftKind : DraftWord → List (List ℕ) → Type 0
IsDraftKind word args = fault_in (draft_line word args) ≡ count_or_kind (draft_faults word args)

at_order : (args : List (List ℕ)) → IsDraftKind draft.At args
at_order (moment ∷ []) = (number_first (number_in _ moment) _ (number_only _ moment) (λ t. no_fault _)).same
at_order [] = refl
at_order (a ∷ b ∷ more) = refl

action_order : (args : List (List ℕ)) → IsDraftKind draft.Action args
action_order (id ∷ any ∷ inactive ∷ active ∷ []) =
    let last = no_number (implicit_in active) (implicit_only active) no_words in
    let later = no_number (implicit_in inactive) (implicit_only inactive) last in
    let behind = no_number (implicit_in any) (implicit_only any) later in
    (then_value (id_in id) _ (id_only id) behind
    (λ i. then_value (implicit_in any) _ (implicit_only any) later
    (λ a. then_value (implicit_in inactive) _ (implicit_only inactive) last
    (λ b. then_value (implicit_in active) _ (implicit_only active) no_words (λ c. no_fault _))))).same
action_order [] = refl
action_order (a ∷ []) = refl
action_order (a ∷ b ∷ []) = refl
action_order (a ∷ b ∷ c ∷ []) = refl
action_order (a ∷ b ∷ c ∷ d ∷ e ∷ more) = refl

imply_order : (args : List (List ℕ)) → IsDraftKind draft.Imply args
imply_order (id ∷ implied ∷ []) =
    (then_value (id_in id) _ (id_only id) (no_number (id_in implied) (id_only implied) no_words)
    (λ i. then_value (id_in implied) _ (id_only implied) no_words (λ j. no_fault _))).same
imply_order [] = refl
imply_order (a ∷ []) = refl
imply_order (a ∷ b ∷ c ∷ more) = refl

owner_order : (args : List (List ℕ)) → IsDraftKind draft.Owner args
owner_order (id ∷ identities ∷ []) =
    (then_value (id_in id) _ (id_only id) (no_number (texts_in identities) (texts_only identities) no_words)
    (λ i. then_value (texts_in identities) _ (texts_only identities) no_words (λ os. no_fault _))).same
owner_order [] = refl
owner_order (a ∷ []) = refl
owner_order (a ∷ b ∷ c ∷ more) = refl

entry_order : (args : List (List ℕ)) → IsDraftKind draft.Entry args
entry_order (identities ∷ actions ∷ any ∷ inactive ∷ active ∷ []) =
    let some = no_number (some_value_in any inactive active) (some_value_only any inactive active) no_words in
    let last = no_number (optional_implicit_in active) (optional_implicit_only active) some in
    let later = no_number (optional_implicit_in inactive) (optional_implicit_only inactive) last in
    let values = no_number (optional_implicit_in any) (optional_implicit_only any) later in
    let behind = no_number (texts_in actions) (texts_only actions) values in
    (then_value (texts_in identities) _ (texts_only identities) behind
    (λ is. then_value (texts_in actions) _ (texts_only actions) values
    (λ os. then_value (optional_implicit_in any) _ (optional_implicit_only any) later
    (λ a. then_value (optional_implicit_in inactive) _ (optional_implicit_only inactive) last
    (λ b. then_value (optional_implicit_in active) _ (optional_implicit_only active) some
    (λ c. then_value (some_value_in any inactive active) _ (some_value_only any inactive active) no_words (λ s. no_fault _))))))).same
entry_order [] = refl
entry_order (a ∷ []) = refl
entry_order (a ∷ b ∷ []) = refl
entry_order (a ∷ b ∷ c ∷ []) = refl
entry_order (a ∷ b ∷ c ∷ d ∷ []) = refl
entry_order (a ∷ b ∷ c ∷ d ∷ e ∷ f ∷ more) = refl

admins_order : (args : List (List ℕ)) → IsDraftKind draft.Admins args
admins_order (items ∷ []) = (then_value (texts_in items) _ (texts_only items) no_words (λ is. no_fault _)).same
admins_order [] = refl
admins_order (a ∷ b ∷ more) = refl

user_order : (args : List (List ℕ)) → IsDraftKind draft.User args
user_order (uid ∷ name ∷ gids ∷ []) =
    (number_first (number_32_in uid) _ (number_32_only uid)
    (λ u. swapped _ (fault_in (text_in name)) (fault_in (gids_in gids)) [] (number_first (gids_in gids) _ (gids_only gids)
    (λ gs. then_value (text_in name) _ (text_only name) no_words (λ n. no_fault _))))).same
user_order [] = refl
user_order (a ∷ []) = refl
user_order (a ∷ b ∷ []) = refl
user_order (a ∷ b ∷ c ∷ d ∷ more) = refl

group_order : (args : List (List ℕ)) → IsDraftKind draft.Group args
group_order (gid ∷ name ∷ []) =
    (number_first (number_32_in gid) _ (number_32_only gid) (λ g. then_value (text_in name) _ (text_only name) no_words (λ n. no_fault _))).same
group_order [] = refl
group_order (a ∷ []) = refl
group_order (a ∷ b ∷ c ∷ more) = refl

session_order : (args : List (List ℕ)) → IsDraftKind draft.Session args
session_order (id ∷ uid ∷ local ∷ active ∷ []) =
    let last = no_number (active_in active) (active_only active) no_words in
    (swapped _ (fault_in (text_in id)) (fault_in (number_32_in uid)) _ (number_first (number_32_in uid) _ (number_32_only uid)
    (λ u. then_value (text_in id) _ (text_only id) (no_number (local_in local) (local_only local) last)
    (λ i. then_value (local_in local) _ (local_only local) last
    (λ l. then_value (active_in active) _ (active_only active) no_words (λ a. no_fault _)))))).same
session_order [] = refl
session_order (a ∷ []) = refl
session_order (a ∷ b ∷ []) = refl
session_order (a ∷ b ∷ c ∷ []) = refl
session_order (a ∷ b ∷ c ∷ d ∷ e ∷ more) = refl

process_order : (args : List (List ℕ)) → IsDraftKind draft.Process args
process_order (pid ∷ start ∷ uid ∷ session ∷ []) =
    (number_first (number_32_in pid) _ (number_32_only pid)
    (λ p. number_first (number_64_in start) _ (number_64_only start)
    (λ s. number_first (number_32_in uid) _ (number_32_only uid)
    (λ u. then_value (session_in session) _ (session_only session) no_words (λ n. no_fault _))))).same
process_order [] = refl
process_order (a ∷ []) = refl
process_order (a ∷ b ∷ []) = refl
process_order (a ∷ b ∷ c ∷ []) = refl
process_order (a ∷ b ∷ c ∷ d ∷ e ∷ more) = refl

gone_process_order : (args : List (List ℕ)) → IsDraftKind draft.GoneProcess args
gone_process_order (pid ∷ start ∷ []) =
    (number_first (number_32_in pid) _ (number_32_only pid) (λ p. number_first (number_64_in start) _ (number_64_only start) (λ s. no_fault _))).same
gone_process_order [] = refl
gone_process_order (a ∷ []) = refl
gone_process_order (a ∷ b ∷ c ∷ more) = refl

gone_session_order : (args : List (List ℕ)) → IsDraftKind draft.GoneSession args
gone_session_order (id ∷ []) = (then_value (text_in id) _ (text_only id) no_words (λ i. no_fault _)).same
gone_session_order [] = refl
gone_session_order (a ∷ b ∷ more) = refl

gone_action_order : (args : List (List ℕ)) → IsDraftKind draft.GoneAction args
gone_action_order (id ∷ []) = (then_value (id_in id) _ (id_only id) no_words (λ i. no_fault _)).same
gone_action_order [] = refl
gone_action_order (a ∷ b ∷ more) = refl

reload_order : (args : List (List ℕ)) → IsDraftKind draft.Reload args
reload_order [] = refl
reload_order (a ∷ more) = refl

draft_order : (word : DraftWord) (args : List (List ℕ)) → IsDraftKind word args
draft_order draft.At args = at_order args
draft_order draft.Action args = action_order args
draft_order draft.Imply args = imply_order args
draft_order draft.Owner args = owner_order args
draft_order draft.Entry args = entry_order args
draft_order draft.Admins args = admins_order args
draft_order draft.User args = user_order args
draft_order draft.Group args = group_order args
draft_order draft.Session args = session_order args
draft_order draft.Process args = process_order args
draft_order draft.GoneProcess args = gone_process_order args
draft_order draft.GoneSession args = gone_session_order args
draft_order draft.GoneAction args = gone_action_order args
draft_order draft.Reload args = reload_order args

-- the same of a line of a connection
abbrev IsCallerKind : CallerWord → List (List ℕ) → Type 0
IsCallerKind word args = fault_in (caller_line word args) ≡ count_or_kind (caller_faults word args)

then_kept : {A B : Type 0} (r : Result A LineKind) (f : A → B) {faults : Faults} → IsKindOf r faults → IsKindOf (r >>= (λ x. Ok (f x))) faults
then_kept (Ok x) f read = record { same = read.same }
then_kept (Err k) f read = record { same = read.same }

-- a call has the faults of N S and of what is said
called : (caller serial : List ℕ) (said : Result Call LineKind) {faults : Faults} → IsKindOf said faults
    → fault_in (call_event caller serial said) ≡ count_or_kind (behind_call caller serial faults)
called caller serial said read =
    (number_first (caller_in caller) _ (caller_only caller) (λ c. number_first (serial_in serial) _ (serial_only serial) (λ s. then_kept said _ read))).same

replied : (caller serial : List ℕ) (event : ℕ → Event) → fault_in (serial_event caller serial event) ≡ count_or_kind (behind_call caller serial [])
replied caller serial event =
    (number_first (caller_in caller) _ (caller_only caller) (λ c. number_first (serial_in serial) _ (serial_only serial) (λ s. no_fault _))).same

peer_order : (args : List (List ℕ)) → IsCallerKind caller_word.Peer args
peer_order (caller ∷ uid ∷ []) =
    (number_first (caller_in caller) _ (caller_only caller) (λ c. number_first (number_32_in uid) _ (number_32_only uid) (λ u. no_fault _))).same
peer_order [] = refl
peer_order (a ∷ []) = refl
peer_order (a ∷ b ∷ c ∷ more) = refl

depart_order : (args : List (List ℕ)) → IsCallerKind caller_word.Depart args
depart_order (caller ∷ []) = (number_first (caller_in caller) _ (caller_only caller) (λ c. no_fault _)).same
depart_order [] = refl
depart_order (a ∷ b ∷ more) = refl

announce_order : (args : List (List ℕ)) → IsCallerKind caller_word.Announce args
announce_order (caller ∷ serial ∷ pid ∷ start ∷ []) =
    called caller serial (announce_call pid start)
    (number_first (number_32_in pid) _ (number_32_only pid) (λ p. number_first (number_64_in start) _ (number_64_only start) (λ s. no_fault _)))
announce_order [] = refl
announce_order (a ∷ []) = refl
announce_order (a ∷ b ∷ []) = refl
announce_order (a ∷ b ∷ c ∷ []) = refl
announce_order (a ∷ b ∷ c ∷ d ∷ e ∷ more) = refl

if_kind : {A : Type 0} (b : Bool) (r : Result A LineKind) (faults : Option Faults) → fault_in r ≡ count_or_kind faults
    → fault_in (if b then Err kind.Count else r) ≡ count_or_kind (if b then None else faults)
if_kind true r faults read = refl
if_kind false r faults read = read

check_order : (args : List (List ℕ)) → IsCallerKind caller_word.Check args
unfolding check_event
check_order (caller ∷ serial ∷ subject ∷ action ∷ more) =
    let last = no_number (options_in more) (options_only more) no_words in
    if_kind (nat_lt 2 (length more)) (check_event caller serial subject action more) _
    (called caller serial (check_call subject action more)
    (then_values (subject_in subject) _ (subject_only subject) (no_number (text_in action) (text_only action) last)
    (λ b. then_value (text_in action) _ (text_only action) last
    (λ a. then_value (options_in more) _ (options_only more) no_words (λ o. no_fault _)))))
check_order [] = refl
check_order (a ∷ []) = refl
check_order (a ∷ b ∷ []) = refl
check_order (a ∷ b ∷ c ∷ []) = refl

text_order : (caller serial text : List ℕ) (said : List ℕ → Call)
    → fault_in (call_event caller serial (text_call said text)) ≡ count_or_kind (behind_call caller serial (fault_in (text_in text) ∷ []))
text_order caller serial text said = called caller serial (text_call said text) (then_value (text_in text) _ (text_only text) no_words (λ t. no_fault _))

cancel_order : (args : List (List ℕ)) → IsCallerKind caller_word.Cancel args
cancel_order (caller ∷ serial ∷ id ∷ []) = text_order caller serial id _
cancel_order [] = refl
cancel_order (a ∷ []) = refl
cancel_order (a ∷ b ∷ []) = refl
cancel_order (a ∷ b ∷ c ∷ d ∷ more) = refl

register_order : (args : List (List ℕ)) → IsCallerKind caller_word.Register args
register_order (caller ∷ serial ∷ subject ∷ path ∷ []) =
    called caller serial (register_call subject path)
    (then_values (subject_in subject) _ (subject_only subject) (no_number (text_in path) (text_only path) no_words)
    (λ b. then_value (text_in path) _ (text_only path) no_words (λ p. no_fault _)))
register_order [] = refl
register_order (a ∷ []) = refl
register_order (a ∷ b ∷ []) = refl
register_order (a ∷ b ∷ c ∷ []) = refl
register_order (a ∷ b ∷ c ∷ d ∷ e ∷ more) = refl

unregister_order : (args : List (List ℕ)) → IsCallerKind caller_word.Unregister args
unregister_order (caller ∷ serial ∷ subject ∷ path ∷ []) =
    called caller serial (unregister_call subject path)
    (then_values (subject_in subject) _ (subject_only subject) (no_number (text_in path) (text_only path) no_words)
    (λ b. then_value (text_in path) _ (text_only path) no_words (λ p. no_fault _)))
unregister_order [] = refl
unregister_order (a ∷ []) = refl
unregister_order (a ∷ b ∷ []) = refl
unregister_order (a ∷ b ∷ c ∷ []) = refl
unregister_order (a ∷ b ∷ c ∷ d ∷ e ∷ more) = refl

respond_order : (args : List (List ℕ)) → IsCallerKind caller_word.Respond args
respond_order (caller ∷ serial ∷ cookie ∷ identity ∷ []) =
    called caller serial (respond_call cookie identity)
    (swapped _ (fault_in (text_in cookie)) (fault_in (identity_in identity)) []
    (then_values (identity_in identity) _ (identity_only identity) (no_number (text_in cookie) (text_only cookie) no_words)
    (λ i. then_value (text_in cookie) _ (text_only cookie) no_words (λ c. no_fault _))))
respond_order [] = refl
respond_order (a ∷ []) = refl
respond_order (a ∷ b ∷ []) = refl
respond_order (a ∷ b ∷ c ∷ []) = refl
respond_order (a ∷ b ∷ c ∷ d ∷ e ∷ more) = refl

return_order : (args : List (List ℕ)) → IsCallerKind caller_word.Return args
return_order (caller ∷ serial ∷ []) = replied caller serial _
return_order [] = refl
return_order (a ∷ []) = refl
return_order (a ∷ b ∷ c ∷ more) = refl

dismiss_order : (args : List (List ℕ)) → IsCallerKind caller_word.Dismiss args
dismiss_order (caller ∷ serial ∷ []) = replied caller serial _
dismiss_order [] = refl
dismiss_order (a ∷ []) = refl
dismiss_order (a ∷ b ∷ c ∷ more) = refl

fail_order : (args : List (List ℕ)) → IsCallerKind caller_word.Fail args
fail_order (caller ∷ serial ∷ []) = replied caller serial _
fail_order [] = refl
fail_order (a ∷ []) = refl
fail_order (a ∷ b ∷ c ∷ more) = refl

subject_order : (caller serial subject : List ℕ) (said : Subject → Call)
    → fault_in (call_event caller serial (subject_call said subject)) ≡ count_or_kind (behind_call caller serial (fault_in (subject_in subject) ∷ []))
subject_order caller serial subject said =
    called caller serial (subject_call said subject) (then_values (subject_in subject) _ (subject_only subject) no_words (λ b. no_fault _))

actions_order : (args : List (List ℕ)) → IsCallerKind caller_word.Actions args
actions_order (caller ∷ serial ∷ locale ∷ []) = text_order caller serial locale _
actions_order [] = refl
actions_order (a ∷ []) = refl
actions_order (a ∷ b ∷ []) = refl
actions_order (a ∷ b ∷ c ∷ d ∷ more) = refl

grants_order : (args : List (List ℕ)) → IsCallerKind caller_word.Grants args
grants_order (caller ∷ serial ∷ subject ∷ []) = subject_order caller serial subject _
grants_order [] = refl
grants_order (a ∷ []) = refl
grants_order (a ∷ b ∷ []) = refl
grants_order (a ∷ b ∷ c ∷ d ∷ more) = refl

revoke_order : (args : List (List ℕ)) → IsCallerKind caller_word.Revoke args
revoke_order (caller ∷ serial ∷ subject ∷ []) = subject_order caller serial subject _
revoke_order [] = refl
revoke_order (a ∷ []) = refl
revoke_order (a ∷ b ∷ []) = refl
revoke_order (a ∷ b ∷ c ∷ d ∷ more) = refl

revoke_id_order : (args : List (List ℕ)) → IsCallerKind caller_word.RevokeId args
revoke_id_order (caller ∷ serial ∷ id ∷ []) = text_order caller serial id _
revoke_id_order [] = refl
revoke_id_order (a ∷ []) = refl
revoke_id_order (a ∷ b ∷ []) = refl
revoke_id_order (a ∷ b ∷ c ∷ d ∷ more) = refl

caller_order : (word : CallerWord) (args : List (List ℕ)) → IsCallerKind word args
caller_order caller_word.Peer args = peer_order args
caller_order caller_word.Depart args = depart_order args
caller_order caller_word.Announce args = announce_order args
caller_order caller_word.Check args = check_order args
caller_order caller_word.Cancel args = cancel_order args
caller_order caller_word.Register args = register_order args
caller_order caller_word.Unregister args = unregister_order args
caller_order caller_word.Respond args = respond_order args
caller_order caller_word.Return args = return_order args
caller_order caller_word.Dismiss args = dismiss_order args
caller_order caller_word.Fail args = fail_order args
caller_order caller_word.Actions args = actions_order args
caller_order caller_word.Grants args = grants_order args
caller_order caller_word.Revoke args = revoke_order args
caller_order caller_word.RevokeId args = revoke_id_order args

line_order : (word : FirstWord) (args : List (List ℕ)) → fault_in (line_of word args) ≡ count_or_kind (faults_of word args)
line_order (first.Draft word) args = draft_order word args
line_order (first.Caller word) args = caller_order word args

word_order : (word : Option FirstWord) (args : List (List ℕ)) → fault_in (line_from word args) ≡ word_or_kind word args
word_order None args = refl
word_order (Some word) args = line_order word args

words_order : (words : List (List ℕ)) → fault_in (step_of_words words) ≡ kind_of_words words
words_order [] = refl
words_order (word ∷ args) = word_order (first_word_of word) args

if_order : {A : Type 0} (b : Bool) (r q : Result A LineKind) (x y : Option LineKind) → fault_in r ≡ x → fault_in q ≡ y
    → fault_in (if b then r else q) ≡ (if b then x else y)
if_order true r q x y p s = p
if_order false r q x y p s = s

-- the fault of a line is the first of the kinds that it has
pub step_order : (line : List ℕ) → fault_in (step_of line) ≡ line_kind line
unfolding step_of line_kind
step_order line =
    if_order (nat_lt 4096 (length line)) (Err kind.TooLong) _ _ _ refl
    (if_order (is_blank line) _ (step_of_words (pieces_of 32 line)) _ _ refl (words_order (pieces_of 32 line)))
