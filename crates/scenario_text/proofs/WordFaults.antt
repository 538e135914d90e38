-- Which faults the words of a line have.
use Rattle.std.proofs.Common.{◌≡◌, ◌==◌, [], ◌∷◌, List, ℕ, Bool, true, false, Option, None, Some, Result, Ok, Err, if◌then◌else◌, refl, codes, length}
use Rattle.pk_types.specs.Decimals.{decimal_up_to}
use Rattle.pk_types.specs.Values.{implicit_of_word}
use Rattle.pk_types.specs.Pieces.{pieces_of}
use Rattle.authority_model.specs.Words.{after_front}
use Rattle.scenario_text.specs.declared.check_options.CheckOptions.{CheckOptions}
use Rattle.scenario_text.specs.declared.fault.LineKind.{LineKind}
use Rattle.scenario_text.specs.declared.fault.LineKind.TheVariants as kind
use Rattle.scenario_text.specs.Faults.{◌>>=◌, or_fault}
use Rattle.scenario_text.specs.Words.{number_in, positive, positive_in, caller_in, serial_in, number_32_in, number_64_in, implicit_in, optional_implicit_in, some_value_in, any_text_in, text_in, id_in, local_in, active_in, session_in, each_in, texts_in, gids_in}
use Rattle.scenario_text.specs.Subjects.{process_subject, bus_subject, subject_of_parts, subject_of, subject_in, identity_of_parts, identity_in}
use Rattle.scenario_text.specs.CallerLines.{no_options, asking, with_cancel, cancel_of, cancel_in, options_in}

-- a fault that a word has by itself
pub data IsOfWord : LineKind → Type 0 where
  number : IsOfWord kind.Number
  value : IsOfWord kind.Value

-- no faults but these
abbrev pub Only : {A : Type 0} → (LineKind → Type 0) → Result A LineKind → Type 0
Only P r = (k : LineKind) → r ≡ Err k → P k

-- no fault but Number
abbrev pub OnlyNumber : {A : Type 0} → Result A LineKind → Type 0
OnlyNumber r = Only (λ k. k ≡ kind.Number) r

-- no fault but Value
abbrev pub OnlyValue : {A : Type 0} → Result A LineKind → Type 0
OnlyValue r = Only (λ k. k ≡ kind.Value) r

-- no fault but Number and Value
abbrev pub OnlyOfWord : {A : Type 0} → Result A LineKind → Type 0
OnlyOfWord r = Only IsOfWord r

pub value_of_word : {A : Type 0} (r : Result A LineKind) → OnlyValue r → OnlyOfWord r
value_of_word r only k e = rw (only k e) value

pub number_of_word : {A : Type 0} (r : Result A LineKind) → OnlyNumber r → OnlyOfWord r
number_of_word r only k e = rw (only k e) number

only_ok : {A : Type 0} (P : LineKind → Type 0) (x : A) → Only P (Ok x)
only_ok P x k e = absurd (cc)

only_err : {A : Type 0} (P : LineKind → Type 0) (k : LineKind) (r : Result A LineKind) → r ≡ Err k → P k → Only P r
only_err P k r is p j e = let same : k ≡ j = cc in rw same at p

only_if : {A : Type 0} (P : LineKind → Type 0) (b : Bool) (r q : Result A LineKind) → Only P r → Only P q → Only P (if b then r else q)
only_if P true r q first second = first
only_if P false r q first second = second

only_bind : {A B : Type 0} (P : LineKind → Type 0) (r : Result A LineKind) (f : A → Result B LineKind) → Only P r → ((x : A) → Only P (f x)) → Only P (r >>= f)
only_bind P (Ok x) f only rest j e = rest x j e
only_bind P (Err k) f only rest j e = only j (cc)

only_or : {A : Type 0} (k : LineKind) (o : Option A) → Only (λ j. j ≡ k) (or_fault k o)
only_or k None j e = cc
only_or k (Some x) j e = absurd (cc)

only_each : {A : Type 0} (P : LineKind → Type 0) (read : List ℕ → Result A LineKind) (words : List (List ℕ)) → ((word : List ℕ) → Only P (read word))
    → Only P (each_in read words)
only_each P read [] each = only_ok P []
only_each P read (word ∷ words) each =
    only_bind P (read word) _ (each word) (λ x. only_bind P (each_in read words) _ (only_each P read words each) (λ xs. only_ok P (x ∷ xs)))

only_positive : (r : Result ℕ LineKind) → OnlyNumber r → OnlyNumber (r >>= positive)
only_positive r only =
    only_bind (λ k. k ≡ kind.Number) r positive only
    (λ n. only_if (λ k. k ≡ kind.Number) (n == 0) (Err kind.Number) (Ok n) (only_err (λ k. k ≡ kind.Number) kind.Number (Err kind.Number) refl refl) (only_ok (λ k. k ≡ kind.Number) n))

pub number_only : (greatest : ℕ) (word : List ℕ) → OnlyNumber (number_in greatest word)
number_only greatest word = only_or kind.Number (decimal_up_to greatest word)

pub number_32_only : (word : List ℕ) → OnlyNumber (number_32_in word)
unfolding number_32_in
number_32_only word = number_only _ word

pub number_64_only : (word : List ℕ) → OnlyNumber (number_64_in word)
unfolding number_64_in
number_64_only word = number_only _ word

positive_only : (greatest : ℕ) (word : List ℕ) → OnlyNumber (positive_in greatest word)
positive_only greatest word = only_positive (number_in greatest word) (number_only greatest word)

pub caller_only : (word : List ℕ) → OnlyNumber (caller_in word)
unfolding caller_in
caller_only word = positive_only _ word

pub serial_only : (word : List ℕ) → OnlyNumber (serial_in word)
unfolding serial_in
serial_only word = positive_only _ word

-- a word that is out of its form
out_of_form : {A : Type 0} (r : Result A LineKind) → r ≡ Err kind.Value → OnlyValue r
out_of_form r is = only_err (λ k. k ≡ kind.Value) kind.Value r is refl

if_value : {A : Type 0} (b : Bool) (r : Result A LineKind) → OnlyValue r → OnlyValue (if b then r else Err kind.Value)
if_value b r only = only_if (λ k. k ≡ kind.Value) b r (Err kind.Value) only (out_of_form (Err kind.Value) refl)

pub implicit_only : (word : List ℕ) → OnlyValue (implicit_in word)
unfolding implicit_in
implicit_only word = only_or kind.Value (implicit_of_word word)

pub optional_implicit_only : (word : List ℕ) → OnlyValue (optional_implicit_in word)
unfolding optional_implicit_in
optional_implicit_only word =
    only_if (λ k. k ≡ kind.Value) _ (Ok None) _ (only_ok (λ k. k ≡ kind.Value) None)
    (only_bind (λ k. k ≡ kind.Value) (implicit_in word) _ (implicit_only word) (λ value. only_ok (λ k. k ≡ kind.Value) (Some value)))

pub some_value_only : (any inactive active : List ℕ) → OnlyValue (some_value_in any inactive active)
unfolding some_value_in
some_value_only any inactive active =
    only_if (λ k. k ≡ kind.Value) _ (Err kind.Value) (Ok true) (out_of_form (Err kind.Value) refl) (only_ok (λ k. k ≡ kind.Value) true)

any_text_only : (word : List ℕ) → OnlyValue (any_text_in word)
any_text_only word = if_value _ (Ok word) (only_ok (λ k. k ≡ kind.Value) word)

pub text_only : (word : List ℕ) → OnlyValue (text_in word)
unfolding text_in
text_only word = only_if (λ k. k ≡ kind.Value) (length word == 0) (Err kind.Value) (any_text_in word) (out_of_form (Err kind.Value) refl) (any_text_only word)

pub id_only : (word : List ℕ) → OnlyValue (id_in word)
unfolding id_in
id_only word = if_value _ (Ok word) (only_ok (λ k. k ≡ kind.Value) word)

either_only : (b c : Bool) → OnlyValue (if b then Ok true else if c then Ok false else Err kind.Value)
either_only b c =
    only_if (λ k. k ≡ kind.Value) b (Ok true) (if c then Ok false else Err kind.Value) (only_ok (λ k. k ≡ kind.Value) true)
    (if_value c (Ok false) (only_ok (λ k. k ≡ kind.Value) false))

pub local_only : (word : List ℕ) → OnlyValue (local_in word)
unfolding local_in
local_only word = either_only _ _

pub active_only : (word : List ℕ) → OnlyValue (active_in word)
unfolding active_in
active_only word = either_only _ _

pub session_only : (word : List ℕ) → OnlyValue (session_in word)
unfolding session_in
session_only word =
    only_if (λ k. k ≡ kind.Value) _ (Ok None) _ (only_ok (λ k. k ≡ kind.Value) None)
    (only_bind (λ k. k ≡ kind.Value) (text_in word) _ (text_only word) (λ id. only_ok (λ k. k ≡ kind.Value) (Some id)))

pub texts_only : (word : List ℕ) → OnlyValue (texts_in word)
unfolding texts_in
texts_only word = only_each (λ k. k ≡ kind.Value) text_in (pieces_of 59 word) text_only

pub gids_only : (word : List ℕ) → OnlyNumber (gids_in word)
unfolding gids_in
gids_only word =
    only_if (λ k. k ≡ kind.Number) _ (Ok []) _ (only_ok (λ k. k ≡ kind.Number) [])
    (only_each (λ k. k ≡ kind.Number) number_32_in (pieces_of 44 word) number_32_only)

if_of_word : {A : Type 0} (b : Bool) (r : Result A LineKind) → OnlyOfWord r → OnlyOfWord (if b then r else Err kind.Value)
if_of_word b r only = only_if IsOfWord b r (Err kind.Value) only (only_err IsOfWord kind.Value (Err kind.Value) refl value)

process_only : (pid start : List ℕ) → OnlyOfWord (process_subject pid start)
process_only pid start =
    only_bind IsOfWord (number_32_in pid) _ (number_of_word (number_32_in pid) (number_32_only pid))
    (λ p. only_bind IsOfWord (number_64_in start) _ (number_of_word (number_64_in start) (number_64_only start)) (λ s. only_ok IsOfWord _))

bus_only : (caller : List ℕ) → OnlyOfWord (bus_subject caller)
bus_only caller = only_bind IsOfWord (caller_in caller) _ (number_of_word (caller_in caller) (caller_only caller)) (λ c. only_ok IsOfWord _)

parts_only : (parts : List (List ℕ)) → OnlyOfWord (subject_of_parts parts)
parts_only [] = only_err IsOfWord kind.Value _ refl value
parts_only (a ∷ []) = only_err IsOfWord kind.Value _ refl value
parts_only (word ∷ caller ∷ []) = if_of_word _ (bus_subject caller) (bus_only caller)
parts_only (word ∷ pid ∷ start ∷ []) = if_of_word _ (process_subject pid start) (process_only pid start)
parts_only (a ∷ b ∷ c ∷ d ∷ more) = only_err IsOfWord kind.Value _ refl value

subject_of_only : (id : Option (List ℕ)) (parts : List (List ℕ)) → OnlyOfWord (subject_of id parts)
subject_of_only (Some id) parts = only_bind IsOfWord (text_in id) _ (value_of_word (text_in id) (text_only id)) (λ text. only_ok IsOfWord _)
subject_of_only None parts = parts_only parts

pub subject_only : (word : List ℕ) → OnlyOfWord (subject_in word)
unfolding subject_in
subject_only word = subject_of_only (after_front (codes "session:") word) (pieces_of 58 word)

identity_of_only : (parts : List (List ℕ)) → OnlyOfWord (identity_of_parts parts)
identity_of_only [] = only_err IsOfWord kind.Value _ refl value
identity_of_only (a ∷ []) = only_err IsOfWord kind.Value _ refl value
identity_of_only (word ∷ uid ∷ []) =
    if_of_word _ _ (only_bind IsOfWord (number_32_in uid) _ (number_of_word (number_32_in uid) (number_32_only uid)) (λ u. only_ok IsOfWord _))
identity_of_only (a ∷ b ∷ c ∷ more) = only_err IsOfWord kind.Value _ refl value

pub identity_only : (word : List ℕ) → OnlyOfWord (identity_in word)
unfolding identity_in
identity_only word = identity_of_only (pieces_of 58 word)

cancel_of_only : (id : Option (List ℕ)) → OnlyValue (cancel_of id)
cancel_of_only None = out_of_form (Err kind.Value) refl
cancel_of_only (Some id) = text_only id

cancel_only : (word : List ℕ) → OnlyValue (cancel_in word)
unfolding cancel_in
cancel_only word = cancel_of_only (after_front (codes "cancel=") word)

with_only : (options : CheckOptions) (word : List ℕ) → OnlyValue (with_cancel options (cancel_in word))
with_only options word = only_bind (λ k. k ≡ kind.Value) (cancel_in word) _ (cancel_only word) (λ id. only_ok (λ k. k ≡ kind.Value) _)

pub options_only : (words : List (List ℕ)) → OnlyValue (options_in words)
options_only [] = only_ok (λ k. k ≡ kind.Value) _
options_only (word ∷ []) = only_if (λ k. k ≡ kind.Value) _ (Ok asking) _ (only_ok (λ k. k ≡ kind.Value) asking) (with_only no_options word)
options_only (word ∷ id ∷ []) = if_value _ _ (with_only asking id)
options_only (a ∷ b ∷ c ∷ more) = out_of_form _ refl
