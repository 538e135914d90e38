-- The bytes of a reply to a check, part by part.
use Rattle.std.proofs.Common.{◌≡◌, ℕ, zero, suc, ◌+◌, ◌-◌, ◌<◌, ◌≤◌, List, [], ◌∷◌, ◌++◌, length, take, map, Bool, true, false, nat_lt, Result, Ok, Err, OnOk, refl, ap, sym, subst, ◌∙◌, arith, length-append, append_assoc}
use Rattle.std.proofs.lemmas.List.{append-nil}
use Rattle.std.specs.Prelude.{if◌then◌else◌, codes, is_some}
use Rattle.std.proofs.lemmas.Bool.Decides.{nat_tests}
use Rattle.pk_types.specs.Text.{text_fault_of}
use Rattle.dbus_values.specs.declared.codes.TheConstants.{MAX_MESSAGE}
use Rattle.authority_model.specs.declared.load.Loaded.{Loaded}
use Rattle.authority_model.specs.declared.message.Answer.TheVariants as answer
use Rattle.authority_model.specs.Reasons.{reason_text}
use Rattle.authority_messages.specs.Messages.{size, is_over, reply}
use Rattle.authority_messages.proofs.Sizes.{same_size}
use Rattle.std.specs.Int.{w32}
use Rattle.pk_types.specs.declared.values.Pair.{Pair}
use Rattle.dbus_values.specs.Basics.{gap}
use Rattle.dbus_values.specs.Trees.{Tree, bytes_of, padding, marshalled, all_marshalled}
use Rattle.dbus_values.specs.Form.{message_bytes}
use Rattle.dbus_values.proofs.Numbers.{length-padding, wide32}
use Rattle.authority_model.specs.declared.verdict.Verdict.{Verdict}
use Rattle.authority_model.specs.Details.{detail, keep_detail, details_of}
use Rattle.authority_model.specs.Words.{Bytes}
use Rattle.authority_messages.specs.Values.{row, string, boolean, struct, pair, pairs, authorization_result}
use Rattle.authority_messages.specs.Outgoing.{Outgoing, under, return_to}
use Rattle.usual_replies.specs.declared.verdict_bytes.TheConstants.{DECIDED_BY}
use Rattle.usual_replies.specs.Straight.{details_bytes, details_end, first_bytes, truth_bytes}

pub zeros_taken : (n : ℕ) → n < 8 → take n (0 ∷ 0 ∷ 0 ∷ 0 ∷ 0 ∷ 0 ∷ 0 ∷ []) ≡ padding n
unfolding padding
zeros_taken zero few = refl
zeros_taken (suc zero) few = refl
zeros_taken (suc (suc zero)) few = refl
zeros_taken (suc (suc (suc zero))) few = refl
zeros_taken (suc (suc (suc (suc zero)))) few = refl
zeros_taken (suc (suc (suc (suc (suc zero))))) few = refl
zeros_taken (suc (suc (suc (suc (suc (suc zero)))))) few = refl
zeros_taken (suc (suc (suc (suc (suc (suc (suc zero))))))) few = refl
zeros_taken (suc (suc (suc (suc (suc (suc (suc (suc n)))))))) few = absurd (omega arith)

-- ---- texts

pub string_size : (at : ℕ) (t : Bytes) → length (marshalled false at (string t)) ≡ gap 4 at + 4 + length t + 1
string_size at t = omega (arith, length-append (padding (gap 4 at)) (bytes_of false w32 (length t) ++ (t ++ 0 ∷ [])), length-append (bytes_of false w32 (length t)) (t ++ 0 ∷ []), length-append t (0 ∷ []), length-padding (gap 4 at), wide32.len false (length t))

pub string_put : (a b c d e t : List ℕ) (at : ℕ) → b ≡ a ++ padding (gap 4 at) → c ≡ b ++ bytes_of false w32 (length t) → d ≡ c ++ t → e ≡ d ++ 0 ∷ [] → e ≡ a ++ marshalled false at (string t)
string_put a b c d e t at b-is c-is d-is e-is =
    let p = padding (gap 4 at) in
    let n = bytes_of false w32 (length t) in
    e-is ∙ ap (λ (x : List ℕ). x ++ 0 ∷ []) (d-is ∙ ap (λ (x : List ℕ). x ++ t) (c-is ∙ ap (λ (x : List ℕ). x ++ n) b-is))
    ∙ append_assoc ((a ++ p) ++ n) t (0 ∷ []) ∙ append_assoc (a ++ p) n (t ++ 0 ∷ []) ∙ append_assoc a p (n ++ (t ++ 0 ∷ []))

pub text_end_is : (at g n : ℕ) (t : Bytes) → g ≡ gap 4 at → n ≡ length t → at + g + 4 + n + 1 ≡ at + length (marshalled false at (string t))
text_end_is at g n t g-is n-is = omega (arith, g-is, n-is, string_size at t)

-- ---- details

pub detail_is : (at : ℕ) (k v : Bytes) → details_bytes at (detail k v) ≡ padding (gap 8 at) ++ (marshalled false (at + gap 8 at) (string k) ++ marshalled false (at + gap 8 at + length (marshalled false (at + gap 8 at) (string k))) (string v))
detail_is at k v = append-nil (padding (gap 8 at) ++ (marshalled false (at + gap 8 at) (string k) ++ marshalled false (at + gap 8 at + length (marshalled false (at + gap 8 at) (string k))) (string v)))

pub detail_size : (at : ℕ) (k v : Bytes) → length (details_bytes at (detail k v)) ≡ gap 8 at + length (marshalled false (at + gap 8 at) (string k)) + length (marshalled false (at + gap 8 at + length (marshalled false (at + gap 8 at) (string k))) (string v))
detail_size at k v =
    let m = marshalled false (at + gap 8 at) (string k) in
    let n = marshalled false (at + gap 8 at + length m) (string v) in
    omega (arith, ap length (detail_is at k v), length-append (padding (gap 8 at)) (m ++ n), length-append m n, length-padding (gap 8 at))

pub detail_end_is : (at g a b : ℕ) (k v : Bytes) → g ≡ gap 8 at → a ≡ at + g + length (marshalled false (at + g) (string k)) → b ≡ a + length (marshalled false a (string v)) → b ≡ details_end at (detail k v)
detail_end_is at g a b k v g-is a-is b-is =
    let place : at + g ≡ at + gap 8 at = ap (λ (n : ℕ). at + n) g-is in
    let first : length (marshalled false (at + g) (string k)) ≡ length (marshalled false (at + gap 8 at) (string k)) = ap (λ (n : ℕ). length (marshalled false n (string k))) place in
    let next : a ≡ at + gap 8 at + length (marshalled false (at + gap 8 at) (string k)) = omega (arith, a-is, place, first) in
    let last : length (marshalled false a (string v)) ≡ length (marshalled false (at + gap 8 at + length (marshalled false (at + gap 8 at) (string k))) (string v)) = ap (λ (n : ℕ). length (marshalled false n (string v))) next in
    omega (arith, b-is, next, last, detail_size at k v)

pub detail_put : (a b c d : List ℕ) (at : ℕ) (k v : Bytes) → b ≡ a ++ padding (gap 8 at) → c ≡ b ++ marshalled false (at + gap 8 at) (string k) → d ≡ c ++ marshalled false (at + gap 8 at + length (marshalled false (at + gap 8 at) (string k))) (string v) → d ≡ a ++ details_bytes at (detail k v)
detail_put a b c d at k v b-is c-is d-is =
    let p = padding (gap 8 at) in
    let m = marshalled false (at + gap 8 at) (string k) in
    let n = marshalled false (at + gap 8 at + length m) (string v) in
    d-is ∙ ap (λ (x : List ℕ). x ++ n) (c-is ∙ ap (λ (x : List ℕ). x ++ m) b-is) ∙ append_assoc (a ++ p) m n ∙ append_assoc a p (m ++ n) ∙ ap (λ (x : List ℕ). a ++ x) (sym (detail_is at k v))

pub details_append : (at : ℕ) (ps qs : List Pair) → details_bytes at (ps ++ qs) ≡ details_bytes at ps ++ details_bytes (details_end at ps) qs
details_append at [] qs = let k : at + 0 ≡ at = omega arith in rw k refl
details_append at (p ∷ ps) qs =
    let a = marshalled false at (pair p) in
    let b = details_bytes (at + length a) ps in
    let k : at + length (a ++ b) ≡ at + length a + length b = omega (arith, length-append a b) in
    ap (λ (x : List ℕ). a ++ x) (details_append (at + length a) ps qs) ∙ sym (append_assoc a b (details_bytes (at + length a + length b) qs)) ∙ ap (λ (n : ℕ). (a ++ b) ++ details_bytes n qs) (sym k)

-- ---- the first bytes and the truths

pub first_put : (old a b c d e f : List ℕ) (serial answered size : ℕ) → a ≡ old ++ (108 ∷ 2 ∷ 1 ∷ 1 ∷ []) → b ≡ a ++ bytes_of false w32 size → c ≡ b ++ bytes_of false w32 serial → d ≡ c ++ (23 ∷ 0 ∷ 0 ∷ 0 ∷ 5 ∷ 1 ∷ 117 ∷ 0 ∷ []) → e ≡ d ++ bytes_of false w32 answered
    → f ≡ e ++ (8 ∷ 1 ∷ 103 ∷ 0 ∷ 9 ∷ 40 ∷ 98 ∷ 98 ∷ 97 ∷ 123 ∷ 115 ∷ 115 ∷ 125 ∷ 41 ∷ 0 ∷ 0 ∷ []) → f ≡ old ++ first_bytes serial answered size
first_put old a b c d e f serial answered size a-is b-is c-is d-is e-is f-is = rw (f-is, e-is, d-is, c-is, b-is, a-is) (simp append_assoc)

pub truths_put : (old a b c d : List ℕ) (allowed challenge : Bool) (size : ℕ) → a ≡ old ++ bytes_of false w32 (if allowed then 1 else 0) → b ≡ a ++ bytes_of false w32 (if challenge then 1 else 0) → c ≡ b ++ bytes_of false w32 size → d ≡ c ++ bytes_of false w32 0 → d ≡ old ++ truth_bytes allowed challenge size
truths_put old a b c d allowed challenge size a-is b-is c-is d-is = rw (d-is, c-is, b-is, a-is) (simp append_assoc)

-- ---- the whole reply

first_size : (serial answered n : ℕ) → length (first_bytes serial answered n) ≡ 40
first_size serial answered n = refl

truth_size : (allowed challenge : Bool) (n : ℕ) → length (truth_bytes allowed challenge n) ≡ 16
truth_size allowed challenge n = refl

result_by : (serial answered : ℕ) (allowed challenge : Bool) (ps : List Pair)
    → message_bytes false (under serial (return_to answered (struct (boolean allowed ∷ boolean challenge ∷ pairs ps ∷ []) ∷ [])))
    ≡ first_bytes serial answered (length (truth_bytes allowed challenge (length (details_bytes 56 ps)) ++ ((details_bytes 56 ps ++ []) ++ []))) ++ (truth_bytes allowed challenge (length (details_bytes 56 ps)) ++ ((details_bytes 56 ps ++ []) ++ []))
unfolding padding
result_by serial answered allowed challenge ps = refl

pub result_is : (serial answered : ℕ) (allowed challenge : Bool) (ps : List Pair)
    → message_bytes false (under serial (return_to answered (struct (boolean allowed ∷ boolean challenge ∷ pairs ps ∷ []) ∷ [])))
    ≡ first_bytes serial answered (16 + length (details_bytes 56 ps)) ++ (truth_bytes allowed challenge (length (details_bytes 56 ps)) ++ details_bytes 56 ps)
result_is serial answered allowed challenge ps =
    let items = details_bytes 56 ps in
    let T = truth_bytes allowed challenge (length items) in
    let same : (items ++ []) ++ [] ≡ items = append-nil (items ++ []) ∙ append-nil items in
    let size : length (T ++ items) ≡ 16 + length items = omega (arith, length-append T items, truth_size allowed challenge (length items)) in
    result_by serial answered allowed challenge ps ∙ ap (λ (x : List ℕ). first_bytes serial answered (length (T ++ x)) ++ (T ++ x)) same
    ∙ ap (λ (n : ℕ). first_bytes serial answered n ++ (T ++ items)) size

-- the bytes of the details are those of the first and of the one that may follow
pub items_are : (v : Verdict) (first : Bytes) (middle : ℕ) → middle ≡ details_end 56 (detail DECIDED_BY.now first) → details_of v ≡ detail DECIDED_BY.now first ++ keep_detail v.keep
    → details_bytes 56 (details_of v) ≡ details_bytes 56 (detail DECIDED_BY.now first) ++ details_bytes middle (keep_detail v.keep)
items_are v first middle middle-is few =
    ap (λ (ps : List Pair). details_bytes 56 ps) few ∙ details_append 56 (detail DECIDED_BY.now first) (keep_detail v.keep)
    ∙ ap (λ (n : ℕ). details_bytes 56 (detail DECIDED_BY.now first) ++ details_bytes n (keep_detail v.keep)) (sym middle-is)

pub verdict_put : (old a b c d : List ℕ) (serial answered middle end : ℕ) (v : Verdict) (first : Bytes) → middle ≡ details_end 56 (detail DECIDED_BY.now first) → end ≡ details_end middle (keep_detail v.keep) → details_of v ≡ detail DECIDED_BY.now first ++ keep_detail v.keep
    → a ≡ old ++ first_bytes serial answered (end - 40) → b ≡ a ++ truth_bytes v.yes v.challenge (end - 56) → c ≡ b ++ details_bytes 56 (detail DECIDED_BY.now first) → d ≡ c ++ details_bytes middle (keep_detail v.keep)
    → d ≡ old ++ message_bytes false (under serial (return_to answered (authorization_result v ∷ [])))
verdict_put old a b c d serial answered middle end v first middle-is end-is few a-is b-is c-is d-is =
    let D = details_bytes 56 (detail DECIDED_BY.now first) in
    let K = details_bytes middle (keep_detail v.keep) in
    let items = items_are v first middle middle-is few in
    let size : end - 56 ≡ length (details_bytes 56 (details_of v)) = omega (arith, middle-is, end-is, ap length items, length-append D K) in
    let whole : end - 40 ≡ 16 + length (details_bytes 56 (details_of v)) = omega (arith, middle-is, end-is, ap length items, length-append D K) in
    let F = first_bytes serial answered (end - 40) in
    let T = truth_bytes v.yes v.challenge (end - 56) in
    d-is ∙ ap (λ (x : List ℕ). x ++ K) (c-is ∙ ap (λ (x : List ℕ). x ++ D) (b-is ∙ ap (λ (x : List ℕ). x ++ T) a-is))
    ∙ append_assoc ((old ++ F) ++ T) D K ∙ append_assoc (old ++ F) T (D ++ K) ∙ append_assoc old F (T ++ (D ++ K))
    ∙ ap (λ (x : List ℕ). old ++ (F ++ (T ++ x))) (sym items)
    ∙ ap (λ (n : ℕ). old ++ (first_bytes serial answered n ++ (T ++ details_bytes 56 (details_of v)))) whole
    ∙ ap (λ (n : ℕ). old ++ (first_bytes serial answered (16 + length (details_bytes 56 (details_of v))) ++ (truth_bytes v.yes v.challenge n ++ details_bytes 56 (details_of v)))) size
    ∙ ap (λ (x : List ℕ). old ++ x) (sym (result_is serial answered v.yes v.challenge (details_of v)))

pub verdict_short : (serial answered middle end : ℕ) (v : Verdict) (first : Bytes) → middle ≡ details_end 56 (detail DECIDED_BY.now first) → end ≡ details_end middle (keep_detail v.keep) → details_of v ≡ detail DECIDED_BY.now first ++ keep_detail v.keep → end ≤ 100000
    → length (message_bytes false (under serial (return_to answered (authorization_result v ∷ [])))) ≤ 100000
verdict_short serial answered middle end v first middle-is end-is few short =
    let D = details_bytes 56 (detail DECIDED_BY.now first) in
    let K = details_bytes middle (keep_detail v.keep) in
    let items = details_bytes 56 (details_of v) in
    let F = first_bytes serial answered (16 + length items) in
    let T = truth_bytes v.yes v.challenge (length items) in
    omega (arith, middle-is, end-is, short, ap length (items_are v first middle middle-is few), length-append D K, ap length (result_is serial answered v.yes v.challenge (details_of v)), length-append F (T ++ items), length-append T items, first_size serial answered (16 + length items), truth_size v.yes v.challenge (length items))

-- ---- the reply is no other

pub on_ok : {A E : Type 0} {P Q : Type 0} (r : Result A E) → (P → Q) → OnOk r P → OnOk r Q
on_ok (Ok x) f p = f p
on_ok (Err e) f p = p

not_over : (n : ℕ) → n ≤ 100000 → nat_lt MAX_MESSAGE n ≡ false
not_over n le = grind (arith, nat_tests)

-- a verdict whose reason is a text, and that is short, is told
pub reply_told : (loads : List Loaded) (serial answered : ℕ) (v : Verdict) → is_some (text_fault_of (reason_text v.reason)) ≡ false → length (message_bytes false (under serial (return_to answered (authorization_result v ∷ [])))) ≤ 100000
    → reply loads answered (answer.Verdict v) ≡ return_to answered (authorization_result v ∷ [])
reply_told loads serial answered v spoken short =
    let whole = return_to answered (authorization_result v ∷ []) in
    let fits : is_over whole ≡ false = not_over (size whole) (subst (λ (n : ℕ). n ≤ 100000) (same_size whole serial) short) in
    rw (spoken, fits) refl

pub verdict_told : (loads : List Loaded) (o old a b c d : List ℕ) (serial answered middle end : ℕ) (v : Verdict) (first : Bytes) → middle ≡ details_end 56 (detail DECIDED_BY.now first) → end ≡ details_end middle (keep_detail v.keep) → details_of v ≡ detail DECIDED_BY.now first ++ keep_detail v.keep
    → is_some (text_fault_of (reason_text v.reason)) ≡ false → end ≤ 100000 → o ≡ old → a ≡ o ++ first_bytes serial answered (end - 40) → b ≡ a ++ truth_bytes v.yes v.challenge (end - 56) → c ≡ b ++ details_bytes 56 (detail DECIDED_BY.now first) → d ≡ c ++ details_bytes middle (keep_detail v.keep)
    → d ≡ old ++ message_bytes false (under serial (reply loads answered (answer.Verdict v)))
verdict_told loads o old a b c d serial answered middle end v first middle-is end-is few spoken short same a-is b-is c-is d-is =
    let told = reply_told loads serial answered v spoken (verdict_short serial answered middle end v first middle-is end-is few short) in
    verdict_put old a b c d serial answered middle end v first middle-is end-is few (a-is ∙ ap (λ (x : List ℕ). x ++ first_bytes serial answered (end - 40)) same) b-is c-is d-is
    ∙ ap (λ (m : Outgoing). old ++ message_bytes false (under serial m)) (sym told)
