-- Cookies are told apart by their texts.
use Rattle.std.proofs.Common.{◌≡◌, ℕ, zero, suc, ◌+◌, ◌<◌, ◌≤◌, ◌/◌, ◌%◌, ◌^◌, Bool, true, false, List, [], ◌∷◌, ◌++◌, refl, ap, sym, ◌∙◌, Option, Some, None, length, arith}
use Rattle.std.proofs.lemmas.List.{append_assoc, length-append}
use Rattle.std.proofs.lemmas.Fmt.{decimal_injective}
use Rattle.std.proofs.lemmas.Slice.Eq.{bytes_eq-Decides}
use Rattle.std.specs.Prelude.{codes, decimal, bytes_eq, option_to_list}
use Rattle.authority_model.specs.declared.verdict.Cookie.{Cookie}
use Rattle.authority_model.specs.declared.journal.Item.{Item}
use Rattle.authority_model.specs.declared.pending.Pending.{Pending}
use Rattle.authority_model.specs.Words.{Bytes}
use Rattle.authority_model.specs.Lists.{Has, AtMostOne}
use Rattle.authority_model.specs.Challenges.{pending, opened, opened_count}
use Rattle.authority_model.specs.Cookies.{cookie_text, hex, hex_digit}
use Rattle.authority_model.specs.Legal.{Legal}
use Rattle.authority_laws.proofs.OnePending.{one_pending_short, new_cookie, cookie_given}

hex_length : (k n : ℕ) → length (hex k n) ≡ k
unfolding hex
hex_length zero n = refl
hex_length (suc k) n = length-append (hex k (n / 16)) (hex_digit (n % 16) ∷ []) ∙ ap (λ m. m + 1) (hex_length k (n / 16)) ∙ omega arith

-- prefixes of one text before ends of one length
same_front : (xs ys s t : Bytes) → xs ++ s ≡ ys ++ t → length s ≡ length t → xs ≡ ys
same_front [] [] s t e n = refl
same_front [] (y ∷ ys) s t e n = absurd (omega (arith, ap length e ∙ length-append (y ∷ ys) t, n))
same_front (x ∷ xs) [] s t e n = absurd (omega (arith, sym (length-append (x ∷ xs) s) ∙ ap length e, n))
same_front (x ∷ xs) (y ∷ ys) s t e n =
    let head : x ≡ y = cc e in
    let rest : xs ++ s ≡ ys ++ t = cc e in
    ap (λ z. z ∷ xs) head ∙ ap (λ zs. y ∷ zs) (same_front xs ys s t rest n)

-- cookies of one text have one number
pub same_serial : (a b : Cookie) → a.serial < 2 ^ 64 → b.serial < 2 ^ 64 → cookie_text a ≡ cookie_text b → a.serial ≡ b.serial
same_serial a b m n e =
    let parts : decimal a.serial ++ (codes "-" ++ hex 32 a.salt) ≡ decimal b.serial ++ (codes "-" ++ hex 32 b.salt) = sym (append_assoc (decimal a.serial) (codes "-") (hex 32 a.salt)) ∙ e ∙ append_assoc (decimal b.serial) (codes "-") (hex 32 b.salt) in
    let one : length (codes "-" ++ hex 32 a.salt) ≡ length (codes "-" ++ hex 32 b.salt) = ap suc (hex_length 32 a.salt ∙ sym (hex_length 32 b.salt)) in
    decimal_injective a.serial b.serial m n (same_front (decimal a.serial) (decimal b.serial) (codes "-" ++ hex 32 a.salt) (codes "-" ++ hex 32 b.salt) parts one)

opened_bound : (past : List Item) → opened_count past ≤ length past
opened_bound [] = omega arith
opened_bound (i ∷ past) = of (opened past i) (opened_bound past)
  where
    of : (o : Option Pending) → opened_count past ≤ length past → opened_count past + length (option_to_list o) ≤ suc (length past)
    of None h = omega arith
    of (Some ch) h = omega arith

-- at most one pending challenge has a cookie of this text
pub one_cookie_text : (past : List Item) → Legal past → length past < 2 ^ 63 → (text : Bytes) → AtMostOne (λ ch. bytes_eq (cookie_text ch.cookie) text) (pending past)
one_cookie_text past legal short text = within past legal short
  where
    clash : (past : List Item) (i : Item) (ch : Pending) → Legal (i ∷ past) → length past < 2 ^ 63 → opened past i ≡ Some ch → bytes_eq (cookie_text ch.cookie) text ≡ true → (d : Pending) → Has (pending past) d → (b : Bool) → bytes_eq (cookie_text d.cookie) text ≡ b → b ≡ false
    clash past i ch legal short e t d h false is = refl
    clash past i ch legal short e t d h true is =
        let new = new_cookie past i ch legal.0 e in
        let old = cookie_given past legal.1 d h in
        let bound = opened_bound past in
        let same : cookie_text ch.cookie ≡ cookie_text d.cookie = (bytes_eq-Decides (cookie_text ch.cookie) text).0 t ∙ sym ((bytes_eq-Decides (cookie_text d.cookie) text).0 is) in
        let serial = same_serial ch.cookie d.cookie (omega (arith, new, bound, short)) (omega (arith, old, bound, short)) same in
        absurd (omega (arith, new, old, serial))

    within : (past : List Item) → Legal past → length past < 2 ^ 63 → AtMostOne (λ ch. bytes_eq (cookie_text ch.cookie) text) (pending past)
    within past legal short = one_pending_short (λ ch. bytes_eq (cookie_text ch.cookie) text) (λ past i ch. refl) (λ past i ch legal short e t d h. clash past i ch legal short e t d h (bytes_eq (cookie_text d.cookie) text) refl) past legal short
