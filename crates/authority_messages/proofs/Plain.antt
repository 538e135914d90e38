-- Which bytes are texts.
use Rattle.std.proofs.Common.{◌≡◌, ◌≢◌, ℕ, zero, suc, ◌+◌, ◌<◌, ◌≤◌, ◌^◌, ◌%◌, ◌/◌, ◌==◌, nat_lt, nat_le, not, cond, Bool, true, false, ◌&&◌, List, [], ◌∷◌, ◌++◌, length, take, get_or, Option, Some, None, position, refl, ap, ◌∙◌, arith, length-append}
use Rattle.std.specs.Prelude.{if◌then◌else◌, codes, decimal}
use Rattle.std.specs.List.{prefix_len}
use Rattle.std.specs.Str.{IsUtf8}
use Rattle.std.proofs.lemmas.Bool.{ne_eqb}
use Rattle.std.proofs.lemmas.Bool.Decides.{nat_tests}
use Rattle.std.proofs.lemmas.List.{take_all}
use Rattle.std.proofs.lemmas.Str.{utf8_valid_len-IsUtf8, IsUtf8-from_ascii}
use Rattle.std.proofs.lemmas.Fmt.{decimal_by_steps, length-decimal-le}
use Rattle.pk_types.specs.Text.{IsText, NoZero, text_bad, bad_byte_fault}
use Rattle.pk_types.proofs.Texts.{NoZero-append, text_of}
use Rattle.pk_types.specs.declared.text.TextFault.TheVariants as fault
use Rattle.authority_model.specs.declared.verdict.Cookie.{Cookie}
use Rattle.authority_model.specs.Cookies.{hex, hex_digit, cookie_text, grant_text}
use Rattle.authority_messages.specs.Plain.{is_ascii_text, is_plain}

both : (a b : Bool) → (a && b) ≡ true → (a ≡ true) × (b ≡ true)
both true true e = (refl, refl)
both true false e = absurd (cc)
both false b e = absurd (cc)

-- ASCII without a byte 0
is_above : (b : ℕ) → nat_lt 0 b ≡ true → b ≢ 0
is_above b e = λ z. absurd (grind (arith, nat_tests))

is_below : (b : ℕ) → nat_lt b 128 ≡ true → b < 128
is_below b e = grind (arith, nat_tests)

ascii_no_zero : (bytes : List ℕ) → is_ascii_text bytes ≡ true → NoZero bytes
ascii_no_zero [] e = tt
ascii_no_zero (b ∷ bytes) e = let x = both _ _ e in let y = both _ _ x.1 in (is_above b x.0, ascii_no_zero bytes y.1)

ascii_low : (bytes : List ℕ) → is_ascii_text bytes ≡ true → (i : ℕ) → get_or bytes i 0 < 128
ascii_low [] e i = omega arith
ascii_low (b ∷ bytes) e zero = let x = both _ _ e in let y = both _ _ x.1 in is_below b y.0
ascii_low (b ∷ bytes) e (suc i) = let x = both _ _ e in let y = both _ _ x.1 in ascii_low bytes y.1 i

pub ascii_text : (bytes : List ℕ) → is_ascii_text bytes ≡ true → length bytes ≤ 65535 → IsText bytes
ascii_text bytes e le = text_of bytes (IsUtf8-from_ascii bytes (ascii_low bytes e)) (ascii_no_zero bytes e) le

short_enough : (n : ℕ) → nat_le n 65535 ≡ true → n ≤ 65535
short_enough n e = grind (arith, nat_tests)

-- what is spelled out is a text
pub plain_text : (bytes : List ℕ) → is_plain bytes ≡ true → IsText bytes
plain_text bytes e = let x = both _ _ e in ascii_text bytes x.1 (short_enough (length bytes) x.0)

ascii_append : (a b : List ℕ) → is_ascii_text a ≡ true → is_ascii_text b ≡ true → is_ascii_text (a ++ b) ≡ true
ascii_append [] b first second = second
ascii_append (x ∷ a) b first second =
    let p : (nat_lt 0 x ≡ true) × ((nat_lt x 128 && is_ascii_text a) ≡ true) = both _ _ first in
    let q : (nat_lt x 128 ≡ true) × (is_ascii_text a ≡ true) = both _ _ p.1 in
    let rest : is_ascii_text (a ++ b) ≡ true = ascii_append a b q.1 second in
    rw (p.0, q.0, rest) refl

-- ---- numbers

one_ascii : (b : ℕ) → 0 < b → b < 128 → is_ascii_text (b ∷ []) ≡ true
one_ascii b low high = let p : nat_lt 0 b ≡ true = grind (arith, nat_tests) in let q : nat_lt b 128 ≡ true = grind (arith, nat_tests) in rw (p, q) refl

decimal_ascii : (n : ℕ) → n < 2 ^ 64 → is_ascii_text (decimal n) ≡ true
decimal_ascii n small = decimal_by_steps (λ n ds. is_ascii_text ds ≡ true) (λ n h. one_ascii (48 + n) (omega arith) (omega arith)) (λ n ds h sofar. ascii_append ds ((48 + n % 10) ∷ []) sofar (one_ascii (48 + n % 10) (omega arith) (omega arith))) n small

-- the text of a grant's number is a text
pub grant_is_text : (n : ℕ) → n < 2 ^ 64 → IsText (grant_text n)
grant_is_text n small =
    let short : length (decimal n) ≤ 20 = length-decimal-le 20 n (omega arith) (omega arith) small in
    ascii_text (codes "tmpauthz" ++ decimal n) (ascii_append (codes "tmpauthz") (decimal n) refl (decimal_ascii n small)) (omega (arith, length-append (codes "tmpauthz") (decimal n)))

digit_ascii : (n : ℕ) → n < 16 → is_ascii_text (hex_digit n ∷ []) ≡ true
digit_ascii n small = of (nat_lt n 10) refl
  where
    of : (t : Bool) → nat_lt n 10 ≡ t → is_ascii_text ((if t then 48 + n else 87 + n) ∷ []) ≡ true
    of true e = one_ascii (48 + n) (omega arith) (omega arith)
    of false e = one_ascii (87 + n) (omega arith) (omega arith)

hex_ascii : (k n : ℕ) → is_ascii_text (hex k n) ≡ true
unfolding hex
hex_ascii zero n = refl
hex_ascii (suc k) n = ascii_append (hex k (n / 16)) (hex_digit (n % 16) ∷ []) (hex_ascii k (n / 16)) (digit_ascii (n % 16) (omega arith))

hex_length : (k n : ℕ) → length (hex k n) ≡ k
unfolding hex
hex_length zero n = refl
hex_length (suc k) n = omega (arith, length-append (hex k (n / 16)) (hex_digit (n % 16) ∷ []), hex_length k (n / 16))

dashed_length : (s h : List ℕ) (n : ℕ) → length s ≤ 20 → length h ≡ n → length (s ++ codes "-" ++ h) ≤ n + 21
dashed_length s h n short same = omega (arith, length-append (s ++ codes "-") h, length-append s (codes "-"))

dashed_ascii : (s h : List ℕ) → is_ascii_text s ≡ true → is_ascii_text h ≡ true → is_ascii_text (s ++ codes "-" ++ h) ≡ true
dashed_ascii s h first second = ascii_append (s ++ codes "-") h (ascii_append s (codes "-") first refl) second

pub cookie_length : (cookie : Cookie) → cookie.serial < 2 ^ 64 → length (cookie_text cookie) ≤ 53
cookie_length cookie small = dashed_length (decimal cookie.serial) (hex 32 cookie.salt) 32 (length-decimal-le 20 cookie.serial (omega arith) (omega arith) small) (hex_length 32 cookie.salt)

-- the text of a cookie is a text
pub cookie_is_text : (cookie : Cookie) → cookie.serial < 2 ^ 64 → IsText (cookie_text cookie)
cookie_is_text cookie small = ascii_text (cookie_text cookie) (dashed_ascii (decimal cookie.serial) (hex 32 cookie.salt) (decimal_ascii cookie.serial small) (hex_ascii 32 cookie.salt)) (omega (arith, cookie_length cookie small))

-- a text has few bytes
pub text_length : (t : List ℕ) → IsText t → length t ≤ 65535
text_length t is = of (length t) (nat_lt 65535 (length t)) refl (text_bad t) is
  where
    of : (n : ℕ) (b : Bool) → nat_lt 65535 n ≡ b → (o : Option ℕ) → (if b then Some (fault.TooLong n) else bad_byte_fault o) ≡ None → n ≤ 65535
    of n true e o h = absurd (cc)
    of n false e o h = grind (arith, nat_tests)
