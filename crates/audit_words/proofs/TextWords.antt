-- A text is a word.
use Rattle.std.proofs.Common.{◌≡◌, ◌⊎◌, ℕ, ◌+◌, ◌*◌, ◌-◌, ◌/◌, ◌%◌, ◌<◌, ◌≤◌, Bool, true, false, cond, ◌==◌, ◌&&◌, nat_le, nat_lt, List, [], ◌∷◌, ◌++◌, Option, Some, None, refl, sym, ap, subst, ◌∙◌, take, position, length, codes, inl, inr, arith}
use Rattle.std.proofs.lemmas.Bool.Decides.{nat_tests}
use Rattle.pk_types.specs.declared.text.TextFault.{TextFault}
use Rattle.std.specs.Str.Lossy.{utf8_valid_len}
use Rattle.std.proofs.lemmas.Str.{utf8_valid_len_le}
use Rattle.pk_types.specs.Text.{text_fault_of, bad_byte_fault, place_or_end}
use Rattle.audit_words.specs.Escapes.{is_plain, digit_of, digit_value, escaped_byte, escaped, text_word, onto, unless_plain, onto_escape, unescaped, text_unless, text_if, text_value, text, kept_if, text_such, is_nothing, short_text, action_id, AreBytes, IsTextWord}
use Rattle.audit_words.specs.Faults.{Lawful}
use Rattle.audit_words.proofs.Basics.{one_lawful}
use Rattle.audit_words.specs.Lines.{IsClean}
use Rattle.audit_words.specs.declared.texts.TheConstants.{MAX_NAME}
use Rattle.pk_types.specs.ActionId.{id_fault_of}
use Rattle.pk_types.proofs.Texts.{plain_text}
use Rattle.audit_words.proofs.Tests.{chosen}
use Rattle.audit_words.proofs.Cleaning.{clean_one, clean_join}

-- ---- digits

choose : (b : Bool) (x y : ℕ) → ((b ≡ true) × (cond b x y ≡ x)) ⊎ ((b ≡ false) × (cond b x y ≡ y))
choose true x y = inl (refl, refl)
choose false x y = inr (refl, refl)

low_value : (n : ℕ) → n < 10 → digit_value (48 + n) ≡ Some n
low_value n lt =
    let t : (nat_le 48 (48 + n) && nat_le (48 + n) 57) ≡ true = grind (arith, nat_tests) in
    ap (λ (b : Bool). cond b (Some (48 + n - 48)) (cond (nat_le 65 (48 + n) && nat_le (48 + n) 70) (Some (48 + n - 55)) None)) t ∙ ap (λ (k : ℕ). Some k) (omega arith)

high_value : (n : ℕ) → 10 ≤ n → n < 16 → digit_value (55 + n) ≡ Some n
high_value n le lt =
    let t : (nat_le 48 (55 + n) && nat_le (55 + n) 57) ≡ false = grind (arith, nat_tests) in
    let u : (nat_le 65 (55 + n) && nat_le (55 + n) 70) ≡ true = grind (arith, nat_tests) in
    ap (λ (b : Bool). cond b (Some (55 + n - 48)) (cond (nat_le 65 (55 + n) && nat_le (55 + n) 70) (Some (55 + n - 55)) None)) t
    ∙ ap (λ (b : Bool). cond b (Some (55 + n - 55)) None) u ∙ ap (λ (k : ℕ). Some k) (omega arith)

digit_back : (n : ℕ) → n < 16 → digit_value (digit_of n) ≡ Some n
digit_back n lt =
    elim (choose (nat_lt n 10) (48 + n) (55 + n)) [
      | inl h ↦ ap digit_value h.1 ∙ low_value n (grind (arith, nat_tests))
      | inr h ↦ ap digit_value h.1 ∙ high_value n (grind (arith, nat_tests)) lt
    ]

low_digit : (n : ℕ) → n < 10 → digit_of n ≡ 48 + n
low_digit n lt = let t : nat_lt n 10 ≡ true = grind (arith, nat_tests) in ap (λ (b : Bool). cond b (48 + n) (55 + n)) t

high_digit : (n : ℕ) → 10 ≤ n → digit_of n ≡ 55 + n
high_digit n le = let t : nat_lt n 10 ≡ false = grind (arith, nat_tests) in ap (λ (b : Bool). cond b (48 + n) (55 + n)) t

abbrev a_number : ℕ → Option ℕ
a_number n = Some n

number_is : (m n : ℕ) → a_number m ≡ Some n → m ≡ n
number_is m n e = cc

abbrev no_number : Option ℕ
no_number = None

none_number : (n : ℕ) → no_number ≡ Some n → ⊥
none_number n e = cc

in_range : (low high c : ℕ) → (nat_le low c && nat_le c high) ≡ true → (low ≤ c) × (c ≤ high)
in_range low high c e = grind (arith, nat_tests)

digit_only : (c n : ℕ) → digit_value c ≡ Some n → (c ≡ digit_of n) × (n < 16)
digit_only c n e =
    elim (chosen (nat_le 48 c && nat_le c 57) (Some (c - 48)) (cond (nat_le 65 c && nat_le c 70) (Some (c - 55)) None) (Some n) e) [
      | inl h ↦
          let r = in_range 48 57 c h.0 in
          let i : c - 48 ≡ n = number_is (c - 48) n h.1 in
          let j : c ≡ 48 + n = omega (arith, r.0, r.1, i) in
          (j ∙ sym (low_digit n (omega (arith, r.0, r.1, i))), omega (arith, r.0, r.1, i))
      | inr g ↦ elim (chosen (nat_le 65 c && nat_le c 70) (Some (c - 55)) None (Some n) g.1) [
        | inl h ↦
            let r = in_range 65 70 c h.0 in
            let i : c - 55 ≡ n = number_is (c - 55) n h.1 in
            let j : c ≡ 55 + n = omega (arith, r.0, r.1, i) in
            (j ∙ sym (high_digit n (omega (arith, r.0, r.1, i))), omega (arith, r.0, r.1, i))
        | inr h ↦ absurd (none_number n h.1)
      ]
    ]

-- ---- bytes

plain_step : (b : ℕ) (ws : List ℕ) → is_plain b ≡ true → unescaped (b ∷ ws) ≡ onto b (unescaped ws)
plain_step b [] p = ap (λ (t : Bool). cond t (Some (b ∷ [])) None) p
plain_step b (c ∷ []) p = ap (λ (t : Bool). cond t (onto b (unescaped (c ∷ []))) None) p
plain_step b (c ∷ d ∷ rest) p =
    ap (λ (t : Bool). cond t (onto b (unescaped (c ∷ d ∷ rest))) (cond (b == 37) (onto_escape (digit_value c) (digit_value d) (unescaped rest)) None)) p

escape_step : (c d : ℕ) (rest : List ℕ) → unescaped (37 ∷ c ∷ d ∷ rest) ≡ onto_escape (digit_value c) (digit_value d) (unescaped rest)
escape_step c d rest = refl

plain_byte : (b : ℕ) → is_plain b ≡ true → escaped_byte b ≡ b ∷ []
plain_byte b p = ap (λ (t : Bool). cond t (b ∷ []) (37 ∷ digit_of (b / 16) ∷ digit_of (b % 16) ∷ [])) p

other_byte : (b : ℕ) → is_plain b ≡ false → escaped_byte b ≡ 37 ∷ digit_of (b / 16) ∷ digit_of (b % 16) ∷ []
other_byte b p = ap (λ (t : Bool). cond t (b ∷ []) (37 ∷ digit_of (b / 16) ∷ digit_of (b % 16) ∷ [])) p

either_way : (b : Bool) → (b ≡ true) ⊎ (b ≡ false)
either_way true = inl refl
either_way false = inr refl

escape_back : (b : ℕ) (bs : List ℕ) → b < 256 → is_plain b ≡ false → onto_escape (digit_value (digit_of (b / 16))) (digit_value (digit_of (b % 16))) (Some bs) ≡ Some (b ∷ bs)
escape_back b bs lt p =
    let whole : b / 16 * 16 + b % 16 ≡ b = omega arith in
    ap (λ (o : Option ℕ). onto_escape o (digit_value (digit_of (b % 16))) (Some bs)) (digit_back (b / 16) (omega arith))
    ∙ ap (λ (o : Option ℕ). onto_escape (Some (b / 16)) o (Some bs)) (digit_back (b % 16) (omega arith))
    ∙ ap (λ (k : ℕ). unless_plain k (Some bs)) whole
    ∙ ap (λ (t : Bool). cond t None (Some (b ∷ bs))) p

escaped_back : (t : List ℕ) → AreBytes t → unescaped (escaped t) ≡ Some t
escaped_back [] bytes = refl
escaped_back (b ∷ bs) bytes =
    elim (either_way (is_plain b)) [
      | inl p ↦ ap (λ (f : List ℕ). unescaped (f ++ escaped bs)) (plain_byte b p) ∙ plain_step b (escaped bs) p ∙ ap (λ (o : Option (List ℕ)). onto b o) (escaped_back bs bytes.1)
      | inr p ↦ ap (λ (f : List ℕ). unescaped (f ++ escaped bs)) (other_byte b p)
          ∙ ap (λ (o : Option (List ℕ)). onto_escape (digit_value (digit_of (b / 16))) (digit_value (digit_of (b % 16))) o) (escaped_back bs bytes.1)
          ∙ escape_back b bs bytes.0 p
    ]

abbrev found_bytes : List ℕ → Option (List ℕ)
found_bytes t = Some t

bytes_are : (s t : List ℕ) → found_bytes s ≡ Some t → s ≡ t
bytes_are s t e = cc

abbrev no_bytes : Option (List ℕ)
no_bytes = None

none_bytes : (t : List ℕ) → no_bytes ≡ Some t → ⊥
none_bytes t e = cc

onto_some : (b : ℕ) (o : Option (List ℕ)) (t : List ℕ) → onto b o ≡ Some t → (s : List ℕ) × (o ≡ Some s) × (b ∷ s ≡ t)
onto_some b (Some s) t e = (s, refl, bytes_are (b ∷ s) t e)
onto_some b None t e = absurd (none_bytes t e)

escape_some : (high low : Option ℕ) (o : Option (List ℕ)) (t : List ℕ) → onto_escape high low o ≡ Some t
    → (h : ℕ) × (l : ℕ) × (s : List ℕ) × (high ≡ Some h) × (low ≡ Some l) × (is_plain (h * 16 + l) ≡ false) × (o ≡ Some s) × ((h * 16 + l) ∷ s ≡ t)
escape_some (Some h) (Some l) o t e =
    elim (chosen (is_plain (h * 16 + l)) None (onto (h * 16 + l) o) (Some t) e) [
      | inl p ↦ absurd (none_bytes t p.1)
      | inr p ↦ let r = onto_some (h * 16 + l) o t p.1 in (h, l, r.0, refl, refl, p.0, r.1, r.2)
    ]
escape_some (Some h) None o t e = absurd (none_bytes t e)
escape_some None low o t e = absurd (none_bytes t e)

abbrev Spelled : List ℕ → List ℕ → Type 0
Spelled w t = (w ≡ escaped t) × AreBytes t

plain_small : (b : ℕ) → is_plain b ≡ true → b < 256
plain_small b p = grind (arith, nat_tests)

plain_spelled : (b : ℕ) (ws s t : List ℕ) → is_plain b ≡ true → b ∷ s ≡ t → Spelled ws s → Spelled (b ∷ ws) t
plain_spelled b ws s t p e h =
    subst (λ (u : List ℕ). Spelled (b ∷ ws) u) e
    (ap (λ (u : List ℕ). b ∷ u) h.0 ∙ sym (ap (λ (f : List ℕ). f ++ escaped s) (plain_byte b p)), (plain_small b p, h.1))

escape_spelled : (b c d h l : ℕ) (rest s t : List ℕ) → (b == 37) ≡ true → digit_value c ≡ Some h → digit_value d ≡ Some l → is_plain (h * 16 + l) ≡ false → (h * 16 + l) ∷ s ≡ t
    → Spelled rest s → Spelled (b ∷ c ∷ d ∷ rest) t
escape_spelled b c d h l rest s t mark hd ld p e r =
    let x = digit_only c h hd in
    let y = digit_only d l ld in
    let first : b ≡ 37 = grind (arith, nat_tests) in
    let top : h ≡ (h * 16 + l) / 16 = omega (arith, x.1, y.1) in
    let low : l ≡ (h * 16 + l) % 16 = omega (arith, x.1, y.1) in
    subst (λ (u : List ℕ). Spelled (b ∷ c ∷ d ∷ rest) u) e (
      ap (λ (k : ℕ). k ∷ c ∷ d ∷ rest) first
          ∙ ap (λ (k : ℕ). 37 ∷ k ∷ d ∷ rest) (x.0 ∙ ap digit_of top)
          ∙ ap (λ (k : ℕ). 37 ∷ digit_of ((h * 16 + l) / 16) ∷ k ∷ rest) (y.0 ∙ ap digit_of low)
          ∙ ap (λ (u : List ℕ). 37 ∷ digit_of ((h * 16 + l) / 16) ∷ digit_of ((h * 16 + l) % 16) ∷ u) r.0
          ∙ sym (ap (λ (f : List ℕ). f ++ escaped s) (other_byte (h * 16 + l) p)),
      (omega (arith, x.1, y.1), r.1),
    )

unescaped_only : (w t : List ℕ) → unescaped w ≡ Some t → Spelled w t
unescaped_only [] t e = subst (λ (u : List ℕ). Spelled [] u) (bytes_are [] t e) (refl, tt)
unescaped_only (b ∷ []) t e =
    elim (chosen (is_plain b) (Some (b ∷ [])) None (Some t) e) [
      | inl p ↦ plain_spelled b [] [] t p.0 (bytes_are (b ∷ []) t p.1) (refl, tt)
      | inr p ↦ absurd (none_bytes t p.1)
    ]
unescaped_only (b ∷ c ∷ []) t e =
    elim (chosen (is_plain b) (onto b (unescaped (c ∷ []))) None (Some t) e) [
      | inl p ↦ let r = onto_some b (unescaped (c ∷ [])) t p.1 in plain_spelled b (c ∷ []) r.0 t p.0 r.2 (unescaped_only (c ∷ []) r.0 r.1)
      | inr p ↦ absurd (none_bytes t p.1)
    ]
unescaped_only (b ∷ c ∷ d ∷ rest) t e =
    elim (chosen (is_plain b) (onto b (unescaped (c ∷ d ∷ rest))) (cond (b == 37) (onto_escape (digit_value c) (digit_value d) (unescaped rest)) None) (Some t) e) [
      | inl p ↦ let r = onto_some b (unescaped (c ∷ d ∷ rest)) t p.1 in plain_spelled b (c ∷ d ∷ rest) r.0 t p.0 r.2 (unescaped_only (c ∷ d ∷ rest) r.0 r.1)
      | inr p ↦ elim (chosen (b == 37) (onto_escape (digit_value c) (digit_value d) (unescaped rest)) None (Some t) p.1) [
        | inl q ↦
            let r = escape_some (digit_value c) (digit_value d) (unescaped rest) t q.1 in
            escape_spelled b c d r.0 r.1 rest r.2 t q.0 r.3 r.4 r.5 r.7 (unescaped_only rest r.2 r.6)
        | inr q ↦ absurd (none_bytes t q.1)
      ]
    ]

-- ---- texts

abbrev Several : List ℕ → Type 0
Several [] = ⊥
Several (b ∷ []) = (b == 37) ≡ false
Several (b ∷ c ∷ cs) = Unit {0}

value_of : (w : List ℕ) → Several w → text_value w ≡ text_if (unescaped w)
value_of [] h = absurd h
value_of (b ∷ []) h = ap (λ (t : Bool). cond t (Some []) (text_if (unescaped (b ∷ [])))) h
value_of (b ∷ c ∷ cs) h = refl

plain_several : (b : ℕ) (ws : List ℕ) → is_plain b ≡ true → Several (b ∷ ws)
plain_several b [] p = grind (arith, nat_tests)
plain_several b (c ∷ cs) p = tt

several : (b : ℕ) (bs : List ℕ) → Several (escaped (b ∷ bs))
several b bs =
    elim (either_way (is_plain b)) [
      | inl p ↦ subst (λ (f : List ℕ). Several (f ++ escaped bs)) (sym (plain_byte b p)) (plain_several b (escaped bs) p)
      | inr p ↦ subst (λ (f : List ℕ). Several (f ++ escaped bs)) (sym (other_byte b p)) tt
    ]

text_back : (t : List ℕ) → IsTextWord t → text_value (text_word t) ≡ Some t
text_back [] fits = refl
text_back (b ∷ bs) fits =
    value_of (escaped (b ∷ bs)) (several b bs) ∙ ap text_if (escaped_back (b ∷ bs) fits.0) ∙ ap (λ (f : Option TextFault). text_unless f (b ∷ bs)) fits.1

unless_some : (f : Option TextFault) (s t : List ℕ) → text_unless f s ≡ Some t → (f ≡ None) × (s ≡ t)
unless_some None s t e = (refl, bytes_are s t e)
unless_some (Some f) s t e = absurd (none_bytes t e)

if_some : (o : Option (List ℕ)) (t : List ℕ) → text_if o ≡ Some t → (o ≡ Some t) × (text_fault_of t ≡ None)
if_some None t e = absurd (none_bytes t e)
if_some (Some s) t e =
    let p = unless_some (text_fault_of s) s t e in
    (ap (λ (u : List ℕ). Some u) p.1, ap text_fault_of (sym p.1) ∙ p.0)

not_empty : (b : ℕ) (ws t : List ℕ) → b ∷ ws ≡ escaped t → b ∷ ws ≡ text_word t
not_empty b ws [] e = absurd cc
not_empty b ws (c ∷ cs) e = e

from_if : (b : ℕ) (ws t : List ℕ) → text_if (unescaped (b ∷ ws)) ≡ Some t → (b ∷ ws ≡ text_word t) × IsTextWord t
from_if b ws t e =
    let p = if_some (unescaped (b ∷ ws)) t e in
    let q = unescaped_only (b ∷ ws) t p.0 in
    (not_empty b ws t q.0, (q.1, p.1))

no_fault : (n : ℕ) → n ≡ 0 → bad_byte_fault (place_or_end (position (λ b. b == 0) (take n [])) n 0) ≡ None
no_fault n e = ap (λ (k : ℕ). bad_byte_fault (place_or_end (position (λ b. b == 0) (take k [])) k 0)) e

empty_text : text_fault_of [] ≡ None
empty_text = no_fault (utf8_valid_len []) (omega (arith, utf8_valid_len_le []))

text_only : (w t : List ℕ) → text_value w ≡ Some t → (w ≡ text_word t) × IsTextWord t
text_only [] t e = absurd (none_bytes t e)
text_only (b ∷ []) t e =
    elim (chosen (b == 37) (Some []) (text_if (unescaped (b ∷ []))) (Some t) e) [
      | inl p ↦
          let first : b ≡ 37 = grind (arith, nat_tests) in
          subst (λ (u : List ℕ). (b ∷ [] ≡ text_word u) × IsTextWord u) (bytes_are [] t p.1) (ap (λ (k : ℕ). k ∷ []) first, (tt, empty_text))
      | inr p ↦ from_if b [] t p.1
    ]
text_only (b ∷ c ∷ cs) t e = from_if b (c ∷ cs) t e

-- ---- no space and no LF

digit_above : (n : ℕ) → 32 < digit_of n
digit_above n = elim (choose (nat_lt n 10) (48 + n) (55 + n)) [ inl h ↦ omega (arith, h.1) | inr h ↦ omega (arith, h.1) ]

plain_above : (b : ℕ) → is_plain b ≡ true → 32 < b
plain_above b p = grind (arith, nat_tests)

byte_clean : (b : ℕ) → IsClean (escaped_byte b)
byte_clean b =
    elim (either_way (is_plain b)) [
      | inl p ↦ subst IsClean (sym (plain_byte b p)) (clean_one b (plain_above b p))
      | inr p ↦ subst IsClean (sym (other_byte b p))
          (clean_join (37 ∷ digit_of (b / 16) ∷ []) (digit_of (b % 16) ∷ [])
          (clean_join (37 ∷ []) (digit_of (b / 16) ∷ []) (clean_one 37 (omega arith)) (clean_one (digit_of (b / 16)) (digit_above (b / 16))))
          (clean_one (digit_of (b % 16)) (digit_above (b % 16))))
    ]

escaped_clean : (t : List ℕ) → IsClean (escaped t)
escaped_clean [] = (tt, tt)
escaped_clean (b ∷ bs) = clean_join (escaped_byte b) (escaped bs) (byte_clean b) (escaped_clean bs)

text_clean : (t : List ℕ) → IsClean (text_word t)
text_clean [] = clean_one 37 (omega arith)
text_clean (b ∷ bs) = escaped_clean (b ∷ bs)

pub text_lawful : Lawful text
text_lawful = one_lawful (record {
  some = [];
  some_fits = (tt, empty_text);
  back = text_back;
  only = text_only;
  due = λ v. refl;
  clean = λ t f. text_clean t;
})

-- ---- texts that pass a test

kept_some : (test : List ℕ → Bool) (o : Option (List ℕ)) (t : List ℕ) → kept_if test o ≡ Some t → (o ≡ Some t) × (test t ≡ true)
kept_some test None t e = absurd (none_bytes t e)
kept_some test (Some s) t e =
    elim (chosen (test s) (Some s) None (Some t) e) [
      | inl h ↦ let same : s ≡ t = bytes_are s t h.1 in (ap (λ (u : List ℕ). Some u) same, subst (λ (u : List ℕ). test u ≡ true) same h.0)
      | inr h ↦ absurd (none_bytes t h.1)
    ]

such_only : (test : List ℕ → Bool) (w t : List ℕ) → kept_if test (text_value w) ≡ Some t → (w ≡ text_word t) × (IsTextWord t × (test t ≡ true))
such_only test w t e =
    let k = kept_some test (text_value w) t e in
    let p = text_only w t k.0 in
    (p.0, (p.1, k.1))

pub such_lawful : (test : List ℕ → Bool) (some : List ℕ) → IsTextWord some → test some ≡ true → Lawful (text_such test)
such_lawful test some is passes = one_lawful (record {
  some = some;
  some_fits = (is, passes);
  back = λ t f. ap (λ (o : Option (List ℕ)). kept_if test o) (text_back t f.0) ∙ ap (λ (b : Bool). cond b (Some t) None) f.1;
  only = such_only test;
  due = λ v. refl;
  clean = λ t f. text_clean t;
})

pub short_text_lawful : Lawful short_text
short_text_lawful = such_lawful (λ t. nat_le (length t) MAX_NAME) [] (tt, empty_text) refl

pub action_id_lawful : Lawful action_id
action_id_lawful = such_lawful (λ t. is_nothing (id_fault_of t)) (codes "a") ((omega arith, tt), plain_text (codes "a") refl (omega arith)) refl
