-- Numbers in decimal digits, and booleans, are words.
use Rattle.std.proofs.Common.{◌≡◌, ℕ, zero, suc, ◌+◌, ◌*◌, ◌-◌, ◌/◌, ◌%◌, ◌^◌, ◌<◌, ◌≤◌, Bool, true, false, cond, ◌==◌, ◌&&◌, not, nat_le, List, [], ◌∷◌, ◌++◌, Option, Some, None, option_and_then, codes, refl, sym, ap, subst, ◌∙◌, append_assoc, inl, inr, arith}
use Rattle.std.specs.Prelude.{decimal}
use Rattle.std.specs.Str.{bytes_eq}
use Rattle.std.proofs.lemmas.List.{append-nil}
use Rattle.std.proofs.lemmas.Bool.Decides.{nat_tests}
use Rattle.std.proofs.lemmas.Fmt.{decimal_digit, decimal_step, decimal_by_steps}
use Rattle.pk_types.specs.Decimals.{is_empty, digits_after, decimal_of, at_most, decimal_up_to}
use Rattle.audit_words.specs.Codecs.{number, boolean, boolean_word, boolean_of}
use Rattle.audit_words.specs.Faults.{Lawful}
use Rattle.audit_words.proofs.Basics.{one_lawful}
use Rattle.audit_words.specs.Lines.{IsClean}
use Rattle.audit_words.proofs.Cleaning.{decimal_clean, clean_one}
use Rattle.audit_words.proofs.Tests.{same_bytes, chosen}

abbrev some : ℕ → Option ℕ
some n = Some n

abbrev some_bool : Bool → Option Bool
some_bool b = Some b

abbrev no_bool : Option Bool
no_bool = None

bool_is : (a b : Bool) → some_bool a ≡ Some b → a ≡ b
bool_is a b e = cc

none_is : (b : Bool) → no_bool ≡ Some b → ⊥
none_is b e = cc

some_is : (n m : ℕ) → some n ≡ Some m → n ≡ m
some_is n m e = cc

some_if : (b : Bool) (o : Option ℕ) (m : ℕ) → cond b o None ≡ Some m → (b ≡ true) × (o ≡ Some m)
some_if true o m e = (refl, e)
some_if false o m e = absurd cc

some_unless : (b : Bool) (o : Option ℕ) (m : ℕ) → cond b None o ≡ Some m → (b ≡ false) × (o ≡ Some m)
some_unless false o m e = (refl, e)
some_unless true o m e = absurd cc

digit_bounds : (b : ℕ) → (nat_le 48 b && nat_le b 57) ≡ true → (48 ≤ b) × (b ≤ 57)
digit_bounds b e = grind (arith, nat_tests)

bounds_digit : (b : ℕ) → 48 ≤ b → b ≤ 57 → (nat_le 48 b && nat_le b 57) ≡ true
bounds_digit b low high = grind (arith, nat_tests)

grows : (n : ℕ) (ds : List ℕ) (m : ℕ) → digits_after n ds ≡ Some m → n ≤ m
grows n [] m e = omega (arith, some_is n m e)
grows n (b ∷ bs) m e =
    let p = some_if (nat_le 48 b && nat_le b 57) (digits_after (n * 10 + (b - 48)) bs) m e in
    omega (arith, grows (n * 10 + (b - 48)) bs m p.1)

one_more : (n b k : ℕ) → 0 < n → 48 ≤ b → b ≤ 57 → k ≡ n * 10 + (b - 48) → k < 2 ^ 64 → decimal k ≡ decimal n ++ b ∷ []
one_more n b k lt low high is small =
    let q : k / 10 ≡ n = omega arith in
    let r : 48 + k % 10 ≡ b = omega arith in
    decimal_step k (omega arith) small ∙ ap (λ (j : ℕ). decimal j ++ (48 + k % 10) ∷ []) q ∙ ap (λ (j : ℕ). decimal n ++ j ∷ []) r

spelled_after : (n : ℕ) (ds : List ℕ) (m : ℕ) → 0 < n → m < 2 ^ 64 → digits_after n ds ≡ Some m → decimal m ≡ decimal n ++ ds
spelled_after n [] m lt small e = ap decimal (sym (some_is n m e)) ∙ sym (append-nil (decimal n))
spelled_after n (b ∷ bs) m lt small e =
    let p = some_if (nat_le 48 b && nat_le b 57) (digits_after (n * 10 + (b - 48)) bs) m e in
    let d = digit_bounds b p.0 in
    let le : n * 10 + (b - 48) ≤ m = grows (n * 10 + (b - 48)) bs m p.1 in
    spelled_after (n * 10 + (b - 48)) bs m (omega arith) small p.1
    ∙ ap (λ (t : List ℕ). t ++ bs) (one_more n b (n * 10 + (b - 48)) lt d.0 d.1 refl (omega arith))
    ∙ append_assoc (decimal n) (b ∷ []) bs

only_from : (b : ℕ) (bs : List ℕ) (m : ℕ) → m < 2 ^ 64 → ((b == 48) && not (is_empty bs)) ≡ false → digits_after 0 (b ∷ bs) ≡ Some m → b ∷ bs ≡ decimal m
only_from b [] m small lead e =
    let p = some_if (nat_le 48 b && nat_le b 57) (Some (0 * 10 + (b - 48))) m e in
    let d = digit_bounds b p.0 in
    let n : 0 * 10 + (b - 48) ≡ m = some_is (0 * 10 + (b - 48)) m p.1 in
    let same : b ≡ 48 + m = omega (arith, d.0, d.1, n) in
    ap (λ (j : ℕ). j ∷ []) same ∙ sym (decimal_digit m (omega (arith, d.0, d.1, n)))
only_from b (c ∷ cs) m small lead e =
    let p = some_if (nat_le 48 b && nat_le b 57) (digits_after (0 * 10 + (b - 48)) (c ∷ cs)) m e in
    let d = digit_bounds b p.0 in
    let other : 49 ≤ b = grind (arith, nat_tests) in
    let one : decimal (0 * 10 + (b - 48)) ≡ (48 + (0 * 10 + (b - 48))) ∷ [] = decimal_digit (0 * 10 + (b - 48)) (omega (arith, d.0, d.1)) in
    let same : 48 + (0 * 10 + (b - 48)) ≡ b = omega (arith, d.0) in
    sym (spelled_after (0 * 10 + (b - 48)) (c ∷ cs) m (omega arith) small p.1 ∙ ap (λ (t : List ℕ). t ++ c ∷ cs) (one ∙ ap (λ (j : ℕ). j ∷ []) same))

decimal_only : (w : List ℕ) (m : ℕ) → m < 2 ^ 64 → decimal_of w ≡ Some m → w ≡ decimal m
decimal_only [] m small e = absurd cc
decimal_only (b ∷ bs) m small e =
    let p = some_unless ((b == 48) && not (is_empty bs)) (digits_after 0 (b ∷ bs)) m e in
    only_from b bs m small p.0 p.1

-- ---- and back

digits_snoc : (n : ℕ) (ds : List ℕ) (m j : ℕ) → j < 10 → digits_after n ds ≡ Some m → digits_after n (ds ++ (48 + j) ∷ []) ≡ Some (m * 10 + j)
digits_snoc n [] m j lt e =
    let v : n * 10 + (48 + j - 48) ≡ m * 10 + j = omega (arith, some_is n m e) in
    ap (λ (b : Bool). cond b (Some (n * 10 + (48 + j - 48))) None) (bounds_digit (48 + j) (omega arith) (omega arith)) ∙ ap (λ (k : ℕ). Some k) v
digits_snoc n (b ∷ bs) m j lt e =
    let p = some_if (nat_le 48 b && nat_le b 57) (digits_after (n * 10 + (b - 48)) bs) m e in
    ap (λ (t : Bool). cond t (digits_after (n * 10 + (b - 48)) (bs ++ (48 + j) ∷ [])) None) p.0 ∙ digits_snoc (n * 10 + (b - 48)) bs m j lt p.1

abbrev Leads : ℕ → List ℕ → Type 0
Leads n [] = ⊥
Leads n (b ∷ bs) = 0 < n → (b == 48) ≡ false

leads_on : (n m : ℕ) (ds tail : List ℕ) → 0 < n → Leads n ds → Leads m (ds ++ tail)
leads_on n m [] tail lt h = absurd h
leads_on n m (b ∷ bs) tail lt h = λ _. h lt

abbrev IsDecimal : ℕ → List ℕ → Type 0
IsDecimal n ds = (digits_after 0 ds ≡ Some n) × Leads n ds

digit_is : (n : ℕ) → n < 10 → IsDecimal n ((48 + n) ∷ [])
digit_is n lt = (digits_snoc 0 [] 0 n lt refl ∙ ap (λ (k : ℕ). Some k) (omega arith), λ pos. grind (arith, nat_tests))

more_is : (n : ℕ) (ds : List ℕ) → 10 ≤ n → IsDecimal (n / 10) ds → IsDecimal n (ds ++ ((48 + n % 10) ∷ []))
more_is n ds le h = (digits_snoc 0 ds (n / 10) (n % 10) (omega arith) h.0 ∙ ap (λ (k : ℕ). Some k) (omega arith), leads_on (n / 10) n ds ((48 + n % 10) ∷ []) (omega arith) h.1)

of_is : (n : ℕ) (ds : List ℕ) → 0 < n → IsDecimal n ds → decimal_of ds ≡ Some n
of_is n [] lt h = absurd h.1
of_is n (b ∷ bs) lt h = ap (λ (t : Bool). cond (t && not (is_empty bs)) None (digits_after 0 (b ∷ bs))) (h.1 lt) ∙ h.0

decimal_again : (n : ℕ) → n < 2 ^ 64 → decimal_of (decimal n) ≡ Some n
decimal_again zero small = ap decimal_of (decimal_digit 0 (omega arith))
decimal_again (suc n) small = of_is (suc n) (decimal (suc n)) (omega arith) (decimal_by_steps IsDecimal digit_is more_is (suc n) small)

-- ---- with a greatest one

most : (greatest : ℕ) (o : Option ℕ) (m : ℕ) → option_and_then (at_most greatest) o ≡ Some m → (o ≡ Some m) × (m ≤ greatest)
most greatest None m e = absurd cc
most greatest (Some n) m e =
    let p = some_if (nat_le n greatest) (Some n) m e in
    let is : n ≡ m = some_is n m p.1 in
    (p.1, subst (λ (k : ℕ). k ≤ greatest) is (grind (arith, nat_tests)))

within : (greatest n : ℕ) → n ≤ greatest → at_most greatest n ≡ Some n
within greatest n le = let t : nat_le n greatest ≡ true = grind (arith, nat_tests) in ap (λ (b : Bool). cond b (Some n) None) t

pub number_back : (bits : ℕ) → 0 < 2 ^ bits → 2 ^ bits ≤ 2 ^ 64 → (n : ℕ) → n < 2 ^ bits → decimal_up_to (2 ^ bits - 1) (decimal n) ≡ Some n
number_back bits pos wide n lt =
    ap (λ (o : Option ℕ). option_and_then (at_most (2 ^ bits - 1)) o) (decimal_again n (omega arith)) ∙ within (2 ^ bits - 1) n (omega arith)

pub number_only : (bits : ℕ) → 0 < 2 ^ bits → 2 ^ bits ≤ 2 ^ 64 → (w : List ℕ) (n : ℕ) → decimal_up_to (2 ^ bits - 1) w ≡ Some n → (w ≡ decimal n) × (n < 2 ^ bits)
number_only bits pos wide w n e =
    let p = most (2 ^ bits - 1) (decimal_of w) n e in
    (decimal_only w n (omega (arith, p.1)) p.0, omega (arith, p.1))

number_clean : (bits : ℕ) → 2 ^ bits ≤ 2 ^ 64 → (n : ℕ) → n < 2 ^ bits → IsClean (decimal n)
number_clean bits wide n lt = decimal_clean n (omega arith)

pub number_lawful : (bits : ℕ) → 0 < 2 ^ bits → 2 ^ bits ≤ 2 ^ 64 → Lawful (number bits)
number_lawful bits pos wide =
    one_lawful (record {
      some = 0;
      some_fits = pos;
      back = number_back bits pos wide;
      only = number_only bits pos wide;
      due = λ v. refl;
      clean = number_clean bits wide;
    })

pub word_32 : Lawful (number 32)
word_32 = number_lawful 32 (omega arith) (omega arith)

pub word_64 : Lawful (number 64)
word_64 = number_lawful 64 (omega arith) (omega arith)

-- ---- booleans

boolean_back : (b : Bool) → boolean_of (boolean_word b) ≡ Some b
boolean_back true = refl
boolean_back false = refl

boolean_only : (w : List ℕ) (b : Bool) → boolean_of w ≡ Some b → (w ≡ boolean_word b) × Unit {0}
boolean_only w b e =
    elim (chosen (bytes_eq w (codes "1")) (Some true) (cond (bytes_eq w (codes "0")) (Some false) None) (Some b) e) [
      | inl h ↦ (same_bytes w (codes "1") h.0 ∙ ap boolean_word (bool_is true b h.1), tt)
      | inr h ↦ elim (chosen (bytes_eq w (codes "0")) (Some false) None (Some b) h.1) [
        | inl g ↦ (same_bytes w (codes "0") g.0 ∙ ap boolean_word (bool_is false b g.1), tt)
        | inr g ↦ absurd (none_is b g.1)
      ]
    ]

boolean_clean : (b : Bool) → IsClean (boolean_word b)
boolean_clean true = clean_one 49 (omega arith)
boolean_clean false = clean_one 48 (omega arith)

pub boolean_lawful : Lawful boolean
boolean_lawful = one_lawful (record {
  some = true;
  some_fits = tt;
  back = λ v f. boolean_back v;
  only = boolean_only;
  due = λ v. refl;
  clean = λ v f. boolean_clean v;
})
