-- Random words and cookies are words.
use Rattle.std.proofs.Common.{◌≡◌, ◌⊎◌, ℕ, zero, suc, ◌+◌, ◌*◌, ◌-◌, ◌/◌, ◌%◌, ◌^◌, ◌<◌, ◌≤◌, Bool, true, false, cond, ◌==◌, ◌&&◌, nat_le, nat_lt, List, [], ◌∷◌, ◌++◌, length, Option, Some, None, option_and_then, codes, refl, sym, ap, subst, ◌∙◌, append_assoc, append-nil, inl, inr, arith, length-append}
use Rattle.std.specs.Prelude.{decimal}
use Rattle.std.proofs.Math.Nat.{pow-suc}
use Rattle.std.proofs.lemmas.Bool.Decides.{nat_tests}
use Rattle.std.proofs.lemmas.Fmt.{decimal_by_steps}
use Rattle.pk_types.specs.Decimals.{decimal_up_to}
use Rattle.pk_types.specs.Pieces.{Lacks}
use Rattle.pk_types.proofs.Cuts.{lacks_append}
use Rattle.authority_model.specs.Cookies.{hex, hex_digit, cookie_text}
use Rattle.authority_model.specs.declared.verdict.Cookie.{Cookie}
use Rattle.audit_words.specs.Faults.{Lawful}
use Rattle.audit_words.specs.Lines.{IsClean}
use Rattle.audit_words.specs.Salts.{hex_value, hex_after, salt_value, salt, cookie_of, cookie_of_parts, cookie_value, cookie}
use Rattle.audit_words.proofs.Basics.{one_lawful}
use Rattle.audit_words.specs.Lines.{cut_at}
use Rattle.audit_words.proofs.Cutting.{separator_at, cut_only}
use Rattle.audit_words.proofs.Tests.{chosen}
use Rattle.audit_words.proofs.Cleaning.{clean_one, clean_join, decimal_clean}
use Rattle.audit_words.proofs.Numbers.{number_back, number_only}

-- ---- digits

abbrev a_number : ℕ → Option ℕ
a_number n = Some n

number_is : (m n : ℕ) → a_number m ≡ Some n → m ≡ n
number_is m n e = cc

abbrev no_number : Option ℕ
no_number = None

none_number : (n : ℕ) → no_number ≡ Some n → ⊥
none_number n e = cc

choose : (b : Bool) (x y : ℕ) → ((b ≡ true) × (cond b x y ≡ x)) ⊎ ((b ≡ false) × (cond b x y ≡ y))
choose true x y = inl (refl, refl)
choose false x y = inr (refl, refl)

low_digit : (n : ℕ) → n < 10 → hex_digit n ≡ 48 + n
low_digit n lt = let t : nat_lt n 10 ≡ true = grind (arith, nat_tests) in ap (λ (b : Bool). cond b (48 + n) (87 + n)) t

high_digit : (n : ℕ) → 10 ≤ n → hex_digit n ≡ 87 + n
high_digit n le = let t : nat_lt n 10 ≡ false = grind (arith, nat_tests) in ap (λ (b : Bool). cond b (48 + n) (87 + n)) t

low_value : (n : ℕ) → n < 10 → hex_value (48 + n) ≡ Some n
low_value n lt =
    let t : (nat_le 48 (48 + n) && nat_le (48 + n) 57) ≡ true = grind (arith, nat_tests) in
    ap (λ (b : Bool). cond b (Some (48 + n - 48)) (cond (nat_le 97 (48 + n) && nat_le (48 + n) 102) (Some (48 + n - 87)) None)) t ∙ ap (λ (k : ℕ). Some k) (omega arith)

high_value : (n : ℕ) → 10 ≤ n → n < 16 → hex_value (87 + n) ≡ Some n
high_value n le lt =
    let t : (nat_le 48 (87 + n) && nat_le (87 + n) 57) ≡ false = grind (arith, nat_tests) in
    let u : (nat_le 97 (87 + n) && nat_le (87 + n) 102) ≡ true = grind (arith, nat_tests) in
    ap (λ (b : Bool). cond b (Some (87 + n - 48)) (cond (nat_le 97 (87 + n) && nat_le (87 + n) 102) (Some (87 + n - 87)) None)) t
    ∙ ap (λ (b : Bool). cond b (Some (87 + n - 87)) None) u ∙ ap (λ (k : ℕ). Some k) (omega arith)

digit_back : (n : ℕ) → n < 16 → hex_value (hex_digit n) ≡ Some n
digit_back n lt =
    elim (choose (nat_lt n 10) (48 + n) (87 + n)) [
      | inl h ↦ ap hex_value h.1 ∙ low_value n (grind (arith, nat_tests))
      | inr h ↦ ap hex_value h.1 ∙ high_value n (grind (arith, nat_tests)) lt
    ]

in_range : (low high c : ℕ) → (nat_le low c && nat_le c high) ≡ true → (low ≤ c) × (c ≤ high)
in_range low high c e = grind (arith, nat_tests)

pub digit_only : (c n : ℕ) → hex_value c ≡ Some n → (c ≡ hex_digit n) × (n < 16)
digit_only c n e =
    elim (chosen (nat_le 48 c && nat_le c 57) (Some (c - 48)) (cond (nat_le 97 c && nat_le c 102) (Some (c - 87)) None) (Some n) e) [
      | inl h ↦
          let r = in_range 48 57 c h.0 in
          let i : c - 48 ≡ n = number_is (c - 48) n h.1 in
          let j : c ≡ 48 + n = omega (arith, r.0, r.1, i) in
          (j ∙ sym (low_digit n (omega (arith, r.0, r.1, i))), omega (arith, r.0, r.1, i))
      | inr g ↦ elim (chosen (nat_le 97 c && nat_le c 102) (Some (c - 87)) None (Some n) g.1) [
        | inl h ↦
            let r = in_range 97 102 c h.0 in
            let i : c - 87 ≡ n = number_is (c - 87) n h.1 in
            let j : c ≡ 87 + n = omega (arith, r.0, r.1, i) in
            (j ∙ sym (high_digit n (omega (arith, r.0, r.1, i))), omega (arith, r.0, r.1, i))
        | inr h ↦ absurd (none_number n h.1)
      ]
    ]

digit_above : (n : ℕ) → 45 < hex_digit n
digit_above n = elim (choose (nat_lt n 10) (48 + n) (87 + n)) [ inl h ↦ omega (arith, h.1) | inr h ↦ omega (arith, h.1) ]

-- ---- the digits of a number, and the number of digits

hex-suc : (k n : ℕ) → hex (suc k) n ≡ hex k (n / 16) ++ hex_digit (n % 16) ∷ []
unfolding hex
hex-suc k n = refl

hex-zero : (n : ℕ) → hex 0 n ≡ []
unfolding hex
hex-zero n = refl

-- a number came of another one
then_some : (f : ℕ → Option ℕ) (o : Option ℕ) (m : ℕ) → option_and_then f o ≡ Some m → (u : ℕ) × (o ≡ Some u) × (f u ≡ Some m)
then_some f None m e = absurd (none_number m e)
then_some f (Some u) m e = (u, refl, e)

snoc : (n : ℕ) (cs : List ℕ) (c m v : ℕ) → hex_after n cs ≡ Some m → hex_value c ≡ Some v → hex_after n (cs ++ c ∷ []) ≡ Some (m * 16 + v)
snoc n [] c m v e d = ap (λ (o : Option ℕ). option_and_then (λ u. Some (n * 16 + u)) o) d ∙ ap (λ (k : ℕ). Some (k * 16 + v)) (number_is n m e)
snoc n (b ∷ bs) c m v e d =
    let p = then_some (λ u. hex_after (n * 16 + u) bs) (hex_value b) m e in
    ap (λ (o : Option ℕ). option_and_then (λ u. hex_after (n * 16 + u) (bs ++ c ∷ [])) o) p.1 ∙ snoc (n * 16 + p.0) bs c m v p.2 d

abbrev Power : ℕ → ℕ
Power k = 16 ^ k

hex_back : (k n : ℕ) → n < 16 ^ k → hex_after 0 (hex k n) ≡ Some n
hex_back zero n lt = let z : 0 ≡ n = omega arith in ap (hex_after 0) (hex-zero n) ∙ ap (λ (m : ℕ). Some m) z
hex_back (suc k) n lt =
    let p : 16 ^ suc k ≡ 16 ^ k * 16 = pow-suc 16 k in
    let q : n / 16 < 16 ^ k = omega arith in
    ap (hex_after 0) (hex-suc k n)
    ∙ snoc 0 (hex k (n / 16)) (hex_digit (n % 16)) (n / 16) (n % 16) (hex_back k (n / 16) q) (digit_back (n % 16) (omega arith))
    ∙ ap (λ (m : ℕ). Some m) (omega arith)

length_hex : (k n : ℕ) → length (hex k n) ≡ k
length_hex zero n = ap length (hex-zero n)
length_hex (suc k) n = ap length (hex-suc k n) ∙ omega (arith, length-append (hex k (n / 16)) (hex_digit (n % 16) ∷ []), length_hex k (n / 16))

abbrev Digits : ℕ → ℕ → List ℕ → ℕ → Type 0
Digits j n cs m = (hex (j + length cs) m ≡ hex j n ++ cs) × (n < 16 ^ j → m < 16 ^ (j + length cs))

hex_found : (j n : ℕ) (cs : List ℕ) (m : ℕ) → hex_after n cs ≡ Some m → Digits j n cs m
hex_found j n [] m e =
    let same : n ≡ m = number_is n m e in
    let here : j + 0 ≡ j = omega arith in
    (ap (λ (i : ℕ). hex i m) here ∙ ap (hex j) (sym same) ∙ sym (append-nil (hex j n)), λ lt. subst (λ (i : ℕ). m < 16 ^ i) (sym here) (omega arith))
hex_found j n (c ∷ cs) m e =
    let p = then_some (λ u. hex_after (n * 16 + u) cs) (hex_value c) m e in
    let v = p.0 in
    let d = digit_only c v p.1 in
    let r = hex_found (suc j) (n * 16 + v) cs m p.2 in
    let k : j + suc (length cs) ≡ suc j + length cs = omega arith in
    let top : (n * 16 + v) / 16 ≡ n = omega (arith, d.1) in
    let low : (n * 16 + v) % 16 ≡ v = omega (arith, d.1) in
    let pow : 16 ^ suc j ≡ 16 ^ j * 16 = pow-suc 16 j in (
      ap (λ (i : ℕ). hex i m) k
          ∙ r.0
          ∙ ap (λ (t : List ℕ). t ++ cs) (hex-suc j (n * 16 + v) ∙ ap (λ (i : ℕ). hex j i ++ hex_digit ((n * 16 + v) % 16) ∷ []) top ∙ ap (λ (i : ℕ). hex j n ++ hex_digit i ∷ []) low ∙ ap (λ (b : ℕ). hex j n ++ b ∷ []) (sym d.0))
          ∙ append_assoc (hex j n) (c ∷ []) cs,
      λ lt. subst (λ (i : ℕ). m < 16 ^ i) (sym k) (r.1 (omega (arith, d.1))),
    )

hex_clean : (k n : ℕ) → IsClean (hex k n)
hex_clean zero n = subst IsClean (sym (hex-zero n)) (tt, tt)
hex_clean (suc k) n =
    subst IsClean (sym (hex-suc k n)) (clean_join (hex k (n / 16)) (hex_digit (n % 16) ∷ []) (hex_clean k (n / 16)) (clean_one (hex_digit (n % 16)) (omega (arith, digit_above (n % 16)))))

-- ---- random words

salt_back : (n : ℕ) → n < 2 ^ 128 → salt_value (hex 32 n) ≡ Some n
salt_back n lt =
    let t : (length (hex 32 n) == 32) ≡ true = ap (λ (k : ℕ). k == 32) (length_hex 32 n) in
    ap (λ (b : Bool). cond b (hex_after 0 (hex 32 n)) None) t ∙ hex_back 32 n (omega arith)

salt_only : (w : List ℕ) (n : ℕ) → salt_value w ≡ Some n → (w ≡ hex 32 n) × (n < 2 ^ 128)
salt_only w n e =
    elim (chosen (length w == 32) (hex_after 0 w) None (Some n) e) [
      | inl h ↦
          let d = hex_found 0 0 w n h.1 in
          let k : 0 + length w ≡ 32 = grind (arith, nat_tests) in
          (sym (sym (ap (λ (i : ℕ). hex i n) k) ∙ d.0 ∙ ap (λ (t : List ℕ). t ++ w) (hex-zero 0)), subst (λ (i : ℕ). n < 16 ^ i) k (d.1 (omega arith)))
      | inr h ↦ absurd (none_number n h.1)
    ]

pub salt_lawful : Lawful salt
salt_lawful = one_lawful (record {
  some = 0;
  some_fits = omega arith;
  back = salt_back;
  only = salt_only;
  due = λ v. refl;
  clean = λ n f. hex_clean 32 n;
})

-- ---- cookies

abbrev a_cookie : Cookie → Option Cookie
a_cookie c = Some c

cookie_is : (c d : Cookie) → a_cookie c ≡ Some d → c ≡ d
cookie_is c d e = cc

abbrev no_cookie : Option Cookie
no_cookie = None

none_cookie : (c : Cookie) → no_cookie ≡ Some c → ⊥
none_cookie c e = cc

parts_only : (n s : Option ℕ) (c : Cookie) → cookie_of n s ≡ Some c → (n ≡ Some c.serial) × (s ≡ Some c.salt)
parts_only (Some n) (Some s) c e =
    let same = cookie_is (record { serial = n; salt = s }) c e in
    (ap (λ (d : Cookie). Some d.serial) same, ap (λ (d : Cookie). Some d.salt) same)
parts_only (Some n) None c e = absurd (none_cookie c e)
parts_only None s c e = absurd (none_cookie c e)

abbrev LacksDash : ℕ → List ℕ → Type 0
LacksDash n ds = Lacks 45 ds

above_dash : (b : ℕ) → 45 < b → Lacks 45 (b ∷ [])
above_dash b lt = (λ e. omega arith, tt)

decimal_dash : (n : ℕ) → n < 2 ^ 64 → Lacks 45 (decimal n)
decimal_dash n small =
    decimal_by_steps LacksDash (λ k lt. above_dash (48 + k) (omega arith)) (λ k ds le h. lacks_append 45 ds ((48 + k % 10) ∷ []) h (above_dash (48 + k % 10) (omega arith))) n small

cookie_joined : (c : Cookie) → cookie_text c ≡ decimal c.serial ++ 45 ∷ hex 32 c.salt
cookie_joined c = append_assoc (decimal c.serial) (codes "-") (hex 32 c.salt)

cookie_back : (c : Cookie) → (c.serial < 2 ^ 64) × (c.salt < 2 ^ 128) → cookie_value (cookie_text c) ≡ Some c
cookie_back c f =
    ap cookie_value (cookie_joined c)
    ∙ ap (λ (o : Option (List ℕ × List ℕ)). option_and_then cookie_of_parts o) (separator_at 45 (decimal c.serial) (hex 32 c.salt) (decimal_dash c.serial f.0))
    ∙ ap (λ (o : Option ℕ). cookie_of o (salt_value (hex 32 c.salt))) (number_back 64 (omega arith) (omega arith) c.serial f.0)
    ∙ ap (λ (o : Option ℕ). cookie_of (Some c.serial) o) (salt_back c.salt f.1)

cookie_only : (w : List ℕ) (c : Cookie) → cookie_value w ≡ Some c → (w ≡ cookie_text c) × ((c.serial < 2 ^ 64) × (c.salt < 2 ^ 128))
cookie_only w c e = of (cut_at 45 w) refl e
  where
    of : (o : Option (List ℕ × List ℕ)) → cut_at 45 w ≡ o → option_and_then cookie_of_parts o ≡ Some c → (w ≡ cookie_text c) × ((c.serial < 2 ^ 64) × (c.salt < 2 ^ 128))
    of None d h = absurd (none_cookie c h)
    of (Some x) d h =
        let p = parts_only (decimal_up_to (2 ^ 64 - 1) x.0) (salt_value x.1) c h in
        let n = number_only 64 (omega arith) (omega arith) x.0 c.serial p.0 in
        let s = salt_only x.1 c.salt p.1 in
        ((cut_only 45 w x d).whole ∙ ap (λ (t : List ℕ). t ++ 45 ∷ x.1) n.0 ∙ ap (λ (t : List ℕ). decimal c.serial ++ 45 ∷ t) s.0 ∙ sym (cookie_joined c), (n.1, s.1))

cookie_clean : (c : Cookie) → c.serial < 2 ^ 64 → IsClean (cookie_text c)
cookie_clean c lt =
    subst IsClean (sym (cookie_joined c)) (clean_join (decimal c.serial) (45 ∷ hex 32 c.salt) (decimal_clean c.serial lt) (clean_join (45 ∷ []) (hex 32 c.salt) (clean_one 45 (omega arith)) (hex_clean 32 c.salt)))

pub cookie_lawful : Lawful cookie
cookie_lawful = one_lawful (record {
  some = record { serial = 0; salt = 0 };
  some_fits = (omega arith, omega arith);
  back = cookie_back;
  only = cookie_only;
  due = λ v. refl;
  clean = λ c f. cookie_clean c f.0;
})
