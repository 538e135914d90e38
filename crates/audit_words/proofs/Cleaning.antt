-- Which words have no space and no LF.
use Rattle.std.proofs.Common.{◌≡◌, ◌≢◌, ℕ, ◌<◌, ◌+◌, ◌%◌, ◌^◌, Bool, true, false, ◌==◌, ◌&&◌, not, List, [], ◌∷◌, ◌++◌, refl, arith}
use Rattle.std.specs.Prelude.{decimal}
use Rattle.std.proofs.lemmas.Bool.Decides.{nat_tests}
use Rattle.std.proofs.lemmas.Fmt.{decimal_by_steps}
use Rattle.pk_types.proofs.Cuts.{lacks_append}
use Rattle.audit_words.specs.Lines.{IsClean}

abbrev pub is_clean_byte : ℕ → Bool
is_clean_byte b = not (b == 32) && not (b == 10)

abbrev pub is_clean : List ℕ → Bool
is_clean [] = true
is_clean (b ∷ bs) = is_clean_byte b && is_clean bs

pub both_true : (p q : Bool) → (p && q) ≡ true → (p ≡ true) × (q ≡ true)
both_true true q e = (refl, e)
both_true false q e = absurd cc

clean_byte : (b : ℕ) → is_clean_byte b ≡ true → (b ≢ 32) × (b ≢ 10)
clean_byte b e = (λ z. absurd (grind (arith, nat_tests)), λ z. absurd (grind (arith, nat_tests)))

pub clean_cons : (b : ℕ) (bs : List ℕ) → b ≢ 32 → b ≢ 10 → IsClean bs → IsClean (b ∷ bs)
clean_cons b bs p q h = ((p, h.0), (q, h.1))

-- a word that a test finds clean
pub clean_word : (w : List ℕ) → is_clean w ≡ true → IsClean w
clean_word [] e = (tt, tt)
clean_word (b ∷ bs) e =
    let p = both_true (is_clean_byte b) (is_clean bs) e in
    let c = clean_byte b p.0 in
    clean_cons b bs c.0 c.1 (clean_word bs p.1)

pub clean_join : (xs ys : List ℕ) → IsClean xs → IsClean ys → IsClean (xs ++ ys)
clean_join xs ys p q = (lacks_append 32 xs ys p.0 q.0, lacks_append 10 xs ys p.1 q.1)

-- one byte above 32
pub clean_one : (b : ℕ) → 32 < b → IsClean (b ∷ [])
clean_one b lt = clean_cons b [] (λ e. omega arith) (λ e. omega arith) (tt, tt)

abbrev pub DecimalIsClean : ℕ → List ℕ → Type 0
DecimalIsClean n ds = IsClean ds

pub decimal_clean : (n : ℕ) → n < 2 ^ 64 → IsClean (decimal n)
decimal_clean n small =
    decimal_by_steps DecimalIsClean (λ k lt. clean_one (48 + k) (omega arith)) (λ k ds le h. clean_join ds ((48 + k % 10) ∷ []) h (clean_one (48 + k % 10) (omega arith))) n small
