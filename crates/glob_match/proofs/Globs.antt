-- The test on globs is the relation.
use Rattle.std.proofs.Common.{◌≡◌, ◌≢◌, ℕ, ◌==◌, Bool, true, false, ◌&&◌, ◌||◌, List, [], ◌∷◌, refl, ap, sym, ◌∙◌, subst, IsTrue, ◌↔◌}
use Rattle.std.proofs.lemmas.Bool.Decides.{Decides-eqb}
use Rattle.std.specs.Prelude.{if◌then◌else◌}
use Rattle.glob_match.specs.Glob.{Glob, glob, some_suffix, first_is}

both : (a b : Bool) → (a && b) ≡ true → (a ≡ true) × (b ≡ true)
both true b e = (refl, e)
both false b e = absurd (cc)

pub glob_is : (p s : List ℕ) → glob p s ≡ true → Glob p s
glob_is [] [] e = Glob.empty
glob_is [] (c ∷ s) e = absurd (cc)
glob_is (q ∷ p) s e = of (q == 42) refl s e (glob_is p)
  where
    suffix : (s : List ℕ) → some_suffix (glob p) s ≡ true → ((s : List ℕ) → glob p s ≡ true → Glob p s) → Glob (42 ∷ p) s
    suffix [] e ih = Glob.none (ih [] e)
    suffix (c ∷ s) e ih = go (glob p (c ∷ s)) refl e (λ e. suffix s e ih)
      where
        go : (b : Bool) → glob p (c ∷ s) ≡ b → (b || some_suffix (glob p) s) ≡ true → (some_suffix (glob p) s ≡ true → Glob (42 ∷ p) s) → Glob (42 ∷ p) (c ∷ s)
        go true is e more = Glob.none (ih (c ∷ s) is)
        go false is e more = Glob.more (more e)

    first : (c : ℕ) (s : List ℕ) → (q == 42) ≡ false → (b : Bool) → (q == 63) ≡ b → ((b || (q == c)) && glob p s) ≡ true → Glob p s → Glob (q ∷ p) (c ∷ s)
    first c s star true is e g = subst (λ (n : ℕ). Glob (n ∷ p) (c ∷ s)) (sym ((Decides-eqb q 63).0 is)) (Glob.one g)
    first c s star false is e g =
        let same : q ≡ c = (Decides-eqb q c).0 (both (q == c) (glob p s) e).0 in
        subst (λ (n : ℕ). Glob (q ∷ p) (n ∷ s)) same (Glob.same (λ x. absurd (cc (is, (Decides-eqb q 63).1 x))) (λ x. absurd (cc (star, (Decides-eqb q 42).1 x))) g)

    plain : (s : List ℕ) → (q == 42) ≡ false → first_is q (glob p) s ≡ true → ((s : List ℕ) → glob p s ≡ true → Glob p s) → Glob (q ∷ p) s
    plain [] star e ih = absurd (cc)
    plain (c ∷ s) star e ih = first c s star (q == 63) refl e (ih s (both ((q == 63) || (q == c)) (glob p s) e).1)

    of : (b : Bool) → (q == 42) ≡ b → (s : List ℕ) → (if b then some_suffix (glob p) s else first_is q (glob p) s) ≡ true → ((s : List ℕ) → glob p s ≡ true → Glob p s) → Glob (q ∷ p) s
    of true is s e ih = subst (λ (n : ℕ). Glob (n ∷ p) s) (sym ((Decides-eqb q 42).0 is)) (suffix s e ih)
    of false is s e ih = plain s is e ih

suffix_now : (test : List ℕ → Bool) (s : List ℕ) → test s ≡ true → some_suffix test s ≡ true
suffix_now test [] e = e
suffix_now test (c ∷ s) e = ap (λ b. b || some_suffix test s) e

-- true on the right decides
pub or_true : (b : Bool) → (b || true) ≡ true
or_true true = refl
or_true false = refl

not_equal : (a b : ℕ) → a ≢ b → (a == b) ≡ false
not_equal a b h = of (a == b) refl
  where
    of : (t : Bool) → (a == b) ≡ t → t ≡ false
    of false is = refl
    of true is = absurd (h ((Decides-eqb a b).0 is))

pub is_glob : {p s : List ℕ} → Glob p s → glob p s ≡ true
is_glob Glob.empty = refl
is_glob (Glob.one g) = is_glob g
is_glob {s = s} (Glob.none {p = p} g) = suffix_now (glob p) s (is_glob g)
is_glob (Glob.more {p = p} {s = s} {c = c} g) = ap (λ b. glob p (c ∷ s) || b) (is_glob g) ∙ or_true (glob p (c ∷ s))
is_glob (Glob.same {p = p} {s = s} {c = c} one star g) =
    ap (λ b. if b then some_suffix (glob p) (c ∷ s) else (((c == 63) || (c == c)) && glob p s)) (not_equal c 42 star)
    ∙ ap (λ b. (b || (c == c)) && glob p s) (not_equal c 63 one)
    ∙ ap (λ b. b && glob p s) ((Decides-eqb c c).1 refl)
    ∙ is_glob g

-- what equals the test says whether the relation holds
pub says_glob : (b : Bool) (p s : List ℕ) → b ≡ glob p s → IsTrue b ↔ Glob p s
says_glob b p s e = (λ t. glob_is p s (sym e ∙ t), λ g. e ∙ is_glob g)
