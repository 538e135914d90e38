-- Why a star may stay where the pattern behind it, up to the next star, first fits.
use Rattle.std.proofs.Common.{◌≡◌, ◌≢◌, ℕ, suc, ◌==◌, Bool, true, false, ◌&&◌, ◌||◌, List, [], ◌∷◌, ◌++◌, length, Bor, ◌<◌, ◌+◌, ◌≤◌, ◌⊎◌, inl, inr, eq-eqb, refl, ap, sym, ◌∙◌, subst, append_assoc, arith, length-append}
use Rattle.std.proofs.lemmas.Bool.{ne_eqb}
use Rattle.std.specs.Prelude.{if◌then◌else◌}
use Rattle.glob_match.specs.Glob.{glob, some_suffix}
use Rattle.std.specs.Str.{chars}
use Rattle.glob_match.specs.declared.walk.Outcome.{Outcome}
use Rattle.glob_match.specs.declared.walk.Outcome.TheVariants.{Whole, Star, Differs}
use Rattle.glob_match.proofs.Globs.{or_true}
use Rattle.glob_match.specs.Fits.{NoStar, Fitted, FitIs, FirstFitIs, ShorterPattern}

or_cases : (a b : Bool) (P : Type 0) → (a || b) ≡ true → (a ≡ true → P) → (b ≡ true → P) → P
or_cases true b P e left right = left refl
or_cases false b P e left right = right e

right_of_and : (a b : Bool) → (a && b) ≡ true → b ≡ true
right_of_and true b e = e
right_of_and false b e = absurd (cc)

-- a later suffix is a suffix
some_suffix-cons : (test : List ℕ → Bool) (c : ℕ) (s : List ℕ) → some_suffix test s ≡ true → some_suffix test (c ∷ s) ≡ true
some_suffix-cons test c s e = ap (λ b. test (c ∷ s) || b) e ∙ or_true (test (c ∷ s))

-- a suffix of a suffix is a suffix
some_suffix-append : (test : List ℕ → Bool) (v s : List ℕ) → some_suffix test s ≡ true → some_suffix test (v ++ s) ≡ true
some_suffix-append test [] s e = e
some_suffix-append test (c ∷ v) s e = some_suffix-cons test c (v ++ s) (some_suffix-append test v s e)

-- a text of which some suffix passes ends in one that passes
passing : (test : List ℕ → Bool) (s : List ℕ) → some_suffix test s ≡ true → (front : List ℕ) × (rest : List ℕ) × (s ≡ front ++ rest) × (test rest ≡ true)
passing test [] e = ([], [], refl, e)
passing test (c ∷ s) e = or_cases (test (c ∷ s)) (some_suffix test s) _ e (λ here. ([], c ∷ s, refl, here)) (λ later.
    let found = passing test s later in (c ∷ found.0, found.1, ap (λ r. c ∷ r) found.2, found.3))

-- what a word without stars and a star take from a text: some suffix behind as many scalars as the word has passes
star_behind : (w p t : List ℕ) → NoStar w → glob (w ++ 42 ∷ p) t ≡ true
    → (front : List ℕ) × (rest : List ℕ) × (t ≡ front ++ rest) × (length front ≡ length w) × (some_suffix (glob p) rest ≡ true)
star_behind [] p t no_star e = ([], t, refl, refl, e)
star_behind (q ∷ w) p [] no_star e =
    let none : false ≡ true = sym (ap (λ b. if b then some_suffix (glob (w ++ 42 ∷ p)) [] else false) (ne_eqb q 42 no_star.0)) ∙ e in absurd (cc)
star_behind (q ∷ w) p (c ∷ t) no_star e =
    let rest : (((q == 63) || (q == c)) && glob (w ++ 42 ∷ p) t) ≡ true
    = sym (ap (λ b. if b then some_suffix (glob (w ++ 42 ∷ p)) (c ∷ t) else (((q == 63) || (q == c)) && glob (w ++ 42 ∷ p) t)) (ne_eqb q 42 no_star.0)) ∙ e in
    let found = star_behind w p t no_star.1 (right_of_and ((q == 63) || (q == c)) (glob (w ++ 42 ∷ p) t) rest) in
    (c ∷ found.0, found.1, ap (λ r. c ∷ r) found.2, ap suc found.3, found.4)

-- of two ends of one text the later one is an end of the earlier one
later_end : (v s x rest : List ℕ) → v ++ s ≡ x ++ rest → length v ≤ length x → (y : List ℕ) × (s ≡ y ++ rest)
later_end [] s x rest e le = (x, e)
later_end (c ∷ v) s [] rest e le = absurd (omega arith)
later_end (c ∷ v) s (d ∷ x) rest e le = later_end v s x rest (cc) (omega arith)

-- a star may stay where it is: what a later place of the part before it would give, it gives
pub exchange : (w v s p : List ℕ) → NoStar w → length w ≡ length v → some_suffix (glob (w ++ 42 ∷ p)) (v ++ s) ≡ true → some_suffix (glob p) s ≡ true
exchange w v s p no_star as_long e =
    let found = passing (glob (w ++ 42 ∷ p)) (v ++ s) e in
    let behind = star_behind w p found.1 no_star found.3 in
    let whole : v ++ s ≡ (found.0 ++ behind.0) ++ behind.1 = found.2 ∙ ap (λ r. found.0 ++ r) behind.2 ∙ sym (append_assoc found.0 behind.0 behind.1) in
    let end = later_end v s (found.0 ++ behind.0) behind.1 whole (omega (arith, length-append found.0 behind.0, behind.3)) in
    subst (λ r. some_suffix (glob p) r ≡ true) (sym end.1) (some_suffix-append (glob p) end.0 behind.1 behind.4)

same_bool : (a b : Bool) → (a ≡ true → b ≡ true) → (b ≡ true → a ≡ true) → a ≡ b
same_bool true b to from = sym (to refl)
same_bool false true to from = from refl
same_bool false false to from = refl

some_suffix-now : (test : List ℕ → Bool) (s : List ℕ) → test s ≡ true → some_suffix test s ≡ true
some_suffix-now test [] e = e
some_suffix-now test (c ∷ s) e = ap (λ b. b || some_suffix test s) e

-- nothing fits the end of each text
pub nothing_fits : (text : List ℕ) → some_suffix (glob []) text ≡ true
nothing_fits [] = refl
nothing_fits (c ∷ text) = nothing_fits text

-- a pattern fits no text that begins with another scalar than its own
begins_otherwise : (q c : ℕ) (p s : List ℕ) → q ≢ 42 → q ≢ 63 → q ≢ c → glob (q ∷ p) (c ∷ s) ≡ false
begins_otherwise q c p s star any other =
    ap (λ b. if b then some_suffix (glob p) (c ∷ s) else (((q == 63) || (q == c)) && glob p s)) (ne_eqb q 42 star)
    ∙ ap (λ b. (b || (q == c)) && glob p s) (ne_eqb q 63 any)
    ∙ ap (λ b. b && glob p s) (ne_eqb q c other)

-- so the suffixes behind it decide
pub skipped : (q c : ℕ) (p text from rest : List ℕ) → some_suffix (glob (q ∷ p)) text ≡ some_suffix (glob (q ∷ p)) from → from ≡ c ∷ rest → q ≢ 42 → q ≢ 63 → q ≢ c
    → some_suffix (glob (q ∷ p)) text ≡ some_suffix (glob (q ∷ p)) rest
skipped q c p text from rest same is star any other =
    same ∙ ap (some_suffix (glob (q ∷ p))) is ∙ ap (λ b. b || some_suffix (glob (q ∷ p)) rest) (begins_otherwise q c p rest star any other)

-- where the pattern first fits up to its star, the star decides for all suffixes
pub first_star : (pattern text behind rest : List ℕ) → Fitted pattern text (42 ∷ behind) rest → some_suffix (glob pattern) text ≡ some_suffix (glob behind) rest
first_star pattern text behind rest fitted =
    same_bool _ _
    (λ e. exchange fitted.word fitted.part rest behind fitted.no_star fitted.as_long (
    subst (λ t. some_suffix (glob (fitted.word ++ 42 ∷ behind)) t ≡ true) fitted.text_is (subst (λ p. some_suffix (glob p) text ≡ true) fitted.pattern_is e)
    ))
    (λ e. some_suffix-now (glob pattern) text (fitted.same ∙ e))

NoStar-push : (w : List ℕ) (c : ℕ) → NoStar w → c ≢ 42 → NoStar (w ++ c ∷ [])
NoStar-push [] c no_star other = (other, tt)
NoStar-push (q ∷ w) c no_star other = (no_star.0, NoStar-push w c no_star.1 other)

-- the scalar that the pattern has next stands for the scalar that the text has next
stands_for : (q c : ℕ) → (q ≡ 63) ⊎ (q ≡ c) → ((q == 63) || (q == c)) ≡ true
stands_for q c (inl e) = ap (λ b. b || (q == c)) (eq-eqb q 63 e)
stands_for q c (inr e) = ap (λ b. (q == 63) || b) (eq-eqb q c e) ∙ or_true (q == 63)

-- one scalar more fits
pub fitted_more : (pattern text p t behind rest : List ℕ) (q c : ℕ) → Fitted pattern text p t → p ≡ q ∷ behind → t ≡ c ∷ rest → q ≢ 42 → (q ≡ 63) ⊎ (q ≡ c)
    → Fitted pattern text behind rest
fitted_more pattern text p t behind rest q c fitted p_is t_is other stands =
    record {
      word = fitted.word ++ q ∷ [];
      part = fitted.part ++ c ∷ [];
      pattern_is = fitted.pattern_is ∙ ap (λ r. fitted.word ++ r) p_is ∙ sym (append_assoc fitted.word (q ∷ []) behind);
      text_is = fitted.text_is ∙ ap (λ r. fitted.part ++ r) t_is ∙ sym (append_assoc fitted.part (c ∷ []) rest);
      as_long = length-append fitted.word (q ∷ []) ∙ ap (λ n. n + 1) fitted.as_long ∙ sym (length-append fitted.part (c ∷ []));
      no_star = NoStar-push fitted.word q fitted.no_star other;
      same = fitted.same ∙ ap (λ r. glob r t) p_is ∙ ap (λ r. glob (q ∷ behind) r) t_is
          ∙ ap (λ b. if b then some_suffix (glob behind) (c ∷ rest) else (((q == 63) || (q == c)) && glob behind rest)) (ne_eqb q 42 other)
          ∙ ap (λ b. b && glob behind rest) (stands_for q c stands);
    }

-- a pattern that is no different here has what it comes to first
pub first_found : (pattern text from : List ℕ) (found : Outcome) → some_suffix (glob pattern) text ≡ some_suffix (glob pattern) from → FitIs pattern from found
    → (found ≡ Differs → ⊥) → FirstFitIs pattern text found
first_found pattern text from Whole same fits other = same ∙ some_suffix-now (glob pattern) from fits
first_found pattern text from (Star behind rest) same fits other = same ∙ first_star pattern from (chars behind.now) (chars rest.now) fits
first_found pattern text from Differs same fits other = absurd (other refl)

-- what was found so far decides whether the text is in the pattern
abbrev pub Leads : List ℕ → List ℕ → Outcome → Type 0
Leads pattern text Whole = glob pattern text ≡ true
Leads pattern text (Star behind rest) = glob pattern text ≡ some_suffix (glob (chars behind.now)) (chars rest.now)
Leads pattern text Differs = glob pattern text ≡ false

pub fit_leads : (pattern text : List ℕ) (found : Outcome) → FitIs pattern text found → Leads pattern text found
fit_leads pattern text Whole fits = fits
fit_leads pattern text (Star behind rest) fits = fits.same
fit_leads pattern text Differs fits = fits

pub first_fit_leads : (pattern text behind rest : List ℕ) (found : Outcome) → glob pattern text ≡ some_suffix (glob behind) rest → FirstFitIs behind rest found → Leads pattern text found
first_fit_leads pattern text behind rest Whole so_far fits = so_far ∙ fits
first_fit_leads pattern text behind rest (Star b r) so_far fits = so_far ∙ fits
first_fit_leads pattern text behind rest Differs so_far fits = so_far ∙ fits

-- how much of the pattern is left
abbrev pub pattern_left : Outcome → ℕ
pattern_left Whole = 0
pattern_left (Star behind rest) = length behind.now + 1
pattern_left Differs = 0

pub pattern_falls : (behind : List ℕ) (found : Outcome) → ShorterPattern behind found → pattern_left found < length behind + 1
pattern_falls behind Whole shorter = omega arith
pattern_falls behind (Star b r) shorter = omega arith
pattern_falls behind Differs shorter = omega arith

pub whole_only : (pattern text : List ℕ) (found : Outcome) → Leads pattern text found → (found ≡ Whole → ⊥) → ((b r : Bor (List ℕ)) → found ≡ Star b r → ⊥) → glob pattern text ≡ false
whole_only pattern text Whole leads whole star = absurd (whole refl)
whole_only pattern text (Star b r) leads whole star = absurd (star b r refl)
whole_only pattern text Differs leads whole star = leads

pub whole_leads : (pattern text : List ℕ) (found : Outcome) → Leads pattern text found → found ≡ Whole → glob pattern text ≡ true
whole_leads pattern text Whole leads is = leads
whole_leads pattern text (Star b r) leads is = absurd (cc)
whole_leads pattern text Differs leads is = absurd (cc)
