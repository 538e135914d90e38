-- How a pass's history grows, and what that says of its caller's own entries.
use Rattle.std.proofs.Common.{◌≡◌, ◌≢◌, ℕ, suc, ◌+◌, ◌<◌, ◌≤◌, ◌⊎◌, Bool, true, false, cond, List, [], ◌∷◌, ◌++◌, length, Some, None, Option, refl, sym, ap, ◌∙◌, subst, ⊎_elim, arith, length-append, append_assoc}
use Rattle.std.specs.Prelude.{◌==◌}
use Rattle.std.proofs.lemmas.List.{append-nil}
use Rattle.std.proofs.lemmas.List.Elements.{filter-append, All-append, All-nil, All-cons, All-head, All-tail}
use Rattle.std.proofs.lemmas.Bool.Decides.{nat_tests}
use mathlib.Core.List.{IsPrefix}
use mathlib.Core.Option.{some}
use lib.ListN.{get_elem?}
use Rattle.atomic_table.proofs.Lists.{at_longer}
use Rattle.history_lock.specs.Known.{Known}
use Rattle.history_lock.specs.Entries.{entries_by, NoneBy, GrownByOthers, Grown}
use Rattle.history_lock.specs.Causes.{KnowsEnd}
use Rattle.history_lock.specs.Calls.{Learned, LearnedOwn}
use Rattle.history_lock.proofs.Prefixes.{prefix_trans, at_below}
use Rattle.history_lock.proofs.Knowing.{knows_trans}

module _ {I : Type 0} (caller_of : I → ℕ) where
  -- no entry is by n, if none is at any place
  pub none_by : (n : ℕ) (rest : List I) → ((k : ℕ) (e : I) → get_elem? rest k ≡ some e → caller_of e ≡ n → ⊥) → NoneBy caller_of n rest
  none_by n [] none = All-nil (λ e. caller_of e ≢ n)
  none_by n (x ∷ xs) none = All-cons (λ e. caller_of e ≢ n) x xs (none 0 x refl) (none_by n xs (λ k e at. none (suc k) e at))

  -- what stands in the rest stands in the whole, so much further on
  pub at_behind : (h rest : List I) (k : ℕ) (e : I) → get_elem? rest k ≡ some e → get_elem? (h ++ rest) (length h + k) ≡ some e
  at_behind [] rest k e at = subst (λ (j : ℕ). get_elem? rest j ≡ some e) (let z : k ≡ 0 + k = omega arith in z) at
  at_behind (x ∷ h) rest k e at = subst (λ (j : ℕ). get_elem? (x ∷ (h ++ rest)) j ≡ some e) (let z : suc (length h + k) ≡ length (x ∷ h) + k = omega arith in z) (at_behind h rest k e at)

  -- where each entry of the caller stands in what it had, the rest is others'
  pub others_of : (n : ℕ) (h more : List I) → IsPrefix h more → ((k : ℕ) (e : I) → get_elem? more k ≡ some e → caller_of e ≡ n → k < length h) → GrownByOthers caller_of n h more
  others_of n h more p own = record {
    between = p.0;
    grown = sym p.1;
    others = none_by n p.0 (λ k e at mine. let l = own (length h + k) e (subst (λ (l : List I). get_elem? l (length h + k) ≡ some e) p.1 (at_behind h p.0 k e at)) mine in omega arith);
  }

  -- the same, where one entry more came, which may be the caller's
  pub others_before : (n : ℕ) (h more : List I) (d : I) (F : Type 0) → IsPrefix h more
      → ((k : ℕ) (e : I) → get_elem? (more ++ d ∷ []) k ≡ some e → caller_of e ≡ n → (k < length h) ⊎ (F × (suc k ≡ length (more ++ d ∷ []))))
      → GrownByOthers caller_of n h more
  others_before n h more d F p own =
      others_of n h more p (λ k e at mine. ⊎_elim (λ (l : k < length h). l)
      (λ (q : F × (suc k ≡ length (more ++ d ∷ []))). let b = at_below more k e at in absurd (omega (arith, q.1, length-append more (d ∷ []))))
      (own k e (at_longer more (d ∷ []) k e at) mine))

  -- what a pass tells of itself once it took a note of the book, with the history H, where nobody is in flight
  pub others_told : (p p' : Known I) (H H' w : List I) (f : Option ℕ) → p' ≡ p → H' ≡ H → w ≡ H' → f ≡ None → IsPrefix p.history H
      → ((k : ℕ) (e : I) → get_elem? H' k ≡ some e → caller_of e ≡ p'.number → (k < length p'.history) ⊎ ((f ≡ Some p'.number) × (suc k ≡ length H')))
      → GrownByOthers caller_of p.number p.history w
  others_told p p' H H' w f same here is idle pre own =
      let own' = subst (λ (q : Known I). (k : ℕ) (e : I) → get_elem? H' k ≡ some e → caller_of e ≡ q.number → (k < length q.history) ⊎ ((f ≡ Some q.number) × (suc k ≡ length H'))) same own in
      others_of p.number p.history w (subst (λ (l : List I). IsPrefix p.history l) (sym (is ∙ here)) pre)
      (λ k e at mine. ⊎_elim (λ (l : k < length p.history). l) (λ (q : (f ≡ Some p.number) × (suc k ≡ length H')). absurd (cc (q.0, idle)))
      (own' k e (subst (λ (l : List I). get_elem? l k ≡ some e) is at) mine))

  -- the same once the entry e went behind H
  pub others_told_before : (p p' : Known I) (H H' : List I) (e : I) (f : Option ℕ) → p' ≡ p → H' ≡ H ++ e ∷ [] → IsPrefix p.history H
      → ((k : ℕ) (x : I) → get_elem? H' k ≡ some x → caller_of x ≡ p'.number → (k < length p'.history) ⊎ ((f ≡ Some p'.number) × (suc k ≡ length H')))
      → GrownByOthers caller_of p.number p.history H
  others_told_before p p' H H' e f same here pre own =
      let own' = subst (λ (q : Known I). (k : ℕ) (x : I) → get_elem? H' k ≡ some x → caller_of x ≡ q.number → (k < length q.history) ⊎ ((f ≡ Some q.number) × (suc k ≡ length H'))) same own in
      others_before p.number p.history H e (f ≡ Some p.number) pre
      (subst (λ (l : List I). (k : ℕ) (x : I) → get_elem? l k ≡ some x → caller_of x ≡ p.number → (k < length p.history) ⊎ ((f ≡ Some p.number) × (suc k ≡ length l))) here own')

  -- no entry is by a caller whose number is not yet given
  pub none_above : (h : List I) (m : ℕ) → ((k : ℕ) (e : I) → get_elem? h k ≡ some e → caller_of e < m) → NoneBy caller_of m h
  none_above h m below = none_by m h (λ k e at mine. let b = below k e at in absurd (omega arith))

  pub entries_by-append : (n : ℕ) (xs ys : List I) → entries_by caller_of n (xs ++ ys) ≡ entries_by caller_of n xs ++ entries_by caller_of n ys
  entries_by-append n xs ys = filter-append (λ e. caller_of e == n) xs ys

  -- one's own entry is kept
  pub entries_by-own : (n : ℕ) (x : I) (xs : List I) → caller_of x ≡ n → entries_by caller_of n (x ∷ xs) ≡ x ∷ entries_by caller_of n xs
  entries_by-own n x xs mine = tested (caller_of x == n) refl
    where
      tested : (b : Bool) → (caller_of x == n) ≡ b → cond b (x ∷ entries_by caller_of n xs) (entries_by caller_of n xs) ≡ x ∷ entries_by caller_of n xs
      tested true q = refl
      tested false q = let no : caller_of x ≢ n = grind (arith, nat_tests) in absurd (no mine)

  -- another's is left out
  pub entries_by-other : (n : ℕ) (x : I) (xs : List I) → caller_of x ≢ n → entries_by caller_of n (x ∷ xs) ≡ entries_by caller_of n xs
  entries_by-other n x xs other = tested (caller_of x == n) refl
    where
      tested : (b : Bool) → (caller_of x == n) ≡ b → cond b (x ∷ entries_by caller_of n xs) (entries_by caller_of n xs) ≡ entries_by caller_of n xs
      tested true q = let same : caller_of x ≡ n = grind (arith, nat_tests) in absurd (other same)
      tested false q = refl

  pub entries_by-none : (n : ℕ) (xs : List I) → NoneBy caller_of n xs → entries_by caller_of n xs ≡ []
  entries_by-none n [] none = refl
  entries_by-none n (x ∷ xs) none = entries_by-other n x xs (All-head (λ e. caller_of e ≢ n) x xs none) ∙ entries_by-none n xs (All-tail (λ e. caller_of e ≢ n) x xs none)

  -- others' entries change nothing of a caller's own
  pub entries_by-others : (n : ℕ) (h more : List I) → GrownByOthers caller_of n h more → entries_by caller_of n more ≡ entries_by caller_of n h
  entries_by-others n h more g = ap (entries_by caller_of n) g.grown ∙ entries_by-append n h g.between ∙ ap (λ (l : List I). entries_by caller_of n h ++ l) (entries_by-none n g.between g.others) ∙ append-nil (entries_by caller_of n h)

  -- where the caller's own entry came, it is the last of them
  pub entries_by-grown : (h more : List I) (n : ℕ) (e : I) → Grown caller_of h more n e → entries_by caller_of n more ≡ entries_by caller_of n h ++ e ∷ []
  entries_by-grown h more n e g =
      ap (entries_by caller_of n) g.grown ∙ entries_by-append n g.before (e ∷ [])
      ∙ (λ i. entries_by-others n h g.before g.others i ++ entries_by-own n e [] g.by i)

  module _ (Legal : List I → Type 0) where
    -- a pass that learned of others' entries
    pub learned_of : (v w : Known I) → w.number ≡ v.number → v.made ≤ w.made → GrownByOthers caller_of v.number v.history w.history → Legal w.history → KnowsEnd v.ended v.history w.ended w.history → Learned caller_of Legal v w
    learned_of v w number made others legal ended = record {
      number = number;
      made = made;
      others = others;
      own = entries_by-others v.number v.history w.history others;
      legal = legal;
      ended = ended;
    }

    -- a pass that learned of others' entries, and then of its own
    abbrev pub learned_own_of : (v : Known I) (e : I) (w : Known I) (before : List I) → w.number ≡ v.number → v.made ≤ w.made → GrownByOthers caller_of v.number v.history before → w.history ≡ before ++ e ∷ [] → caller_of e ≡ v.number → Legal w.history → v.ended ≡ None → w.ended ≡ None → LearnedOwn caller_of Legal v e w
    learned_own_of v e w before number made others is by legal knew none =
        let grown : Grown caller_of v.history w.history v.number e = record { before = before; others = others; grown = is; by = by } in record {
          number = number;
          made = made;
          grown = grown;
          own = entries_by-grown v.history w.history v.number e grown;
          legal = legal;
          knew_none = knew;
          none_kept = none;
        }

    -- a pass that took a note of the book, where nobody is in flight: it stood for p and then for p', and the book's history was H and then H'
    pub learned_told : (p p' w : Known I) (H H' : List I) (f : Option ℕ) → p' ≡ p → H' ≡ H → w.history ≡ H' → f ≡ None → IsPrefix p.history H
        → ((k : ℕ) (e : I) → get_elem? H' k ≡ some e → caller_of e ≡ p'.number → (k < length p'.history) ⊎ ((f ≡ Some p'.number) × (suc k ≡ length H')))
        → w.number ≡ p'.number → p.made ≤ w.made → Legal w.history → KnowsEnd p'.ended p'.history w.ended w.history → Learned caller_of Legal p w
    learned_told p p' w H H' f same here is idle pre own number made legal ended =
        learned_of p w (number ∙ ap (λ (q : Known I). q.number) same) made
        (others_told p p' H H' w.history f same here is idle pre own) legal
        (subst (λ (q : Known I). KnowsEnd q.ended q.history w.ended w.history) same ended)

  -- where the history grew by others' entries, it begins the later one
  pub others_begin : (n : ℕ) (h more : List I) → GrownByOthers caller_of n h more → IsPrefix h more
  others_begin n h more g = (g.between, sym g.grown)

  -- others' entries came, and then others'
  pub others_trans : (n : ℕ) (h more most : List I) → GrownByOthers caller_of n h more → GrownByOthers caller_of n more most → GrownByOthers caller_of n h most
  others_trans n h more most a b = record {
    between = a.between ++ b.between;
    grown = b.grown ∙ ap (λ (l : List I). l ++ b.between) a.grown ∙ append_assoc h a.between b.between;
    others = All-append (λ e. caller_of e ≢ n) a.between b.between a.others b.others;
  }

  -- the same of a history that grew by the caller's own entry
  pub grown_begin : (h more : List I) (n : ℕ) (e : I) → Grown caller_of h more n e → IsPrefix h more
  grown_begin h more n e g = prefix_trans h g.before more (others_begin n h g.before g.others) (e ∷ [], sym g.grown)

  module _ (Legal : List I → Type 0) where
    -- what a pass knew begins what it knows
    pub learned_begins : (v w : Known I) → Learned caller_of Legal v w → IsPrefix v.history w.history
    learned_begins v w l = others_begin v.number v.history w.history l.others

    -- and so it does where it learned of its own entry
    pub learned_own_begins : (v : Known I) (e : I) (w : Known I) → LearnedOwn caller_of Legal v e w → IsPrefix v.history w.history
    learned_own_begins v e w l = grown_begin v.history w.history v.number e l.grown

    -- a pass that learned of others' entries, and then of others'
    pub learned_trans : (u v w : Known I) → Learned caller_of Legal u v → Learned caller_of Legal v w → Learned caller_of Legal u w
    learned_trans u v w a b = record {
      number = b.number ∙ a.number;
      made = (let x = a.made in let y = b.made in omega arith);
      others = others_trans u.number u.history v.history w.history a.others (subst (λ (n : ℕ). GrownByOthers caller_of n v.history w.history) a.number b.others);
      own = subst (λ (n : ℕ). entries_by caller_of n w.history ≡ entries_by caller_of n v.history) a.number b.own ∙ a.own;
      legal = b.legal;
      ended = knows_trans u.ended v.ended w.ended u.history v.history w.history a.ended b.ended;
    }
