-- The rule that the code keeps implies the rule in plain sentences.
use Rattle.std.proofs.Common.{◌≡◌, ◌≢◌, ℕ, suc, ◌+◌, ◌<◌, ◌⊎◌, inl, inr, Bool, true, false, List, [], ◌∷◌, ◌++◌, length, Some, None, refl, sym, ap, ◌∙◌, subst, ⊎_elim, arith, append_assoc, length-append}
use Rattle.std.specs.Prelude.{◌==◌, slice_get}
use Rattle.std.proofs.lemmas.Bool.Decides.{nat_tests}
use Rattle.std.proofs.lemmas.List.Elements.{All-nil, All-cons}
use mathlib.Core.List.{IsPrefix}
use mathlib.Core.Option.{some}
use lib.ListN.{get_elem?}
use Rattle.history_lock.specs.declared.view.Kind.TheVariants.{Book, Note}
use Rattle.history_lock.specs.declared.view.View.{View}
use Rattle.history_lock.specs.Entries.{entries_by, NoneBy}
use Rattle.history_lock.specs.Rule.{RuleAt, MeetsRule}
use Rattle.history_lock.specs.PlainRule.{OwnEntries, PlainAt, MeetsPlainRule}
use Rattle.history_lock.specs.PlainRule.OwnEntries.{had, told}
use Rattle.history_lock.proofs.Prefixes.{prefix_trans, prefix_at}
use Rattle.history_lock.proofs.Knowing.{knows_trans}
use Rattle.history_lock.proofs.Growth.{none_by, at_behind, entries_by-none, entries_by-append, entries_by-own, entries_by-others}

module _ {I : Type 0} (caller_of : I → ℕ) where
  -- the first entry of n in a list: none is by n, or one is, at the place after others' entries
  abbrev FirstBy : ℕ → List I → Type 0
  FirstBy n xs = (others : List I) × (e : I) × (rest : List I) × (xs ≡ others ++ e ∷ rest) × NoneBy caller_of n others × (caller_of e ≡ n)

  first_by : (n : ℕ) (xs : List I) → NoneBy caller_of n xs ⊎ FirstBy n xs
  first_by n [] = inl (All-nil (λ e. caller_of e ≢ n))
  first_by n (x ∷ xs) = tested (caller_of x == n) refl (first_by n xs)
    where
      tested : (b : Bool) → (caller_of x == n) ≡ b → NoneBy caller_of n xs ⊎ FirstBy n xs → NoneBy caller_of n (x ∷ xs) ⊎ FirstBy n (x ∷ xs)
      tested true q rest = inr ([], x, xs, refl, All-nil (λ e. caller_of e ≢ n), grind (arith, nat_tests))
      tested false q (inl none) = inl (All-cons (λ e. caller_of e ≢ n) x xs (let no : caller_of x ≢ n = grind (arith, nat_tests) in no) none)
      tested false q (inr f) = inr (x ∷ f.0, f.1, f.2, ap (λ l. x ∷ l) f.3, All-cons (λ e. caller_of e ≢ n) x f.0 (let no : caller_of x ≢ n = grind (arith, nat_tests) in no) f.4, f.5)

  -- what stands behind others stands at the place of their number
  at_length : (others rest : List I) (e : I) → get_elem? (others ++ e ∷ rest) (length others) ≡ some e
  at_length [] rest e = refl
  at_length (x ∷ others) rest e = at_length others rest e

  -- a beginning that is one longer than others, of others and e and more, is others and e
  one_longer : (note others rest : List I) (e : I) → IsPrefix note (others ++ e ∷ rest) → length note ≡ suc (length others) → note ≡ others ++ e ∷ []
  one_longer [] others rest e p long = absurd (omega (arith, long))
  one_longer (x ∷ []) [] rest e p long = cc (p.1)
  one_longer (x ∷ y ∷ note) [] rest e p long = absurd (omega (arith, long))
  one_longer (x ∷ note) (y ∷ others) rest e p long =
      let same : x ≡ y = cc (p.1) in
      let more = one_longer note others rest e (p.0, cc (p.1)) (omega (arith, long)) in cc (same, more)

  -- a caller's own entries by places are its own entries by lists
  own_entries : (x : View I) → IsPrefix x.old_history x.history → IsPrefix x.note_history x.history
      → ((k : ℕ) (e : I) → get_elem? x.history k ≡ some e → caller_of e ≡ x.number → (k < length x.old_history) ⊎ ((x.note_name ≡ Some x.number) × (suc k ≡ length x.note_history)))
      → OwnEntries caller_of x
  own_entries x p note own =
      let n = x.number in
      let old = x.old_history in
      ⊎_elim
      (λ (none : NoneBy caller_of n p.0). had (entries_by-others caller_of n old x.history record { between = p.0; grown = sym p.1; others = none }))
      (λ (f : FirstBy n p.0).
      let base = old ++ f.0 in
      let e = f.1 in
      let rest = f.2 in
      let long = length-append old f.0 in
      let whole : x.history ≡ base ++ e ∷ rest = sym p.1 ∙ ap (λ (l : List I). old ++ l) f.3 ∙ sym (append_assoc old f.0 (e ∷ rest)) in
      let mine : (k : ℕ) (d : I) → get_elem? (base ++ e ∷ rest) k ≡ some d → caller_of d ≡ n → (k < length old) ⊎ ((x.note_name ≡ Some n) × (suc k ≡ length x.note_history)) =
      subst (λ (l : List I). (k : ℕ) (d : I) → get_elem? l k ≡ some d → caller_of d ≡ n → (k < length old) ⊎ ((x.note_name ≡ Some n) × (suc k ≡ length x.note_history))) whole own in
      let last : (x.note_name ≡ Some n) × (suc (length base) ≡ length x.note_history) =
      ⊎_elim (λ (l : length base < length old). absurd (omega arith)) (λ (q : (x.note_name ≡ Some n) × (suc (length base) ≡ length x.note_history)). q) (mine (length base) e (at_length base rest e) f.5) in
      let others : NoneBy caller_of n rest =
      none_by caller_of n rest (λ k d at by. ⊎_elim (λ (l : length base + suc k < length old). absurd (omega arith)) (λ (q : (x.note_name ≡ Some n) × (suc (length base + suc k) ≡ length x.note_history)). absurd (omega (arith, q.1, last.1)))
      (mine (length base + suc k) d (at_behind caller_of base (e ∷ rest) (suc k) d at) by)) in
      let note_is : x.note_history ≡ base ++ e ∷ [] = one_longer x.note_history base rest e (subst (λ (l : List I). IsPrefix x.note_history l) whole note) (sym last.1) in
      let before : entries_by caller_of n base ≡ entries_by caller_of n old = entries_by-others caller_of n old base record { between = f.0; grown = refl; others = f.4 } in
      let behind : entries_by caller_of n (e ∷ rest) ≡ e ∷ [] = entries_by-own caller_of n e rest f.5 ∙ ap (λ (l : List I). e ∷ l) (entries_by-none caller_of n rest others) in
      told e base last.0 note_is (ap (entries_by caller_of n) whole ∙ entries_by-append caller_of n base (e ∷ rest) ∙ (λ i. before i ++ behind i)))
      (first_by n p.0)

module _ {I : Type 0} (caller_of : I → ℕ) (Legal : List I → Type 0) where
  plain_at : (words : List ℕ) (views : List (View I)) (b : ℕ) (v : View I) → RuleAt caller_of Legal words views b v → PlainAt caller_of Legal words views b v
  plain_at words views b v k = record {
    there = k.there;
    is_book = k.is_book;
    one_book = (λ j u at is. (k.each j u at).one_book is);
    word = subst (λ (ws : List ℕ). slice_get ws 0 ≡ Some (length v.history)) (sym k.word) refl;
    legal = (λ j u at _. (k.each j u at).legal);
    history = (λ j u at _. (k.each j u at).begins);
    old_history = (λ j u at _. let f = k.each j u at in prefix_trans u.old_history u.history v.history f.old_begins f.begins);
    note_history = (λ j u at _. let f = k.each j u at in prefix_trans u.note_history u.history v.history f.note_begins f.begins);
    made = (λ j u at _. let f = k.each j u at in let m = f.counted in let o = f.old_counted in (m, omega arith));
    ended = (λ j u at _. (k.each j u at).ended);
    old_ended = (λ j u at _. let f = k.each j u at in knows_trans u.old_ended u.ended v.ended u.old_history u.history v.history f.old_ended f.ended);
    note_ended = (λ j u at _. let f = k.each j u at in knows_trans u.note_ended u.ended v.ended u.note_history u.history v.history f.note_ended f.ended);
    numbers_differ = (λ i x j y at there is is' apart same. apart ((k.pairs i x at is j y there).apart is' (sym same)));
    numbers_below = (λ j u at is. let f = k.each j u at in let n = (f.numbered is).0 in let m = f.counted in omega arith);
    callers_below = (λ j u at _ i e here. k.callers i e (prefix_at u.history v.history i e (k.each j u at).begins here));
    seen = (λ i x j y at there is _ _ l e here mine. ⊎_elim
        (λ (below : l < length x.history). inl below)
        (λ (last : (y.in_flight ≡ Some x.number) × (suc l ≡ length y.history)). ⊎_elim
        (λ (nobody : y.in_flight ≡ None). absurd (cc (nobody, last.0)))
        (λ (whose : (y.kind ≡ Book) ⊎ (y.kind ≡ Note)). inr (whose, last.0, last.1))
        (k.each j y there).names)
        ((k.pairs i x at is j y there).seen l e here mine));
    own = (λ i x at is. let f = k.each i x at in own_entries caller_of x f.old_begins f.note_begins (f.own is));
    receipt = (λ i x j y at there is receipt same. (k.pairs i x at is j y there).receipt receipt same);
  }

  -- the stronger rule implies each plain sentence
  pub plain_from_rule : (words : List ℕ) (views : List (View I)) → MeetsRule caller_of Legal words views → MeetsPlainRule caller_of Legal words views
  plain_from_rule words views kept = (kept.0, kept.1, plain_at words views kept.0 kept.1 kept.2)
