-- The first load stands first.
use Rattle.std.proofs.Common.{◌≡◌, ◌≢◌, ◌++◌, [], ◌∷◌, List, ℕ, refl, sym, ap, ◌∙◌, subst}
use Rattle.std.proofs.lemmas.List.Elements.{All-head}
use mathlib.Core.List.{IsPrefix}
use Rattle.history_lock.specs.Known.{Known}
use Rattle.history_lock.specs.Calls.{Learned}
use Rattle.history_lock.specs.Entries.{NoneBy, entries_by}
use Rattle.authority_model.specs.declared.journal.Item.{Item}
use Rattle.authority_model.specs.declared.load.Loaded.{Loaded}
use Rattle.authority_model.specs.Given.{load_given, next}
use Rattle.shared_authority.specs.Journals.{IsJournal, caller_of, past_of}
use Rattle.shared_authority.specs.Passes.{Submitted}
use Rattle.serve_loader.proofs.Going.{unconnected_learned, unconnected_load}
use Rattle.authority_service.specs.Beginning.{BeginsWith, HasBegun}

-- items of which none is by 0 do not begin with one by 0
none_first : (list : List Item) (i : Item) (more : List Item) → NoneBy caller_of 0 list → list ≡ i ∷ more → i.entry.caller ≡ 0 → ⊥
none_first [] i more none is by = absurd (cc (is))
none_first (b ∷ bs) i more none is by =
    let head : caller_of b ≢ 0 = All-head (λ (i : Item). caller_of i ≢ 0) b bs none in
    let same : b ≡ i = cc (is) in
    head (ap caller_of same ∙ by)

-- others' items, and then that of the load
begins_behind : (first : Loaded) (before : List Item) (item i : Item) (more : List Item) → NoneBy caller_of 0 before → item ≡ next (past_of before) (load_given 0 0 first)
    → before ++ item ∷ [] ≡ i ∷ more → i.entry.caller ≡ 0 → i ≡ next [] (load_given 0 0 first)
begins_behind first [] item i more none is all by = sym (head item i [] more all) ∙ is
  where
    head : (x y : Item) (xs ys : List Item) → x ∷ xs ≡ y ∷ ys → x ≡ y
    head x y xs ys e = cc (e)
begins_behind first (b ∷ bs) item i more none is all by = absurd (none_first (b ∷ bs) b bs none refl (ap caller_of (head b i (bs ++ item ∷ []) more all) ∙ by))
  where
    head : (x y : Item) (xs ys : List Item) → x ∷ xs ≡ y ∷ ys → x ≡ y
    head x y xs ys e = cc (e)

-- the load was entered by a pass of number 0 that knew of nothing
pub begins_entered : (first : Loaded) (v w : Known Item) (place : ℕ) → v.number ≡ 0 → v.history ≡ [] → Submitted v (load_given v.number 0 first) place w → BeginsWith first w.history
begins_entered first v w place zero none submitted = record {
  item = (λ i more is by.
      let entered = submitted.entered in
      let g = entered.learned.grown in
      let between : g.before ≡ g.others.between = g.others.grown ∙ ap (λ (l : List Item). l ++ g.others.between) none in
      let others : NoneBy caller_of 0 g.before = subst (λ (l : List Item). NoneBy caller_of 0 l) (sym between) (subst (λ (n : ℕ). NoneBy caller_of n g.others.between) zero g.others.others) in
      begins_behind first g.before entered.item i more others (entered.is_next ∙ ap (λ (n : ℕ). next (past_of g.before) (load_given n 0 first)) zero) (sym g.grown ∙ is) by);
}

-- a pass of number 0 that knew of nothing has learned of others' items alone
pub begins_learned : (first : Loaded) (v w : Known Item) → v.number ≡ 0 → v.history ≡ [] → Learned caller_of IsJournal v w → BeginsWith first w.history
begins_learned first v w zero none learned = record {
  item = (λ i more is by.
      let g = learned.others in
      let between : w.history ≡ g.between = g.grown ∙ ap (λ (l : List Item). l ++ g.between) none in
      let others : NoneBy caller_of 0 w.history = subst (λ (l : List Item). NoneBy caller_of 0 l) (sym between) (subst (λ (n : ℕ). NoneBy caller_of n g.between) zero g.others) in
      absurd (none_first w.history i more others is by));
}

-- the same of a longer journal
pub begins_longer : (first : Loaded) (list more : List Item) → BeginsWith first list → list ≢ [] → IsPrefix list more → BeginsWith first more
begins_longer first [] more begins some longer = absurd (some refl)
begins_longer first (x ∷ xs) more begins some longer = record {
  item = (λ i rest is by.
      let same : x ≡ i = head x i (xs ++ longer.0) rest (longer.1 ∙ is) in
      sym same ∙ begins.item x xs refl (ap caller_of same ∙ by));
}
  where
    head : (x y : Item) (xs ys : List Item) → x ∷ xs ≡ y ∷ ys → x ≡ y
    head x y xs ys e = cc (e)

-- a pass of number 0 that knew of nothing has begun once it entered the load
pub begun_entered : (first : Loaded) (v w : Known Item) (place : ℕ) → v.number ≡ 0 → v.history ≡ [] → Submitted v (load_given v.number 0 first) place w → HasBegun w
begun_entered first v w place zero none submitted =
    let e = submitted.entered in
    record {
      number = e.learned.number ∙ zero;
      unconnected = unconnected_load v w 0 place first zero (rw none refl) submitted;
      first = e.item;
      own = subst (λ (n : ℕ). entries_by caller_of n w.history ≡ e.item ∷ []) zero (e.learned.own ∙ ap (λ (l : List Item). entries_by caller_of v.number l ++ e.item ∷ []) none);
    }

-- and so it has once it learned of others' items
pub begun_learned : (v w : Known Item) → HasBegun v → Learned caller_of IsJournal v w → HasBegun w
begun_learned v w begun learned = record {
  number = learned.number ∙ begun.number;
  unconnected = unconnected_learned v w begun.number begun.unconnected learned;
  first = begun.first;
  own = subst (λ (n : ℕ). entries_by caller_of n w.history ≡ entries_by caller_of n v.history) begun.number learned.own ∙ begun.own;
}

-- a pass that has begun knows of something
pub some_begun : (v : Known Item) → HasBegun v → v.history ≢ []
some_begun v begun none =
    let nothing : [] ≡ begun.first ∷ [] = sym (ap (λ (l : List Item). entries_by caller_of 0 l) none) ∙ begun.own in
    absurd (cc (nothing))
