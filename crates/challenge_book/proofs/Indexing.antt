-- One index of the challenges, and their being apart, as challenges are opened, closed and answered.
use Rattle.std.proofs.Common.{◌≡◌, ◌≤◌, inl, inr, ℕ, Bool, true, false, cond, not, List, [], ◌∷◌, ◌++◌, refl, sym, ap, ◌∙◌, Option, Some, None, length, arith}
use Rattle.std.specs.Prelude.{find, map}
use Rattle.std.specs.Option.{option_map, option_or}
use Rattle.std.proofs.lemmas.List.Folds.{find-append}
use Rattle.pk_types.specs.declared.values.Identity.{Identity}
use Rattle.authority_model.specs.declared.pending.Pending.{Pending}
use Rattle.authority_model.specs.Lists.{Each}
use Rattle.entry_changes.specs.Changes.{is_of_entry, clash, IsFresh, AreApart, without, answered_by}
use Rattle.challenge_book.specs.Keys.{Indexes}
use Rattle.challenge_book.proofs.Finding.{tells, TellsApart, only, beside, fresh_for}

-- challenges that cannot be mistaken for one still cannot where one of them is taken out
kept : (x : Pending) (e : ℕ) (ys : List Pending) → Each (λ y. clash x y ≡ false) ys → Each (λ y. clash x y ≡ false) (without e ys)
kept x e [] apart = tt
kept x e (y ∷ ys) apart = by (is_of_entry e y) (kept x e ys apart.1)
  where
    by : (b : Bool) → Each (λ y. clash x y ≡ false) (without e ys) → Each (λ y. clash x y ≡ false) (cond (not b) (y ∷ without e ys) (without e ys))
    by true rest = rest
    by false rest = (apart.0, rest)

-- challenges stay apart where one of them is taken out
pub apart_without : (e : ℕ) (items : List Pending) → AreApart items → AreApart (without e items)
apart_without e [] apart = tt
apart_without e (x ∷ xs) apart = by (is_of_entry e x) (apart_without e xs apart.1)
  where
    by : (b : Bool) → AreApart (without e xs) → AreApart (cond (not b) (x ∷ without e xs) (without e xs))
    by true rest = rest
    by false rest = (kept x e xs apart.0, rest)

-- challenges that cannot be mistaken for one still cannot with one more of them
more : (x row : Pending) → clash x row ≡ false → (ys : List Pending) → Each (λ y. clash x y ≡ false) ys → Each (λ y. clash x y ≡ false) (ys ++ row ∷ [])
more x row fresh [] apart = (fresh, tt)
more x row fresh (y ∷ ys) apart = (apart.0, more x row fresh ys apart.1)

-- challenges stay apart with a fresh one
pub apart_with : (row : Pending) (items : List Pending) → IsFresh row items → AreApart items → AreApart (items ++ row ∷ [])
apart_with row [] fresh apart = (tt, tt)
apart_with row (x ∷ xs) fresh apart = (more x row fresh.0 xs apart.0, apart_with row xs fresh.1 apart.1)

-- an answer to the later of two challenges does not change whether they can be mistaken for each other
like : (e : ℕ) (identity : Identity) (x y : Pending) → clash x (answered_by e identity y) ≡ clash x y
like e identity x y = by (is_of_entry e y)
  where
    by : (b : Bool) → clash x (cond b (record y { answered = Some identity }) y) ≡ clash x y
    by true = refl
    by false = refl

-- an answer to the earlier of two challenges does not change whether they can be mistaken for each other
like_first : (e : ℕ) (identity : Identity) (x y : Pending) → clash (answered_by e identity x) y ≡ clash x y
like_first e identity x y = by (is_of_entry e x)
  where
    by : (b : Bool) → clash (cond b (record x { answered = Some identity }) x) y ≡ clash x y
    by true = refl
    by false = refl

-- challenges that cannot be mistaken for one still cannot after an answer
answered_each : (e : ℕ) (identity : Identity) (x : Pending) (ys : List Pending) → Each (λ y. clash x y ≡ false) ys → Each (λ y. clash (answered_by e identity x) y ≡ false) (map (answered_by e identity) ys)
answered_each e identity x [] apart = tt
answered_each e identity x (y ∷ ys) apart = (like_first e identity x (answered_by e identity y) ∙ like e identity x y ∙ apart.0, answered_each e identity x ys apart.1)

-- challenges stay apart after an answer
pub apart_answered : (e : ℕ) (identity : Identity) (items : List Pending) → AreApart items → AreApart (map (answered_by e identity) items)
apart_answered e identity [] apart = tt
apart_answered e identity (x ∷ xs) apart = (answered_each e identity x xs apart.0, apart_answered e identity xs apart.1)

-- there are no more challenges without one of them
pub fewer : (e : ℕ) (items : List Pending) → length (without e items) ≤ length items
fewer e [] = omega arith
fewer e (x ∷ xs) = by (is_of_entry e x) (fewer e xs)
  where
    by : (b : Bool) → length (without e xs) ≤ length xs → length (cond (not b) (x ∷ without e xs) (without e xs)) ≤ length (x ∷ xs)
    by true rest = omega (arith, rest)
    by false rest = omega (arith, rest)

-- nothing after something is that
or_none : {A : Type 0} (o : Option A) → option_or o None ≡ o
or_none None = refl
or_none (Some x) = refl

-- a test of a key that an answer does not change
abbrev pub IsBlind : {Q : Type 0} → (Q → Pending → Bool) → Type 0
IsBlind {Q} test = (q : Q) (x : Pending) (identity : Identity) → test q (record x { answered = Some identity }) ≡ test q x

-- such a test passes an answered challenge as before
pub answered_test : {Q : Type 0} (test : Q → Pending → Bool) (e : ℕ) (identity : Identity) → IsBlind test → (q : Q) (x : Pending) → test q (answered_by e identity x) ≡ test q x
answered_test test e identity blind q x = by (is_of_entry e x)
  where
    by : (b : Bool) → test q (cond b (record x { answered = Some identity }) x) ≡ test q x
    by true = blind q x identity
    by false = refl

-- an answered challenge is of the same entry
answered_entry : (e : ℕ) (identity : Identity) (x : Pending) → Some (answered_by e identity x).entry ≡ Some x.entry
answered_entry e identity x = by (is_of_entry e x)
  where
    by : (b : Bool) → Some (cond b (record x { answered = Some identity }) x).entry ≡ Some x.entry
    by true = refl
    by false = refl

-- such a test finds a challenge of the same entry after an answer
answered_find : {Q : Type 0} (test : Q → Pending → Bool) (e : ℕ) (identity : Identity) → IsBlind test → (q : Q) (items : List Pending) → option_map (λ (ch : Pending). ch.entry) (find (test q) (map (answered_by e identity) items)) ≡ option_map (λ (ch : Pending). ch.entry) (find (test q) items)
answered_find test e identity blind q [] = refl
answered_find test e identity blind q (x ∷ xs) =
    ap (λ b. option_map (λ (ch : Pending). ch.entry) (cond b (Some (answered_by e identity x)) (find (test q) (map (answered_by e identity) xs)))) (answered_test test e identity blind q x)
    ∙ by (test q x) (answered_find test e identity blind q xs) (answered_entry e identity x)
  where
    by : (b : Bool) → option_map (λ (ch : Pending). ch.entry) (find (test q) (map (answered_by e identity) xs)) ≡ option_map (λ (ch : Pending). ch.entry) (find (test q) xs) → Some (answered_by e identity x).entry ≡ Some x.entry
        → option_map (λ (ch : Pending). ch.entry) (cond b (Some (answered_by e identity x)) (find (test q) (map (answered_by e identity) xs))) ≡ option_map (λ (ch : Pending). ch.entry) (cond b (Some x) (find (test q) xs))
    by true rest entry = entry
    by false rest entry = rest

-- an index into which the entry of a fresh challenge is put, at the keys that find it, is one of the challenges with it
pub index_more : {Q : Type 0} (test : Q → Pending → Bool) (f g : Q → Option ℕ) (items : List Pending) (row : Pending) → ((q : Q) → TellsApart (test q)) → IsFresh row items → Indexes test f items
    → ((q : Q) → g q ≡ cond (test q row) (Some row.entry) (f q)) → Indexes test g (items ++ row ∷ [])
index_more test f g items row joint fresh is puts q =
    puts q ∙ elim (tells (test q row)) [
      | inl hit ↦ ap (λ b. cond b (Some row.entry) (f q)) hit ∙ sym (ap (option_map (λ (ch : Pending). ch.entry)) (find-append (test q) items (row ∷ []) ∙ ap (λ o. option_or o (cond (test q row) (Some row) None)) (fresh_for (test q) row (joint q) hit items fresh) ∙ ap (λ b. cond b (Some row) None) hit))
      | inr miss ↦ ap (λ b. cond b (Some row.entry) (f q)) miss ∙ is q ∙ sym (ap (option_map (λ (ch : Pending). ch.entry)) (find-append (test q) items (row ∷ []) ∙ ap (λ b. option_or (find (test q) items) (cond b (Some row) None)) miss ∙ or_none (find (test q) items)))
    ]

-- an index from which the keys that find a challenge are taken out is one of the challenges without it
pub index_less : {Q : Type 0} (test : Q → Pending → Bool) (f g : Q → Option ℕ) (items : List Pending) (e : ℕ) (row : Pending) → ((q : Q) → TellsApart (test q)) → AreApart items → find (is_of_entry e) items ≡ Some row → Indexes test f items
    → ((q : Q) → g q ≡ cond (test q row) None (f q)) → Indexes test g (without e items)
index_less test f g items e row joint apart found is takes q =
    takes q ∙ elim (tells (test q row)) [
      | inl hit ↦ ap (λ b. cond b None (f q)) hit ∙ sym (ap (option_map (λ (ch : Pending). ch.entry)) (only (test q) e row (joint q) hit items apart found))
      | inr miss ↦ ap (λ b. cond b None (f q)) miss ∙ is q ∙ sym (ap (option_map (λ (ch : Pending). ch.entry)) (beside (test q) e row miss items apart found))
    ]

-- an index of the challenges is one of them after an answer
pub index_answered : {Q : Type 0} (test : Q → Pending → Bool) (f : Q → Option ℕ) (items : List Pending) (e : ℕ) (identity : Identity) → IsBlind test → Indexes test f items → Indexes test f (map (answered_by e identity) items)
index_answered test f items e identity blind is q = is q ∙ sym (answered_find test e identity blind q items)
