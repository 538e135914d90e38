-- Challenges that are found by a test, where no two of them can be mistaken for each other.
use Rattle.std.proofs.Common.{◌≡◌, ◌⊎◌, inl, inr, ℕ, Bool, true, false, true≢false, cond, not, ◌&&◌, ◌||◌, List, [], ◌∷◌, refl, sym, ap, ◌∙◌, subst, Option, Some, None}
use Rattle.std.specs.Prelude.{find}
use Rattle.std.specs.Option.{option_and_then, option_map}
use Rattle.std.proofs.lemmas.Bool.{eq-eqb}
use Rattle.std.proofs.lemmas.Bool.Decides.{eqb_tells, Decides-eqb}
use Rattle.authority_model.specs.declared.pending.Pending.{Pending}
use Rattle.authority_model.specs.Lists.{Each}
use Rattle.entry_changes.specs.Changes.{is_of_entry, clash, IsFresh, AreApart, without}

-- a test is passed or not
pub tells : (b : Bool) → (b ≡ true) ⊎ (b ≡ false)
tells true = inl refl
tells false = inr refl

-- where two tests are both passed, each is
pub both : (a b : Bool) → (a && b) ≡ true → (a ≡ true) × (b ≡ true)
both true b is = (refl, is)
both false b is = absurd (true≢false (sym is))

-- where one of four tests would do and none is passed, each fails
pub none : (a b c d : Bool) → (a || b || c || d) ≡ false → (a ≡ false) × (b ≡ false) × (c ≡ false) × (d ≡ false)
none true b c d is = absurd (true≢false is)
none false true c d is = absurd (true≢false is)
none false false true d is = absurd (true≢false is)
none false false false d is = (refl, refl, refl, is)

-- a challenge was opened by its own entry
own_entry : (x : Pending) → is_of_entry x.entry x ≡ true
own_entry x = eq-eqb x.entry x.entry refl

-- a challenge was not opened by the entry of another one
pub other_entry : (x y : Pending) → clash x y ≡ false → is_of_entry y.entry x ≡ false
other_entry x y apart =
    elim (eqb_tells y.entry x.entry) [
      | inl same ↦ absurd (true≢false (sym (eq-eqb x.entry y.entry (sym same.1)) ∙ (none _ _ _ _ apart).0))
      | inr differs ↦ differs.0
    ]

-- what is found passes its test, and has the property that each element has
pub found_has : {A : Type 0} (p : A → Bool) (P : A → Type 0) (xs : List A) (y : A) → Each P xs → find p xs ≡ Some y → P y × (p y ≡ true)
found_has p P [] y each is = cc
found_has {A = A} p P (x ∷ xs) y each is =
    elim (tells (p x)) [
      | inl hit ↦ let one : x ≡ y = same x y (ap (λ b. cond b (Some x) (find p xs)) (sym hit) ∙ is) in (subst P one each.0, ap p (sym one) ∙ hit)
      | inr miss ↦ found_has p P xs y each.1 (ap (λ b. cond b (Some x) (find p xs)) (sym miss) ∙ is)
    ]
  where
    same : (x y : A) → Some x ≡ Some y → x ≡ y
    same x y e = cc

-- the challenge that a test finds is the one of its entry
by_entry : (p : Pending → Bool) (items : List Pending) (ch : Pending) → AreApart items → find p items ≡ Some ch → find (is_of_entry ch.entry) items ≡ Some ch
by_entry p [] ch apart is = cc
by_entry p (x ∷ xs) ch apart is =
    elim (tells (p x)) [
      | inl hit ↦ let one : x ≡ ch = same x ch (ap (λ b. cond b (Some x) (find p xs)) (sym hit) ∙ is) in ap (λ b. cond b (Some x) (find (is_of_entry ch.entry) xs)) (ap (λ (y : Pending). is_of_entry y.entry x) (sym one) ∙ own_entry x) ∙ ap Some one
      | inr miss ↦
          let below : find p xs ≡ Some ch = ap (λ b. cond b (Some x) (find p xs)) (sym miss) ∙ is in
          ap (λ b. cond b (Some x) (find (is_of_entry ch.entry) xs)) (other_entry x ch (found_has p (λ y. clash x y ≡ false) xs ch apart.0 below).0) ∙ by_entry p xs ch apart.1 below
    ]
  where
    same : (x y : Pending) → Some x ≡ Some y → x ≡ y
    same x y e = cc

-- the entry of the challenge that a test finds leads back to that challenge
looked_up : (p : Pending → Bool) (items : List Pending) → AreApart items → option_and_then (λ e. find (is_of_entry e) items) (option_map (λ (ch : Pending). ch.entry) (find p items)) ≡ find p items
looked_up p items apart = by (find p items) refl
  where
    by : (o : Option Pending) → find p items ≡ o → option_and_then (λ e. find (is_of_entry e) items) (option_map (λ (ch : Pending). ch.entry) o) ≡ o
    by None is = refl
    by (Some ch) is = by_entry p items ch apart is

-- where an index names the entry of what a test finds, the challenge of that entry is what the test finds
pub through : (p : Pending → Bool) (items : List Pending) (e : ℕ) → AreApart items → Some e ≡ option_map (λ (ch : Pending). ch.entry) (find p items) → find (is_of_entry e) items ≡ find p items
through p items e apart is = ap (option_and_then (λ n. find (is_of_entry n) items)) is ∙ looked_up p items apart

-- where an index names no entry for what a test finds, the test finds nothing
pub unnamed : (p : Pending → Bool) (items : List Pending) → None ≡ option_map (λ (ch : Pending). ch.entry) (find p items) → None ≡ find p items
unnamed p items is = by (find p items) is
  where
    by : (o : Option Pending) → None ≡ option_map (λ (ch : Pending). ch.entry) o → None ≡ o
    by None is = refl
    by (Some ch) is = cc

-- challenges that cannot be mistaken for one are not of its entry
not_of : (x : Pending) (ys : List Pending) → Each (λ y. clash x y ≡ false) ys → without x.entry ys ≡ ys
not_of x [] apart = refl
not_of x (y ∷ ys) apart = ap (λ b. cond (not b) (y ∷ without x.entry ys) (without x.entry ys)) (none _ _ _ _ apart.0).0 ∙ ap (λ zs. y ∷ zs) (not_of x ys apart.1)

-- where the first challenge is of an entry, taking the challenge of that entry out leaves the rest
pub first_out : (e : ℕ) (x : Pending) (xs : List Pending) → AreApart (x ∷ xs) → is_of_entry e x ≡ true → without e (x ∷ xs) ≡ xs
first_out e x xs apart here =
    ap (λ b. cond (not b) (x ∷ without e xs) (without e xs)) here
    ∙ ap (λ n. without n xs) ((Decides-eqb e x.entry).0 here)
    ∙ not_of x xs apart.0

-- a test that no element passes finds nothing
pub nothing : {A : Type 0} (p : A → Bool) (xs : List A) → Each (λ x. p x ≡ false) xs → find p xs ≡ None
nothing p [] each = refl
nothing p (x ∷ xs) each = ap (λ b. cond b (Some x) (find p xs)) each.0 ∙ nothing p xs each.1

-- a test that two challenges pass only if they can be mistaken for each other
abbrev pub TellsApart : (Pending → Bool) → Type 0
TellsApart p = (x y : Pending) → p x ≡ true → p y ≡ true → clash x y ≡ true

-- where one challenge passes such a test, those that cannot be mistaken for it fail
fail : (p : Pending → Bool) (x : Pending) → TellsApart p → p x ≡ true → (ys : List Pending) → Each (λ y. clash x y ≡ false) ys → Each (λ y. p y ≡ false) ys
fail p x joint hit [] apart = tt
fail p x joint hit (y ∷ ys) apart = (elim (tells (p y)) [ inl too ↦ absurd (true≢false (sym (joint x y hit too) ∙ apart.0)) | inr miss ↦ miss ], fail p x joint hit ys apart.1)

-- without the challenge that passes such a test, the test finds nothing
pub only : (p : Pending → Bool) (e : ℕ) (row : Pending) → TellsApart p → p row ≡ true → (items : List Pending) → AreApart items → find (is_of_entry e) items ≡ Some row → find p (without e items) ≡ None
only p e row joint hit [] apart is = cc
only p e row joint hit (x ∷ xs) apart is =
    elim (tells (is_of_entry e x)) [
      | inl here ↦
          let one : x ≡ row = same x row (ap (λ b. cond b (Some x) (find (is_of_entry e) xs)) (sym here) ∙ is) in
          ap (find p) (first_out e x xs apart here) ∙ nothing p xs (fail p x joint (ap p one ∙ hit) xs apart.0)
      | inr there ↦
          let below : find (is_of_entry e) xs ≡ Some row = ap (λ b. cond b (Some x) (find (is_of_entry e) xs)) (sym there) ∙ is in
          let misses : p x ≡ false = elim (tells (p x)) [ inl too ↦ absurd (true≢false (sym (joint x row too hit) ∙ (found_has (is_of_entry e) (λ y. clash x y ≡ false) xs row apart.0 below).0)) | inr miss ↦ miss ] in
          ap (λ b. find p (cond (not b) (x ∷ without e xs) (without e xs))) there
          ∙ ap (λ b. cond b (Some x) (find p (without e xs))) misses
          ∙ only p e row joint hit xs apart.1 below
    ]
  where
    same : (x y : Pending) → Some x ≡ Some y → x ≡ y
    same x y e = cc

-- without a challenge that fails a test, the test finds what it found
pub beside : (p : Pending → Bool) (e : ℕ) (row : Pending) → p row ≡ false → (items : List Pending) → AreApart items → find (is_of_entry e) items ≡ Some row → find p (without e items) ≡ find p items
beside p e row fails [] apart is = refl
beside p e row fails (x ∷ xs) apart is =
    elim (tells (is_of_entry e x)) [
      | inl here ↦
          let one : x ≡ row = same x row (ap (λ b. cond b (Some x) (find (is_of_entry e) xs)) (sym here) ∙ is) in
          ap (find p) (first_out e x xs apart here) ∙ ap (λ b. cond b (Some x) (find p xs)) (sym (ap p one ∙ fails))
      | inr there ↦
          let below : find (is_of_entry e) xs ≡ Some row = ap (λ b. cond b (Some x) (find (is_of_entry e) xs)) (sym there) ∙ is in
          ap (λ b. find p (cond (not b) (x ∷ without e xs) (without e xs))) there
          ∙ ap (λ o. cond (p x) (Some x) o) (beside p e row fails xs apart.1 below)
    ]
  where
    same : (x y : Pending) → Some x ≡ Some y → x ≡ y
    same x y e = cc

-- no challenge is of the entry of a fresh one
pub fresh_entry : (row : Pending) (items : List Pending) → IsFresh row items → find (is_of_entry row.entry) items ≡ None
fresh_entry row [] fresh = refl
fresh_entry row (x ∷ xs) fresh = ap (λ b. cond b (Some x) (find (is_of_entry row.entry) xs)) (other_entry x row fresh.0) ∙ fresh_entry row xs fresh.1

-- a test that a fresh challenge passes finds nothing before it is put in
pub fresh_for : (p : Pending → Bool) (row : Pending) → TellsApart p → p row ≡ true → (items : List Pending) → IsFresh row items → find p items ≡ None
fresh_for p row joint hit [] fresh = refl
fresh_for p row joint hit (x ∷ xs) fresh = elim (tells (p x)) [
  | inl too ↦ absurd (true≢false (sym (joint x row too hit) ∙ fresh.0))
  | inr miss ↦ ap (λ b. cond b (Some x) (find p xs)) miss ∙ fresh_for p row joint hit xs fresh.1
]

-- where no challenge is of an entry, taking the challenge of that entry out changes nothing
pub unfound : (e : ℕ) (items : List Pending) → None ≡ find (is_of_entry e) items → without e items ≡ items
unfound e [] is = refl
unfound e (x ∷ xs) is = elim (tells (is_of_entry e x)) [
  | inl hit ↦ absurd (never x (is ∙ ap (λ b. cond b (Some x) (find (is_of_entry e) xs)) hit))
  | inr miss ↦ ap (λ b. cond (not b) (x ∷ without e xs) (without e xs)) miss ∙ ap (λ zs. x ∷ zs) (unfound e xs (is ∙ ap (λ b. cond b (Some x) (find (is_of_entry e) xs)) miss))
]
  where
    never : (x : Pending) → None ≡ Some x → ⊥
    never x is = cc
