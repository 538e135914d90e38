-- The keys of rows in sets.
use Rattle.std.proofs.Common.{◌≡◌, ℕ, ◌==◌, ◌||◌, Bool, true, false, cond, List, [], ◌∷◌, ◌++◌, map, Bor, refl, ap, sym, ◌∙◌}
use Rattle.std.specs.Prelude.{bytes_eq}
use Rattle.std.specs.List.{list_any}
use Rattle.std.proofs.lemmas.List.{map-append}
use Rattle.std.proofs.lemmas.Slice.Eq.{bytes_eq-Decides}
use Rattle.std.proofs.lemmas.List.Folds.{list_any-append}
use Rattle.indexmap.specs.IndexSet.{insert_key}

abbrev pub now_of : Bor (List ℕ) → List ℕ
now_of name = name.now

abbrev pub same_number : ℕ → ℕ → Bool
same_number x y = x == y

abbrev pub same_name : Bor (List ℕ) → Bor (List ℕ) → Bool
same_name x y = bytes_eq x.now y.now

pub list_any-map : {A B : Type 0} (p : B → Bool) (f : A → B) (xs : List A) → list_any p (map f xs) ≡ list_any (λ x. p (f x)) xs
list_any-map p f [] = refl
list_any-map p f (x ∷ xs) = ap (λ r. p (f x) || r) (list_any-map p f xs)

pub both_false : (a b : Bool) → (a || b) ≡ false → (a ≡ false) × (b ≡ false)
both_false false false e = (refl, refl)
both_false false true e = absurd (cc)
both_false true b e = absurd (cc)

module _ {R : Type 0} (rows : List R) where
  -- a number stands among the keys where it stands among the rows
  pub number_stands : (f : R → ℕ) (keys : List ℕ) (k : ℕ) → keys ≡ map f rows → list_any (λ n. k == n) keys ≡ list_any (λ r. k == f r) rows
  number_stands f keys k e = ap (list_any (λ n. k == n)) e ∙ list_any-map (λ n. k == n) f rows

  -- a name stands among the keys where it stands among the rows
  pub name_stands : {K : Type 0} (bytes_of : K → List ℕ) (f : R → List ℕ) (keys : List K) (k : List ℕ) → map bytes_of keys ≡ map f rows
      → list_any (λ n. bytes_eq k (bytes_of n)) keys ≡ list_any (λ r. bytes_eq k (f r)) rows
  name_stands bytes_of f keys k e = sym (list_any-map (bytes_eq k) bytes_of keys) ∙ ap (list_any (bytes_eq k)) e ∙ list_any-map (bytes_eq k) f rows

  -- the key of one more row goes last
  pub number_pushed : (f : R → ℕ) (keys new : List ℕ) (row : R) (more : List R) → keys ≡ map f rows → list_any (λ r. f row == f r) rows ≡ false
      → new ≡ insert_key same_number keys (f row) → more ≡ rows ++ row ∷ [] → new ≡ map f more
  number_pushed f keys new row more e none put push =
      put
      ∙ ap (λ t. cond t keys (keys ++ f row ∷ [])) (number_stands f keys (f row) e ∙ none)
      ∙ ap (λ ks. ks ++ f row ∷ []) e
      ∙ sym (map-append f rows (row ∷ []))
      ∙ ap (map f) (sym push)

  pub name_pushed : {K : Type 0} (bytes_of : K → List ℕ) (f : R → List ℕ) (keys new : List K) (name : K) (row : R) (more : List R) → map bytes_of keys ≡ map f rows → f row ≡ bytes_of name
      → list_any (λ r. bytes_eq (bytes_of name) (f r)) rows ≡ false → new ≡ insert_key (λ x y. bytes_eq (bytes_of x) (bytes_of y)) keys name → more ≡ rows ++ row ∷ []
      → map bytes_of new ≡ map f more
  name_pushed bytes_of f keys new name row more e is none put push =
      ap (map bytes_of) (put ∙ ap (λ t. cond t keys (keys ++ name ∷ [])) (name_stands bytes_of f keys (bytes_of name) e ∙ none))
      ∙ map-append bytes_of keys (name ∷ [])
      ∙ ap (λ ks. ks ++ bytes_of name ∷ []) e
      ∙ ap (λ n. map f rows ++ n ∷ []) (sym is)
      ∙ sym (map-append f rows (row ∷ []))
      ∙ ap (map f) (sym push)

  -- a number that was found in the set, or else a name
  pub number_found : (f : R → ℕ) (g : R → List ℕ) (keys : List ℕ) (k : ℕ) (name : List ℕ) (found : Bool) → keys ≡ map f rows → found ≡ list_any (λ n. k == n) keys → found ≡ true
      → found ≡ (list_any (λ r. k == f r) rows || list_any (λ r. bytes_eq name (g r)) rows)
  number_found f g keys k name found e is found_is =
      found_is ∙ ap (λ t. t || list_any (λ r. bytes_eq name (g r)) rows) (sym (sym (is ∙ number_stands f keys k e) ∙ found_is))

  pub name_found : (f : R → ℕ) (g : R → List ℕ) (keys : List ℕ) (names : List (Bor (List ℕ))) (k : ℕ) (name : List ℕ) (other found : Bool)
      → keys ≡ map f rows → map now_of names ≡ map g rows → other ≡ list_any (λ n. k == n) keys → other ≡ false → found ≡ list_any (λ n. bytes_eq name n.now) names
      → found ≡ (list_any (λ r. k == f r) rows || list_any (λ r. bytes_eq name (g r)) rows)
  name_found f g keys names k name other found e es is apart found_is =
      found_is
      ∙ name_stands now_of g names name es
      ∙ ap (λ t. t || list_any (λ r. bytes_eq name (g r)) rows) (sym (sym (is ∙ number_stands f keys k e) ∙ apart))

  -- both keys of one more row go last
  pub both_pushed : (f : R → ℕ) (g : R → List ℕ) (keys new : List ℕ) (names more_names : List (Bor (List ℕ))) (name : Bor (List ℕ)) (row : R) (more : List R)
      → keys ≡ map f rows → map now_of names ≡ map g rows → g row ≡ name.now
      → (list_any (λ r. f row == f r) rows || list_any (λ r. bytes_eq name.now (g r)) rows) ≡ false
      → new ≡ insert_key same_number keys (f row) → more_names ≡ insert_key same_name names name → more ≡ rows ++ row ∷ []
      → (new ≡ map f more) × (map now_of more_names ≡ map g more)
  both_pushed f g keys new names more_names name row more e es is none put put_name push =
      let apart = both_false (list_any (λ r. f row == f r) rows) (list_any (λ r. bytes_eq name.now (g r)) rows) none in
      (number_pushed f keys new row more e apart.0 put push, name_pushed now_of g names more_names name row more es is apart.1 put_name push)

pub is_same : (a b : List ℕ) → bytes_eq a b ≡ true → a ≡ b
is_same a b e = (bytes_eq-Decides a b).0 e

pub bytes_eq-same : (a : List ℕ) → bytes_eq a a ≡ true
bytes_eq-same a = (bytes_eq-Decides a a).1 refl

pub bytes_eq-sym : (a b : List ℕ) → bytes_eq a b ≡ bytes_eq b a
bytes_eq-sym a b = of (bytes_eq a b) (bytes_eq b a) refl refl
  where
    of : (s t : Bool) → bytes_eq a b ≡ s → bytes_eq b a ≡ t → s ≡ t
    of true true e f = refl
    of false false e f = refl
    of true false e f = sym ((bytes_eq-Decides b a).1 (sym (is_same a b e))) ∙ f
    of false true e f = sym e ∙ (bytes_eq-Decides a b).1 (sym (is_same b a f))

-- a set with one more name
pub has-insert : (keys : List (Bor (List ℕ))) (k : Bor (List ℕ)) (name : List ℕ)
    → list_any (λ n. bytes_eq name n.now) (insert_key same_name keys k) ≡ (list_any (λ n. bytes_eq name n.now) keys || bytes_eq name k.now)
has-insert keys k name = of (list_any (same_name k) keys) refl
  where
    there : (b : Bool) → bytes_eq name k.now ≡ b → list_any (same_name k) keys ≡ true → list_any (λ n. bytes_eq name n.now) keys ≡ (list_any (λ n. bytes_eq name n.now) keys || b)
    there true e has = let all : list_any (λ n. bytes_eq name n.now) keys ≡ true = ap (λ x. list_any (λ n. bytes_eq x n.now) keys) (is_same name k.now e) ∙ has in all ∙ sym (ap (λ t. t || true) all)
    there false e has = or_false (list_any (λ n. bytes_eq name n.now) keys)
      where
        or_false : (t : Bool) → t ≡ (t || false)
        or_false true = refl
        or_false false = refl

    of : (t : Bool) → list_any (same_name k) keys ≡ t
        → list_any (λ n. bytes_eq name n.now) (cond t keys (keys ++ k ∷ [])) ≡ (list_any (λ n. bytes_eq name n.now) keys || bytes_eq name k.now)
    of true has = there (bytes_eq name k.now) refl has
    of false has = list_any-append (λ n. bytes_eq name n.now) keys (k ∷ []) ∙ ap (λ t. list_any (λ n. bytes_eq name n.now) keys || t) (or_none (bytes_eq name k.now))
      where
        or_none : (t : Bool) → (t || false) ≡ t
        or_none true = refl
        or_none false = refl
