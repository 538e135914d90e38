-- What an index finds and keeps whose rows stand under keys of their own.
use Rattle.std.proofs.Common.{◌≡◌, ℕ, ◌==◌, nat_eq, Bool, true, false, cond, List, [], ◌∷◌, ◌++◌, Some, None, refl, sym, ap, ◌∙◌}
use Rattle.std.specs.Prelude.{find, filter}
use Rattle.std.specs.Map.{lookup, values_of}
use Rattle.authority_model.specs.Lists.{Each}
use Rattle.authority_model.proofs.Cases.{Each-append}
use Rattle.authority_model.specs.declared.key.Key.{Key}
use Rattle.authority_model.specs.Keys.{same_key}
use Rattle.key_index.specs.declared.keys.KeyOf.{KeyOf}
use Rattle.key_index.specs.contracts.keys.KeyOfPartialEq.TheImpl as derived
use Rattle.key_index.specs.Held.{key_held}
use Rattle.key_index.specs.Keyed.{AreKeyed}
use Rattle.key_index.proofs.Comparing.{held_same, turned}

-- a look-up by the keys finds what a search of the rows finds
pub looked_up : {K V A : Type 0} (held : K → A) (own : V → A) (look : K → Bool) (test : V → Bool) → ((k : K) (v : V) → held k ≡ own v → look k ≡ test v)
    → (rows : List (K × V)) → AreKeyed held own rows → lookup look rows ≡ find test (values_of rows)
looked_up held own look test one [] keyed = refl
looked_up held own look test one (e ∷ rows) keyed =
    ap (λ b. cond b (Some e.1) (lookup look rows)) (one e.0 e.1 keyed.0) ∙ ap (cond (test e.1) (Some e.1)) (looked_up held own look test one rows keyed.1)

-- a fact of each element is one of those that stay
pub Each-filter : {A : Type 0} (P : A → Type 0) (test : A → Bool) (xs : List A) → Each P xs → Each P (filter test xs)
Each-filter P test [] all = tt
Each-filter {A} P test (x ∷ xs) all = go (test x) (Each-filter P test xs all.1)
  where
    go : (b : Bool) → Each P (filter test xs) → Each P (cond b (x ∷ filter test xs) (filter test xs))
    go true rest = (all.0, rest)
    go false rest = rest

-- the rows that stay are those that pass
pub values_filter : {K V : Type 0} (test : V → Bool) (rows : List (K × V)) → values_of (filter (λ e. test e.1) rows) ≡ filter test (values_of rows)
values_filter test [] = refl
values_filter {K} {V} test (e ∷ rows) = go (test e.1) (values_filter test rows)
  where
    go : (b : Bool) → values_of (filter (λ e. test e.1) rows) ≡ filter test (values_of rows) → values_of (cond b (e ∷ filter (λ e. test e.1) rows) (filter (λ e. test e.1) rows)) ≡ cond b (e.1 ∷ filter test (values_of rows)) (filter test (values_of rows))
    go true rest = ap (λ xs. e.1 ∷ xs) rest
    go false rest = rest

-- one more row under its own key
pub keyed_push : {K V A : Type 0} (held : K → A) (own : V → A) (rows : List (K × V)) (k : K) (v : V) → AreKeyed held own rows → held k ≡ own v → AreKeyed held own (rows ++ (k, v) ∷ [])
keyed_push held own rows k v keyed is = Each-append (λ e. held e.0 ≡ own e.1) rows ((k, v) ∷ []) keyed (is, tt)

-- what is found nowhere is not found among those that stay
pub find_filter_none : {A : Type 0} (test stays : A → Bool) (xs : List A) → find test xs ≡ None → find test (filter stays xs) ≡ None
find_filter_none test stays [] none = refl
find_filter_none {A} test stays (x ∷ xs) none = go (test x) (stays x) refl none (find_filter_none test stays xs)
  where
    go : (b s : Bool) → test x ≡ b → cond b (Some x) (find test xs) ≡ None → (find test xs ≡ None → find test (filter stays xs) ≡ None) → find test (cond s (x ∷ filter stays xs) (filter stays xs)) ≡ None
    go true s is none rest = absurd (cc)
    go false true is none rest = ap (λ b. cond b (Some x) (find test (filter stays xs))) is ∙ rest none
    go false false is none rest = rest none

-- all stay where each passes
pub filter_all : {A : Type 0} (stays : A → Bool) → ((x : A) → stays x ≡ true) → (xs : List A) → xs ≡ filter stays xs
filter_all stays all [] = refl
filter_all stays all (x ∷ xs) = ap (λ ys. x ∷ ys) (filter_all stays all xs) ∙ ap (λ b. cond b (x ∷ filter stays xs) (filter stays xs)) (sym (all x))

-- a look-up by a subject's key finds the first row that has this key
pub found_by : {V : Type 0} (own : V → Key) (q : KeyOf) (key : Key) → key_held q ≡ key → (rows : List (KeyOf × V)) → AreKeyed key_held own rows → lookup (derived.ghosts.eq q) rows ≡ find (λ v. same_key (own v) key) (values_of rows)
found_by own q key is rows keyed = looked_up key_held own (derived.ghosts.eq q) (λ v. same_key (own v) key) (λ k v e. held_same q k ∙ ap (λ x. same_key x (key_held q)) e ∙ ap (same_key (own v)) is) rows keyed

-- a look-up by a number finds the first row that has this number
pub found_numbered : {V : Type 0} (own : V → ℕ) (n : ℕ) (rows : List (ℕ × V)) → AreKeyed (λ k. k) own rows → lookup (nat_eq n) rows ≡ find (λ v. own v == n) (values_of rows)
found_numbered own n rows keyed = looked_up (λ k. k) own (nat_eq n) (λ v. own v == n) (λ k v e. turned n k ∙ ap (λ m. m == n) e) rows keyed
