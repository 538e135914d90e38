-- The least action that implies another, by one walk over the actions.
use Rattle.std.proofs.Common.{◌≡◌, ℕ, ◌+◌, ◌<◌, length, take, get_or, Bool, true, false, ◌&&◌, List, [], ◌∷◌, ◌++◌, Option, Some, None, refl, ap, sym, ◌∙◌, inl, inr, subst}
use Rattle.std.specs.Prelude.{if◌then◌else◌, map, filter, find, bytes_eq}
use Rattle.std.specs.Option.{option_map_or}
use Rattle.std.proofs.lemmas.Bool.{and_from}
use Rattle.std.proofs.lemmas.List.{append-nil, take_more}
use Rattle.std.proofs.lemmas.Slice.Eq.{bytes_eq-Decides}
use Rattle.authority_model.specs.declared.policy.Action.{Action}
use Rattle.authority_model.specs.declared.journal.Item.{Item}
use Rattle.authority_model.specs.declared.verdict.GrantRow.{GrantRow}
use Rattle.authority_model.specs.Lists.{Has}
use Rattle.authority_model.specs.Facts.{Facts}
use Rattle.authority_model.specs.Items.{policy_of}
use Rattle.authority_model.specs.Rules.{annotates}
use Rattle.authority_model.specs.Deciding.{imply_key, own, implying}
use Rattle.authority_model.specs.Words.{Bytes, least_text}
use Rattle.authority_model.proofs.Cases.{both, find_has, filter_has, map_has}
use Rattle.view_decision.specs.Implying.{counted, lesser}
use Rattle.view_decision.proofs.Least.{least_text-alike, least_text-push}

-- what passes is in the filtered list, and its image in the mapped one
has_filter : {A : Type 0} (test : A → Bool) (xs : List A) (y : A) → Has xs y → test y ≡ true → Has (filter test xs) y
has_filter test [] y h passes = absurd h
has_filter {A} test (x ∷ xs) y h passes = by (test x) refl h (has_filter test xs y)
  where
    by : (b : Bool) → test x ≡ b → Has (x ∷ xs) y → (Has xs y → test y ≡ true → Has (filter test xs) y) → Has (if b then (x ∷ filter test xs) else filter test xs) y
    by true is (inl same) ih = inl same
    by true is (inr h) ih = inr (ih h passes)
    by false is (inl same) ih = let passed : test x ≡ true = ap test same ∙ passes in absurd (cc)
    by false is (inr h) ih = ih h passes

has_map : {A B : Type 0} (f : A → B) (xs : List A) (y : A) → Has xs y → Has (map f xs) (f y)
has_map f [] y h = absurd h
has_map f (x ∷ xs) y (inl same) = inl (ap f same)
has_map f (x ∷ xs) y (inr h) = inr (has_map f xs y h)

-- a test on an option that passes
map_or_passes : {A : Type 0} (test : A → Bool) (o : Option A) → option_map_or test o false ≡ true → (x : A) × (o ≡ Some x) × (test x ≡ true)
map_or_passes test None e = absurd (cc)
map_or_passes test (Some x) e = (x, refl, e)

-- whether the first action of an id passes
abbrev pub first_passes : (Action → Bool) → List Action → Bytes → Bool
first_passes lists xs b = option_map_or lists (find (λ a. bytes_eq a.id b) xs) false

-- whether an action passes, and so does the first of its id, and its id
abbrev pub all_pass : (Action → Bool) → (Bytes → Bool) → (Bytes → Bool) → Action → Bool
all_pass lists implies own x = lists x && (implies x.id && own x.id)

-- an action that lists another counts where the first of its id does, so no other action is looked at
pub least_text-first : (lists : Action → Bool) (own : Bytes → Bool) (xs : List Action)
    → least_text (map (λ x. x.id) (filter (all_pass lists (first_passes lists xs) own) xs)) ≡ least_text (filter (λ b. first_passes lists xs b && own b) (map (λ x. x.id) xs))
least_text-first lists own xs = least_text-alike (map (λ x. x.id) (filter (all_pass lists (first_passes lists xs) own) xs)) (filter (λ b. first_passes lists xs b && own b) (map (λ x. x.id) xs)) to back
  where
    to : (b : Bytes) → Has (map (λ x. x.id) (filter (all_pass lists (first_passes lists xs) own) xs)) b → Has (filter (λ b. first_passes lists xs b && own b) (map (λ x. x.id) xs)) b
    to b h =
        let found = map_has (λ x. x.id) (filter (all_pass lists (first_passes lists xs) own) xs) b h in
        let passed = filter_has (all_pass lists (first_passes lists xs) own) xs found.0 found.1 in
        let same : found.0.id ≡ b = found.2 in
        let rest = both (lists found.0) (first_passes lists xs found.0.id && own found.0.id) passed.1 in
        subst (λ b. Has (filter (λ b. first_passes lists xs b && own b) (map (λ x. x.id) xs)) b) same
        (has_filter (λ b. first_passes lists xs b && own b) (map (λ x. x.id) xs) found.0.id (has_map (λ x. x.id) xs found.0 passed.0) rest.1)

    back : (b : Bytes) → Has (filter (λ b. first_passes lists xs b && own b) (map (λ x. x.id) xs)) b → Has (map (λ x. x.id) (filter (all_pass lists (first_passes lists xs) own) xs)) b
    back b h =
        let passed = filter_has (λ b. first_passes lists xs b && own b) (map (λ x. x.id) xs) b h in
        let first = map_or_passes lists (find (λ a. bytes_eq a.id b) xs) (both (first_passes lists xs b) (own b) passed.1).0 in
        let found = find_has (λ a. bytes_eq a.id b) xs first.0 first.1 in
        let same : first.0.id ≡ b = (bytes_eq-Decides first.0.id b).0 found.1 in
        let all : all_pass lists (first_passes lists xs) own first.0 ≡ true = and_from (lists first.0) (first_passes lists xs first.0.id && own first.0.id) first.2 (ap (λ b. first_passes lists xs b && own b) same ∙ passed.1) in
        subst (λ b. Has (map (λ x. x.id) (filter (all_pass lists (first_passes lists xs) own) xs)) b) same
        (has_map (λ x. x.id) (filter (all_pass lists (first_passes lists xs) own) xs) first.0 (has_filter (all_pass lists (first_passes lists xs) own) xs first.0 found.0 all))

-- the ids of the actions that pass, with one more action
ids-push : (test : Action → Bool) (xs : List Action) (x : Action) → map (λ x. x.id) (filter test (xs ++ x ∷ [])) ≡ map (λ x. x.id) (filter test xs) ++ (if test x then (x.id ∷ []) else [])
ids-push test [] x = by (test x)
  where
    by : (b : Bool) → map (λ x. x.id) (if b then (x ∷ []) else []) ≡ (if b then (x.id ∷ []) else [])
    by true = refl
    by false = refl
ids-push test (y ∷ ys) x = by (test y) (ids-push test ys x)
  where
    by : (b : Bool) → map (λ x. x.id) (filter test (ys ++ x ∷ [])) ≡ map (λ x. x.id) (filter test ys) ++ (if test x then (x.id ∷ []) else [])
        → map (λ x. x.id) (if b then (y ∷ filter test (ys ++ x ∷ [])) else filter test (ys ++ x ∷ [])) ≡ map (λ x. x.id) (if b then (y ∷ filter test ys) else filter test ys) ++ (if test x then (x.id ∷ []) else [])
    by true ih = ap (λ ids. y.id ∷ ids) ih
    by false ih = ih

-- the least id of those that pass, with one more action
pub least_more : (test : Action → Bool) (xs : List Action) (x : Action)
    → least_text (map (λ x. x.id) (filter test (xs ++ x ∷ []))) ≡ (if test x then Some (lesser x.id (least_text (map (λ x. x.id) (filter test xs)))) else least_text (map (λ x. x.id) (filter test xs)))
least_more test xs x = ap least_text (ids-push test xs x) ∙ by (test x)
  where
    by : (b : Bool) → least_text (map (λ x. x.id) (filter test xs) ++ (if b then (x.id ∷ []) else [])) ≡ (if b then Some (lesser x.id (least_text (map (λ x. x.id) (filter test xs)))) else least_text (map (λ x. x.id) (filter test xs)))
    by true = least_text-push (map (λ x. x.id) (filter test xs)) x.id
    by false = ap least_text (append-nil (map (λ x. x.id) (filter test xs)))

-- the walk finds the least action that implies another
pub least_found : (past : List Item) (grants : List GrantRow) (f : Facts) (t : ℕ) (a : Bytes)
    → least_text (map (λ x. x.id) (filter (counted past grants f t a) (policy_of past).actions)) ≡ least_text (implying past grants f t a)
least_found past grants f t a = least_text-first (λ x. annotates x imply_key a) (own past grants f t) (policy_of past).actions

-- the least id of those that pass, one place further on
pub least_walked : (test : Action → Bool) (xs : List Action) (i : ℕ) (x : Action) (old new : Option Bytes) → i < length xs → x ≡ get_or xs i x
    → old ≡ least_text (map (λ x. x.id) (filter test (take i xs)))
    → new ≡ (if test x then Some (lesser x.id old) else old)
    → new ≡ least_text (map (λ x. x.id) (filter test (take (i + 1) xs)))
least_walked test xs i x old new within at before after =
    after
    ∙ ap (λ o. if test x then Some (lesser x.id o) else o) before
    ∙ sym (least_more test (take i xs) x)
    ∙ ap (λ y. least_text (map (λ x. x.id) (filter test (take i xs ++ y ∷ [])))) at
    ∙ ap (λ ys. least_text (map (λ x. x.id) (filter test ys))) (sym (take_more xs i x within))

-- the least id where an action passes, and where it doesn't
pub least_taken : (test : Action → Bool) (x : Action) (old new : Option Bytes) (id : Bytes) → test x ≡ true → id ≡ x.id
    → new ≡ Some (lesser id old)
    → new ≡ (if test x then Some (lesser x.id old) else old)
least_taken test x old new id passes named after =
    after ∙ ap (λ id. Some (lesser id old)) named
    ∙ ap (λ b. if b then Some (lesser x.id old) else old) (sym passes)

pub least_kept : (test : Action → Bool) (x : Action) (old new : Option Bytes) → test x ≡ false → new ≡ old
    → new ≡ (if test x then Some (lesser x.id old) else old)
least_kept test x old new fails same = same ∙ ap (λ b. if b then Some (lesser x.id old) else old) (sym fails)
