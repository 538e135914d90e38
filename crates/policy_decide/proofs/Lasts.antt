-- The last element that passes a test, and the rule of the greatest matching pair, one element more at the end.
use Rattle.std.proofs.Common.{◌≡◌, ℕ, ◌+◌, ◌<◌, Bool, true, false, List, [], ◌∷◌, ◌++◌, Option, Some, None, refl, ap, sym, ◌∙◌, length, take, get_or, arith, is_some, option_map}
use Rattle.std.specs.List.{enumerate_from, flat_map}
use Rattle.std.proofs.lemmas.List.{take_more, length-take-le, append-nil}
use Rattle.std.proofs.lemmas.Grind.{flat_map-append}
use Rattle.pk_types.specs.declared.values.Category.{Category}
use Rattle.authority_model.specs.declared.policy.Policy.{Policy}
use Rattle.authority_model.specs.declared.policy.RuleEntry.{RuleEntry}
use Rattle.authority_model.specs.Lists.{or_else, when, find_last}
use Rattle.authority_model.specs.Words.{Bytes}
use Rattle.authority_model.specs.declared.world.World.{World}
use Rattle.authority_model.specs.declared.world.User.{User as UserRow}
use Rattle.authority_model.specs.Rules.{greatest, last_at, matches_at, places_of_row}
use Rattle.policy_decide.specs.Walks.{last_of, group_places}

-- the first of a value and nothing is the value
pub or_else-none : {A : Type 0} (o : Option A) → or_else o None ≡ o
or_else-none None = refl
or_else-none (Some x) = refl

-- the first of three values
pub or_else-or_else : {A : Type 0} (a b c : Option A) → or_else (or_else a b) c ≡ or_else a (or_else b c)
or_else-or_else None b c = refl
or_else-or_else (Some x) b c = refl

-- the last of a list with one element more at its end
pub find_last-more : {A : Type 0} (test : A → Bool) (xs : List A) (y : A) → find_last test (xs ++ y ∷ []) ≡ or_else (when (test y) y) (find_last test xs)
find_last-more test [] y = sym (or_else-none (when (test y) y))
find_last-more test (x ∷ xs) y = ap (λ o. or_else o (when (test x) x)) (find_last-more test xs y) ∙ or_else-or_else (when (test y) y) (find_last test xs) (when (test x) x)

-- the places of a list with one element more at its end
pub enumerate_from-more : {A : Type 0} (n : ℕ) (xs : List A) (y : A) → enumerate_from n (xs ++ y ∷ []) ≡ enumerate_from n xs ++ (n + length xs, y) ∷ []
enumerate_from-more n [] y = let e : n ≡ n + 0 = omega arith in ap (λ k. (k, y) ∷ []) e
enumerate_from-more n (x ∷ xs) y = let e : n + 1 + length xs ≡ n + length (x ∷ xs) = omega arith in ap (λ ys. (n, x) ∷ ys) (enumerate_from-more (n + 1) xs y ∙ ap (λ k. enumerate_from (n + 1) xs ++ (k, y) ∷ []) e)

-- the last matching rule among the first `j`, where the `j`-th has the place `i`: that one, or else the last among the first `i`
pub last_of-take : (entries : List RuleEntry) (action : Bytes) (category : Category) (label : Bytes) (i j : ℕ) (entry : RuleEntry) (matches : Bool)
    → j ≡ i + 1 → i < length entries → entry ≡ get_or entries i entry → matches ≡ matches_at label action category entry
    → last_of (take j entries) action category label ≡ or_else (when matches (i, entry)) (last_of (take i entries) action category label)
last_of-take entries action category label i j entry matches next within is matched =
    let test : ℕ × RuleEntry → Bool = λ e. matches_at label action category e.1 in
    ap (λ k. last_of (take k entries) action category label) next
    ∙ ap (λ es. last_of es action category label) (take_more entries i entry within ∙ ap (λ e. take i entries ++ e ∷ []) (sym is))
    ∙ ap (find_last test) (enumerate_from-more 0 (take i entries) entry)
    ∙ ap (λ k. find_last test (enumerate_from 0 (take i entries) ++ (k, entry) ∷ [])) (let e : 0 + length (take i entries) ≡ i = omega (arith, length-take-le i entries (omega arith)) in e)
    ∙ find_last-more test (enumerate_from 0 (take i entries)) (i, entry)
    ∙ ap (λ b. or_else (when b (i, entry)) (last_of (take i entries) action category label)) (sym matched)

-- the rule that decides at two lists of places: at the second, or else at the first
pub greatest-append : (policy : Policy) (action : Bytes) (category : Category) (xs ys : List Bytes)
    → greatest policy action category (xs ++ ys) ≡ or_else (greatest policy action category ys) (greatest policy action category xs)
greatest-append policy action category [] ys = sym (or_else-none (greatest policy action category ys))
greatest-append policy action category (x ∷ xs) ys =
    ap (λ o. or_else o (last_at policy action category x)) (greatest-append policy action category xs ys)
    ∙ or_else-or_else (greatest policy action category ys) (greatest policy action category xs) (last_at policy action category x)

-- the rule that decides at the places of the first `j` groups, where the `j`-th has the place `i`: the one that decides there, or else at the first `i`
pub greatest-take : (policy : Policy) (world : World) (action : Bytes) (category : Category) (gids : List ℕ) (i j : ℕ) → j ≡ i + 1 → i < length gids
    → greatest policy action category (flat_map (group_places world) (take j gids))
    ≡ or_else (greatest policy action category (group_places world (get_or gids i 0))) (greatest policy action category (flat_map (group_places world) (take i gids)))
greatest-take policy world action category gids i j next within =
    let at : List ℕ → Option (ℕ × RuleEntry) = λ gs. greatest policy action category (flat_map (group_places world) gs) in
    ap (λ k. at (take k gids)) next
    ∙ ap at (take_more gids i 0 within)
    ∙ ap (greatest policy action category) (flat_map-append (group_places world) (take i gids) (get_or gids i 0 ∷ []))
    ∙ ap (λ ls. greatest policy action category (flat_map (group_places world) (take i gids) ++ ls)) (append-nil (group_places world (get_or gids i 0)))
    ∙ greatest-append policy action category (flat_map (group_places world) (take i gids)) (group_places world (get_or gids i 0))

-- nothing decides where nothing is found
pub or_else-of_none : {A B : Type 0} (f : B → A) (found : Option B) (a b : Option A) → is_some found ≡ false → option_map f found ≡ a → or_else a b ≡ b
or_else-of_none f None a b none is = ap (λ o. or_else o b) (sym is)
or_else-of_none f (Some x) a b none is = absurd (cc)

-- what is found decides
pub or_else-of_some : {A B : Type 0} (f : B → A) (found : Option B) (a b : Option A) → is_some found ≡ true → option_map f found ≡ a → or_else a b ≡ option_map f found
or_else-of_some f None a b some is = absurd (cc)
or_else-of_some f (Some x) a b some is = ap (λ o. or_else o b) (sym is)

-- the rule that decides at the places of a user: the last one that matches at its own, or else the one that decides at those of its groups
pub greatest-own : (policy : Policy) (world : World) (user : UserRow) (action : Bytes) (category : Category) (own others : Option (ℕ × RuleEntry))
    → own ≡ last_of policy.entries action category user.label → others ≡ greatest policy action category (flat_map (group_places world) user.gids)
    → or_else own others ≡ greatest policy action category (places_of_row world user)
greatest-own policy world user action category own others is after =
    ap (λ o. or_else o others) is
    ∙ ap (or_else (last_of policy.entries action category user.label)) after
    ∙ sym (greatest-append policy action category (flat_map (group_places world) user.gids) (user.label ∷ []))
