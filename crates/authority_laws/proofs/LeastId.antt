-- The action that implies another has the least id of those that may.
use Rattle.std.proofs.Common.{◌≡◌, ℕ, ◌<◌, Bool, true, false, ◌&&◌, ◌||◌, List, [], ◌∷◌, refl, ap, sym, ◌∙◌, inl, inr, Option, Some, None, ◌⊎◌, subst, arith, cond}
use Rattle.std.proofs.lemmas.Bool.Decides.{Decides-eqb, Decides-ltb}
use Rattle.std.proofs.lemmas.Slice.Eq.{bytes_eq-Decides}
use borrow.Author.Tests.{ltb-false}
use Rattle.std.specs.Prelude.{◌==◌, if◌then◌else◌, nat_lt, bytes_eq, filter, find, map}
use Rattle.std.specs.Option.{option_map_or}
use Rattle.std.specs.Ordering.{nat_cmp, ordering_then}
use Rattle.std.specs.Cmp.Lexicographic.{slice_cmp}
use Rattle.std.specs.declared.cmp.Ordering.{Ordering}
use Rattle.std.specs.declared.cmp.Ordering.TheVariants.{Less, Equal, Greater}
use Rattle.pk_types.specs.declared.values.Implicit.{Implicit}
use Rattle.authority_model.specs.declared.journal.Item.{Item}
use Rattle.authority_model.specs.declared.policy.Action.{Action}
use Rattle.authority_model.specs.declared.verdict.GrantRow.{GrantRow}
use Rattle.authority_model.specs.declared.verdict.RuleSource.{RuleSource}
use Rattle.authority_model.specs.Lists.{Has}
use Rattle.authority_model.specs.Words.{Bytes, comes_before, least_text}
use Rattle.authority_model.specs.Values.{is_auth, is_yes}
use Rattle.authority_model.specs.Facts.{Facts}
use Rattle.authority_model.specs.Rules.{action_of, annotates}
use Rattle.authority_model.specs.Items.{policy_of}
use Rattle.authority_model.specs.Deciding.{Decision, serves, own, imply_key, implies, implying, by_imply, by_grant, decided}
use Rattle.authority_model.proofs.Cases.{both, find_has, filter_has}
use Rattle.authority_laws.specs.Least.{MayImply, IsLeastImplying, IsImplied}

-- the order of bytes is the one in which Rust compares slices of them
step : (b e : Bool) (c : Bool) (o : Ordering) → ((c ≡ true) → o ≡ Less) → ((b || (e && c)) ≡ true) → ordering_then (cond b Less (cond e Equal Greater)) o ≡ Less
step true e c o ih t = refl
step false true c o ih t = ih t
step false false c o ih t = absurd (cc)

back : (b e : Bool) (c : Bool) (o : Ordering) → (o ≡ Less → c ≡ true) → ordering_then (cond b Less (cond e Equal Greater)) o ≡ Less → (b || (e && c)) ≡ true
back true e c o ih t = refl
back false true c o ih t = ih t
back false false c o ih t = absurd (cc)

pub before_less : (a b : Bytes) → comes_before a b ≡ true → slice_cmp nat_cmp a b ≡ Less
before_less [] [] e = absurd (cc)
before_less [] (y ∷ ys) e = refl
before_less (x ∷ xs) [] e = absurd (cc)
before_less (x ∷ xs) (y ∷ ys) e = step (nat_lt x y) (x == y) (comes_before xs ys) (slice_cmp nat_cmp xs ys) (before_less xs ys) e

pub less_before : (a b : Bytes) → slice_cmp nat_cmp a b ≡ Less → comes_before a b ≡ true
less_before [] [] e = absurd (cc)
less_before [] (y ∷ ys) e = refl
less_before (x ∷ xs) [] e = absurd (cc)
less_before (x ∷ xs) (y ∷ ys) e = back (nat_lt x y) (x == y) (comes_before xs ys) (slice_cmp nat_cmp xs ys) (less_before xs ys) e

-- the order of bytes, by the first byte
parts : (x y : ℕ) (xs ys : Bytes) → comes_before (x ∷ xs) (y ∷ ys) ≡ true → (x < y) ⊎ ((x ≡ y) × (comes_before xs ys ≡ true))
parts x y xs ys e = of (nat_lt x y) refl e
  where
    of : (b : Bool) → nat_lt x y ≡ b → (b || ((x == y) && comes_before xs ys)) ≡ true → (x < y) ⊎ ((x ≡ y) × (comes_before xs ys ≡ true))
    of true is e = inl ((Decides-ltb x y).0 is)
    of false is e = let p = both (x == y) (comes_before xs ys) e in inr ((Decides-eqb x y).0 p.0, p.1)

less_first : (x y : ℕ) (xs ys : Bytes) → x < y → comes_before (x ∷ xs) (y ∷ ys) ≡ true
less_first x y xs ys lt = ap (λ b. b || ((x == y) && comes_before xs ys)) ((Decides-ltb x y).1 lt)

same_first : (x : ℕ) (xs ys : Bytes) → comes_before xs ys ≡ true → comes_before (x ∷ xs) (x ∷ ys) ≡ true
same_first x xs ys e = of (nat_lt x x) (x == x) ((Decides-eqb x x).1 refl) (comes_before xs ys) e
  where
    of : (b e : Bool) → e ≡ true → (c : Bool) → c ≡ true → (b || (e && c)) ≡ true
    of true e is c t = refl
    of false true is c t = t
    of false false is c t = absurd (cc)

-- the order is a total one
transitive : (a b c : Bytes) → comes_before a b ≡ true → comes_before b c ≡ true → comes_before a c ≡ true
transitive a [] [] e f = absurd (cc)
transitive [] [] (z ∷ zs) e f = absurd (cc)
transitive (x ∷ xs) [] (z ∷ zs) e f = absurd (cc)
transitive a (y ∷ ys) [] e f = absurd (cc)
transitive [] (y ∷ ys) (z ∷ zs) e f = refl
transitive (x ∷ xs) (y ∷ ys) (z ∷ zs) e f = of (parts x y xs ys e) (parts y z ys zs f) (transitive xs ys zs)
  where
    of : (x < y) ⊎ ((x ≡ y) × (comes_before xs ys ≡ true)) → (y < z) ⊎ ((y ≡ z) × (comes_before ys zs ≡ true)) → (comes_before xs ys ≡ true → comes_before ys zs ≡ true → comes_before xs zs ≡ true) → comes_before (x ∷ xs) (z ∷ zs) ≡ true
    of (inl lt) (inl gt) ih = less_first x z xs zs (omega arith)
    of (inl lt) (inr p) ih = less_first x z xs zs (omega (arith, p.0))
    of (inr p) (inl gt) ih = less_first x z xs zs (omega (arith, p.0))
    of (inr p) (inr q) ih = subst (λ w. comes_before (x ∷ xs) (w ∷ zs) ≡ true) (p.0 ∙ q.0) (same_first x xs zs (ih p.1 q.1))

irreflexive : (a : Bytes) → comes_before a a ≡ true → ⊥
irreflexive [] e = absurd (cc)
irreflexive (x ∷ xs) e = of (parts x x xs xs e) (irreflexive xs)
  where
    of : (x < x) ⊎ ((x ≡ x) × (comes_before xs xs ≡ true)) → (comes_before xs xs ≡ true → ⊥) → ⊥
    of (inl lt) ih = absurd (omega arith)
    of (inr p) ih = ih p.1

compared : (a b : Bytes) → (a ≡ b) ⊎ ((comes_before a b ≡ true) ⊎ (comes_before b a ≡ true))
compared [] [] = inl refl
compared [] (y ∷ ys) = inr (inl refl)
compared (x ∷ xs) [] = inr (inr refl)
compared (x ∷ xs) (y ∷ ys) = of (nat_lt x y) refl (nat_lt y x) refl (compared xs ys)
  where
    of : (b : Bool) → nat_lt x y ≡ b → (d : Bool) → nat_lt y x ≡ d → (xs ≡ ys) ⊎ ((comes_before xs ys ≡ true) ⊎ (comes_before ys xs ≡ true)) → ((x ∷ xs) ≡ (y ∷ ys)) ⊎ ((comes_before (x ∷ xs) (y ∷ ys) ≡ true) ⊎ (comes_before (y ∷ ys) (x ∷ xs) ≡ true))
    of true b d e ih = inr (inl (less_first x y xs ys ((Decides-ltb x y).0 b)))
    of false b true d ih = inr (inr (less_first y x ys xs ((Decides-ltb y x).0 d)))
    of false b false d ih = level ih
      where
        equal : x ≡ y
        equal = of' (x == y) refl
          where
            of' : (e : Bool) → (x == y) ≡ e → x ≡ y
            of' true is = (Decides-eqb x y).0 is
            of' false is = omega (arith, ltb-false x y b, ltb-false y x d)

        level : (xs ≡ ys) ⊎ ((comes_before xs ys ≡ true) ⊎ (comes_before ys xs ≡ true)) → ((x ∷ xs) ≡ (y ∷ ys)) ⊎ ((comes_before (x ∷ xs) (y ∷ ys) ≡ true) ⊎ (comes_before (y ∷ ys) (x ∷ xs) ≡ true))
        level (inl same) = inl (ap (λ n. n ∷ xs) equal ∙ ap (λ l. y ∷ l) same)
        level (inr (inl lt)) = inr (inl (subst (λ w. comes_before (x ∷ xs) (w ∷ ys) ≡ true) equal (same_first x xs ys lt)))
        level (inr (inr gt)) = inr (inr (subst (λ w. comes_before (y ∷ ys) (w ∷ xs) ≡ true) (sym equal) (same_first y ys xs gt)))

-- nothing is least where there is nothing
none_there : (xs : List Bytes) → least_text xs ≡ None → (c : Bytes) → Has xs c → ⊥
none_there [] e c h = h
none_there (x ∷ xs) e c h = absurd (cc)

-- the least text is in the list, and comes before each other text in it
least_some : (xs : List Bytes) (b : Bytes) → least_text xs ≡ Some b → Has xs b × ((c : Bytes) → Has xs c → (b ≡ c) ⊎ (comes_before b c ≡ true))
least_some [] b e = absurd (cc)
least_some (x ∷ xs) b e = go (least_text xs) refl (least_some xs) e
  where
    go : (o : Option Bytes) → least_text xs ≡ o → ((b : Bytes) → least_text xs ≡ Some b → Has xs b × ((c : Bytes) → Has xs c → (b ≡ c) ⊎ (comes_before b c ≡ true)))
        → Some (option_map_or (λ y. if comes_before y x then y else x) o x) ≡ Some b → Has (x ∷ xs) b × ((c : Bytes) → Has (x ∷ xs) c → (b ≡ c) ⊎ (comes_before b c ≡ true))
    go None is ih e =
        let same : x ≡ b = cc in
        (inl same, at same)
      where
        at : x ≡ b → (c : Bytes) → Has (x ∷ xs) c → (b ≡ c) ⊎ (comes_before b c ≡ true)
        at same c (inl here) = inl (sym same ∙ here)
        at same c (inr h) = absurd (none_there xs is c h)
    go (Some y) is ih e = of (comes_before y x) refl (ih y is) e
      where
        of : (t : Bool) → comes_before y x ≡ t → Has xs y × ((c : Bytes) → Has xs c → (y ≡ c) ⊎ (comes_before y c ≡ true)) → Some (if t then y else x) ≡ Some b → Has (x ∷ xs) b × ((c : Bytes) → Has (x ∷ xs) c → (b ≡ c) ⊎ (comes_before b c ≡ true))
        of true t rest e =
            let same : y ≡ b = cc in
            (inr (subst (Has xs) same rest.0), at same)
          where
            at : y ≡ b → (c : Bytes) → Has (x ∷ xs) c → (b ≡ c) ⊎ (comes_before b c ≡ true)
            at same c (inl here) = inr (subst (λ w. comes_before w c ≡ true) same (subst (λ w. comes_before y w ≡ true) here t))
            at same c (inr h) = subst (λ w. (w ≡ c) ⊎ (comes_before w c ≡ true)) same (rest.1 c h)
        of false t rest e =
            let same : x ≡ b = cc in
            (inl same, at same (compared x y))
          where
            next : (c : Bytes) → (x ≡ y) ⊎ ((comes_before x y ≡ true) ⊎ (comes_before y x ≡ true)) → (y ≡ c) ⊎ (comes_before y c ≡ true) → (x ≡ c) ⊎ (comes_before x c ≡ true)
            next c (inl e) (inl f) = inl (e ∙ f)
            next c (inl e) (inr f) = inr (subst (λ w. comes_before w c ≡ true) (sym e) f)
            next c (inr (inl e)) (inl f) = inr (subst (λ w. comes_before x w ≡ true) f e)
            next c (inr (inl e)) (inr f) = inr (transitive x y c e f)
            next c (inr (inr e)) f = absurd (cc (e, t))

            at : x ≡ b → (x ≡ y) ⊎ ((comes_before x y ≡ true) ⊎ (comes_before y x ≡ true)) → (c : Bytes) → Has (x ∷ xs) c → (b ≡ c) ⊎ (comes_before b c ≡ true)
            at same cmp c (inl here) = inl (sym same ∙ here)
            at same cmp c (inr h) = subst (λ w. (w ≡ c) ⊎ (comes_before w c ≡ true)) same (next c cmp (rest.1 c h))

-- and such a text is what is least
least_is : (xs : List Bytes) (b : Bytes) → Has xs b → ((c : Bytes) → Has xs c → (b ≡ c) ⊎ (comes_before b c ≡ true)) → least_text xs ≡ Some b
least_is xs b h least = of (least_text xs) refl
  where
    of : (o : Option Bytes) → least_text xs ≡ o → o ≡ Some b
    of None is = absurd (none_there xs is b h)
    of (Some y) is = let found = least_some xs y is in same (found.1 b h) (least y found.0)
      where
        same : (y ≡ b) ⊎ (comes_before y b ≡ true) → (b ≡ y) ⊎ (comes_before b y ≡ true) → Some y ≡ Some b
        same (inl e) f = ap Some e
        same (inr lt) (inl e) = ap Some (sym e)
        same (inr lt) (inr gt) = absurd (irreflexive y (transitive y b y lt gt))

-- what is in a list and passes stays after a filter
has_filter : {A : Type 0} (test : A → Bool) (xs : List A) (y : A) → Has xs y → test y ≡ true → Has (filter test xs) y
has_filter test [] y h t = absurd h
has_filter {A} test (x ∷ xs) y h t = of (test x) refl h (λ h. has_filter test xs y h t)
  where
    of : (b : Bool) → test x ≡ b → (x ≡ y) ⊎ Has xs y → (Has xs y → Has (filter test xs) y) → Has (if b then (x ∷ filter test xs) else filter test xs) y
    of true is (inl same) ih = inl same
    of true is (inr h) ih = inr (ih h)
    of false is (inl same) ih = let passes : test x ≡ true = ap test same ∙ t in absurd (cc (is, passes))
    of false is (inr h) ih = ih h

has_map : {A B : Type 0} (f : A → B) (xs : List A) (x : A) → Has xs x → Has (map f xs) (f x)
has_map f [] x h = absurd h
has_map f (y ∷ ys) x (inl same) = inl (ap f same)
has_map f (y ∷ ys) x (inr h) = inr (has_map f ys x h)

-- an action that may imply another is one of the policy's
may_listed : (past : List Item) (grants : List GrantRow) (f : Facts) (t : ℕ) (a b : Bytes) → MayImply past grants f t a b → Has (implying past grants f t a) b
may_listed past grants f t a b may = has_filter (λ b. implies past b a && own past grants f t b) (map (λ x. x.id) (policy_of past).actions) b (listed (action_of (policy_of past) b) refl may.0) (ap (λ c. c && own past grants f t b) may.0 ∙ may.1)
  where
    listed : (o : Option Action) → action_of (policy_of past) b ≡ o → option_map_or (λ x. annotates x imply_key a) o false ≡ true → Has (map (λ (x : Action). x.id) (policy_of past).actions) b
    listed None is e = absurd (cc)
    listed (Some x) is e =
        let found = find_has (λ (x : Action). bytes_eq x.id b) (policy_of past).actions x is in
        subst (Has (map (λ (x : Action). x.id) (policy_of past).actions)) ((bytes_eq-Decides x.id b).0 found.1) (has_map (λ (x : Action). x.id) (policy_of past).actions x found.0)

listed_may : (past : List Item) (grants : List GrantRow) (f : Facts) (t : ℕ) (a b : Bytes) → Has (implying past grants f t a) b → MayImply past grants f t a b
listed_may past grants f t a b h = both (implies past b a) (own past grants f t b) (filter_has (λ b. implies past b a && own past grants f t b) (map (λ x. x.id) (policy_of past).actions) b h).1

pub implying_back : (past : List Item) (grants : List GrantRow) (f : Facts) (t : ℕ) (a b : Bytes) → least_text (implying past grants f t a) ≡ Some b → IsLeastImplying past grants f t a b
implying_back past grants f t a b e =
    let found = least_some (implying past grants f t a) b e in
    record { may = listed_may past grants f t a b found.0; least = λ c may. found.1 c (may_listed past grants f t a c may) }

pub implying_forth : (past : List Item) (grants : List GrantRow) (f : Facts) (t : ℕ) (a b : Bytes) → IsLeastImplying past grants f t a b → least_text (implying past grants f t a) ≡ Some b
implying_forth past grants f t a b l = least_is (implying past grants f t a) b (may_listed past grants f t a b l.may) (λ c h. l.least c (listed_may past grants f t a c h))

-- what decides
pub implied_back : (past : List Item) (grants : List GrantRow) (f : Facts) (t : ℕ) (a b : Bytes) (value : Implicit) (source : RuleSource) → decided past grants f t a (value, source) ≡ Decision.Imply b → IsImplied past grants f t a value b
implied_back past grants f t a b value source e = of (f.uid == 0) refl (is_yes value) refl (find (serves f.key a t) grants) refl (least_text (implying past grants f t a)) refl e
  where
    other : (f.uid == 0) ≡ false → f.uid ≡ 0 → ⊥
    other is same = absurd (cc (is, (Decides-eqb f.uid 0).1 same))

    no_value : (auth : Bool) → (if auth then Decision.Challenge value source else Decision.No source) ≡ Decision.Imply b → ⊥
    no_value true e = absurd (cc)
    no_value false e = absurd (cc)

    of : (r : Bool) → (f.uid == 0) ≡ r → (y : Bool) → is_yes value ≡ y → (g : Option GrantRow) → find (serves f.key a t) grants ≡ g → (o : Option Bytes) → least_text (implying past grants f t a) ≡ o
        → (if r then Decision.Root else (if y then Decision.Yes source else by_grant g o value source)) ≡ Decision.Imply b → IsImplied past grants f t a value b
    of true r y is_y g is_g o is_o e = absurd (cc)
    of false r true y g is_g o is_o e = absurd (cc)
    of false r false y (Some g) is_g o is_o e = absurd (cc)
    of false r false y None g (Some b') o e =
        let same : b' ≡ b = cc in
        record { user = other r; not_yes = y; grant = g; implied = implying_back past grants f t a b (o ∙ ap Some same) }
    of false r false y None g None o e = absurd (no_value (is_auth value) e)

pub implied_forth : (past : List Item) (grants : List GrantRow) (f : Facts) (t : ℕ) (a b : Bytes) (value : Implicit) (source : RuleSource) → IsImplied past grants f t a value b → decided past grants f t a (value, source) ≡ Decision.Imply b
implied_forth past grants f t a b value source i =
    ap (λ r. if r then Decision.Root else (if is_yes value then Decision.Yes source else by_grant (find (serves f.key a t) grants) (least_text (implying past grants f t a)) value source)) (other (f.uid == 0) refl)
    ∙ ap (λ y. if y then Decision.Yes source else by_grant (find (serves f.key a t) grants) (least_text (implying past grants f t a)) value source) i.not_yes
    ∙ ap (λ g. by_grant g (least_text (implying past grants f t a)) value source) i.grant
    ∙ ap (λ o. by_imply o value source) (implying_forth past grants f t a b i.implied)
  where
    other : (r : Bool) → (f.uid == 0) ≡ r → r ≡ false
    other true is = absurd (i.user ((Decides-eqb f.uid 0).0 is))
    other false is = refl
