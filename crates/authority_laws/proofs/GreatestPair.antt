-- The rule that decides is that of the greatest matching pair.
use Rattle.std.proofs.Common.{◌≡◌, ℕ, suc, zero, ◌+◌, ◌≤◌, Bool, true, false, ◌&&◌, ◌||◌, List, [], ◌∷◌, ◌++◌, refl, ap, sym, ◌∙◌, inl, inr, Option, Some, None, is_some, subst, arith}
use Rattle.std.specs.Prelude.{flat_map, option_map, option_to_list, slice_get}
use Rattle.std.specs.List.{enumerate_from}
use Rattle.std.specs.Option.{option_map_or}
use Rattle.pk_types.specs.declared.values.Implicit.{Implicit}
use Rattle.pk_types.specs.declared.values.Category.{Category}
use Rattle.glob_match.specs.Glob.{matches}
use Rattle.authority_model.specs.declared.policy.Policy.{Policy}
use Rattle.authority_model.specs.declared.policy.RuleEntry.{RuleEntry}
use Rattle.authority_model.specs.declared.world.World.{World}
use Rattle.authority_model.specs.declared.world.User.{User as UserRow}
use Rattle.authority_model.specs.declared.world.Group.{Group as GroupRow}
use Rattle.authority_model.specs.Lists.{Has, Each, or_else, when, any_of, find_last}
use Rattle.authority_model.specs.Words.{Bytes}
use Rattle.authority_model.specs.Worlds.{user_row, group_row}
use Rattle.authority_model.specs.Rules.{places, places_of_row, matches_at, value_of, last_at, greatest}
use Rattle.authority_model.proofs.Cases.{both, Each-append}
use Rattle.authority_laws.specs.Greatest.{IsGroupLabel, Matches, IsPair, IsAtMost, IsGreatest}

-- a test that some element passes
any_has : {A : Type 0} (test : A → Bool) (xs : List A) → any_of test xs ≡ true → (x : A) × Has xs x × (test x ≡ true)
any_has test [] e = absurd (cc)
any_has {A} test (x ∷ xs) e = go (any_has test xs) (test x) refl e
  where
    go : (any_of test xs ≡ true → (y : A) × Has xs y × (test y ≡ true)) → (b : Bool) → test x ≡ b → (b || any_of test xs) ≡ true → (y : A) × Has (x ∷ xs) y × (test y ≡ true)
    go ih true is e = (x, inl refl, is)
    go ih false is e = let rest = ih e in (rest.0, inr rest.1, rest.2)

has_any : {A : Type 0} (test : A → Bool) (xs : List A) (y : A) → Has xs y → test y ≡ true → any_of test xs ≡ true
has_any test [] y h t = absurd h
has_any test (x ∷ xs) y (inl same) t = ap (λ b. b || any_of test xs) (ap test same ∙ t)
has_any test (x ∷ xs) y (inr h) t = of (test x) (has_any test xs y h t)
  where
    of : (b : Bool) → any_of test xs ≡ true → (b || any_of test xs) ≡ true
    of true ih = refl
    of false ih = ih

-- what it is to match, and back
matches_is : (label action : Bytes) (category : Category) (rule : RuleEntry) → matches_at label action category rule ≡ true → Matches label action category rule
matches_is label action category rule e =
    let first = both (any_of (λ glob. matches glob label) rule.identities && any_of (λ glob. matches glob action) rule.actions) (is_some (value_of rule category)) e in
    let parts = both (any_of (λ glob. matches glob label) rule.identities) (any_of (λ glob. matches glob action) rule.actions) first.0 in
    let who = any_has (λ glob. matches glob label) rule.identities parts.0 in
    let what = any_has (λ glob. matches glob action) rule.actions parts.1 in
    let value = there (value_of rule category) first.1 in
    record { identity = who.0; identity_listed = who.1; identity_matches = who.2; glob = what.0; glob_listed = what.1; glob_matches = what.2; value = value.0; value_is = value.1 }
  where
    there : (o : Option Implicit) → is_some o ≡ true → (v : Implicit) × (o ≡ Some v)
    there None e = absurd (cc)
    there (Some v) e = (v, refl)

is_matches : (label action : Bytes) (category : Category) (rule : RuleEntry) → Matches label action category rule → matches_at label action category rule ≡ true
is_matches label action category rule m =
    ap (λ b. b && any_of (λ glob. matches glob action) rule.actions && is_some (value_of rule category)) (has_any (λ glob. matches glob label) rule.identities m.identity m.identity_listed m.identity_matches)
    ∙ ap (λ b. b && is_some (value_of rule category)) (has_any (λ glob. matches glob action) rule.actions m.glob m.glob_listed m.glob_matches)
    ∙ ap is_some m.value_is

-- the last element that passes has place y, counted from n
record IsLast {A : Type 0} (test : A → Bool) (n : ℕ) (xs : List A) (y : ℕ) (x : A) : Type 0 where
  pub place : ℕ
  pub counted : y ≡ n + place
  pub there : slice_get xs place ≡ Some x
  pub passes : test x ≡ true
  pub last : (k : ℕ) (z : A) → slice_get xs k ≡ Some z → test z ≡ true → k ≤ place

same_value : {A : Type 0} (x y : A) → Some x ≡ Some y → x ≡ y
same_value x y e = cc

last_none : {A : Type 0} (test : A → Bool) (n : ℕ) (xs : List A) → find_last (λ (e : ℕ × A). test e.1) (enumerate_from n xs) ≡ None → (k : ℕ) (z : A) → slice_get xs k ≡ Some z → test z ≡ false
last_none test n [] e k z there = absurd (cc)
last_none {A} test n (x ∷ xs) e k z there = go (find_last (λ (e : ℕ × A). test e.1) (enumerate_from (n + 1) xs)) refl (last_none test (n + 1) xs) (test x) refl e k there
  where
    go : (o : Option (ℕ × A)) → find_last (λ (e : ℕ × A). test e.1) (enumerate_from (n + 1) xs) ≡ o → (find_last (λ (e : ℕ × A). test e.1) (enumerate_from (n + 1) xs) ≡ None → (k : ℕ) (z : A) → slice_get xs k ≡ Some z → test z ≡ false) → (b : Bool) → test x ≡ b → or_else o (when b (n, x)) ≡ None → (k : ℕ) → slice_get (x ∷ xs) k ≡ Some z → test z ≡ false
    go (Some p) o ih b is e k there = absurd (cc)
    go None o ih true is e k there = absurd (cc)
    go None o ih false is e zero there = let same : x ≡ z = cc in ap test (sym same) ∙ is
    go None o ih false is e (suc k) there = ih o k z there

last_some : {A : Type 0} (test : A → Bool) (n : ℕ) (xs : List A) (y : ℕ) (z : A) → find_last (λ (e : ℕ × A). test e.1) (enumerate_from n xs) ≡ Some (y, z) → IsLast test n xs y z
last_some test n [] y z e = absurd (cc)
last_some {A} test n (x ∷ xs) y z e = go (find_last (λ (e : ℕ × A). test e.1) (enumerate_from (n + 1) xs)) refl (last_some test (n + 1) xs y z) (test x) refl e
  where
    go : (o : Option (ℕ × A)) → find_last (λ (e : ℕ × A). test e.1) (enumerate_from (n + 1) xs) ≡ o → (find_last (λ (e : ℕ × A). test e.1) (enumerate_from (n + 1) xs) ≡ Some (y, z) → IsLast test (n + 1) xs y z) → (b : Bool) → test x ≡ b → or_else o (when b (n, x)) ≡ Some (y, z) → IsLast test n (x ∷ xs) y z
    go (Some p) o ih b is e =
        let l = ih (o ∙ e) in
        record { place = suc l.place; counted = omega (arith, l.counted); there = l.there; passes = l.passes; last = at l.place l.last }
      where
        at : (place : ℕ) → ((k : ℕ) (w : A) → slice_get xs k ≡ Some w → test w ≡ true → k ≤ place) → (k : ℕ) (w : A) → slice_get (x ∷ xs) k ≡ Some w → test w ≡ true → k ≤ suc place
        at place last zero w there t = omega arith
        at place last (suc k) w there t = omega (arith, last k w there t)
    go None o ih true is e =
        let same = same_value (n, x) (y, z) e in
        let number : n ≡ y = ap (λ (p : ℕ × A). p.0) same in
        let value : x ≡ z = ap (λ (p : ℕ × A). p.1) same in
        record { place = zero; counted = omega (arith, number); there = ap Some value; passes = ap test (sym value) ∙ is; last = at }
      where
        at : (k : ℕ) (w : A) → slice_get (x ∷ xs) k ≡ Some w → test w ≡ true → k ≤ zero
        at zero w there t = omega arith
        at (suc k) w there t = absurd (cc (last_none test (n + 1) xs o k w there, t))
    go None o ih false is e = absurd (cc)

-- there is no pair where the search finds none
pub greatest_none : (policy : Policy) (action : Bytes) (category : Category) (labels : List Bytes) → greatest policy action category labels ≡ None → (x y : ℕ) (rule : RuleEntry) → IsPair labels policy.entries action category x y rule → ⊥
greatest_none policy action category [] e x y rule pair = absurd (cc (pair.label_is))
greatest_none policy action category (label ∷ labels) e x y rule pair = go (greatest policy action category labels) refl (greatest_none policy action category labels) (last_at policy action category label) refl e x pair.label pair.label_is pair.rule_is pair.matches
  where
    go : (o : Option (ℕ × RuleEntry)) → greatest policy action category labels ≡ o
        → (greatest policy action category labels ≡ None → (x y : ℕ) (rule : RuleEntry) → IsPair labels policy.entries action category x y rule → ⊥)
        → (l : Option (ℕ × RuleEntry)) → last_at policy action category label ≡ l → or_else o l ≡ None
        → (x : ℕ) (own : Bytes) → slice_get (label ∷ labels) x ≡ Some own → slice_get policy.entries y ≡ Some rule → Matches own action category rule → ⊥
    go (Some p) o ih l last e x own own_is rule_is m = absurd (cc)
    go None o ih (Some p) last e x own own_is rule_is m = absurd (cc)
    go None o ih None last e zero own own_is rule_is m =
        let same : label ≡ own = cc in
        let here = is_matches label action category rule (subst (λ l. Matches l action category rule) (sym same) m) in
        absurd (cc (here, last_none (matches_at label action category) 0 policy.entries last y rule rule_is))
    go None o ih None last e (suc x) own own_is rule_is m = ih o x y rule (record { label = own; label_is = own_is; rule_is = rule_is; matches = m })

-- what the search finds is the greatest pair
pub greatest_some : (policy : Policy) (action : Bytes) (category : Category) (labels : List Bytes) (y : ℕ) (rule : RuleEntry) → greatest policy action category labels ≡ Some (y, rule) → IsGreatest labels policy.entries action category y rule
greatest_some policy action category [] y rule e = absurd (cc)
greatest_some policy action category (label ∷ labels) y rule e = go (greatest policy action category labels) refl (greatest_some policy action category labels y rule) e
  where
    over : (x : ℕ) → ((x' y' : ℕ) (rule' : RuleEntry) → IsPair labels policy.entries action category x' y' rule' → IsAtMost x' y' x y)
        → (x' y' : ℕ) (rule' : RuleEntry) (own : Bytes) → slice_get (label ∷ labels) x' ≡ Some own → slice_get policy.entries y' ≡ Some rule' → Matches own action category rule' → IsAtMost x' y' (suc x) y
    over x ih zero y' rule' own own_is rule_is m = inl (omega arith)
    over x ih (suc x') y' rule' own own_is rule_is m = more (ih x' y' rule' (record { label = own; label_is = own_is; rule_is = rule_is; matches = m }))
      where
        more : IsAtMost x' y' x y → IsAtMost (suc x') y' (suc x) y
        more (inl lt) = inl (omega arith)
        more (inr same) = inr (ap suc same.0, same.1)

    first : greatest policy action category labels ≡ None → IsLast (matches_at label action category) 0 policy.entries y rule
        → (x' y' : ℕ) (rule' : RuleEntry) (own : Bytes) → slice_get (label ∷ labels) x' ≡ Some own → slice_get policy.entries y' ≡ Some rule' → Matches own action category rule' → IsAtMost x' y' 0 y
    first none l zero y' rule' own own_is rule_is m =
        let same : label ≡ own = cc in
        let here = is_matches label action category rule' (subst (λ l. Matches l action category rule') (sym same) m) in
        inr (refl, omega (arith, l.counted, l.last y' rule' rule_is here))
    first none l (suc x') y' rule' own own_is rule_is m = absurd (greatest_none policy action category labels none x' y' rule' (record { label = own; label_is = own_is; rule_is = rule_is; matches = m }))

    go : (o : Option (ℕ × RuleEntry)) → greatest policy action category labels ≡ o
        → (greatest policy action category labels ≡ Some (y, rule) → IsGreatest labels policy.entries action category y rule)
        → or_else o (last_at policy action category label) ≡ Some (y, rule) → IsGreatest (label ∷ labels) policy.entries action category y rule
    go (Some p) o ih e =
        let g = ih (o ∙ e) in
        record {
          x = suc g.x;
          pair = record { label = g.pair.label; label_is = g.pair.label_is; rule_is = g.pair.rule_is; matches = g.pair.matches };
          greatest = λ x' y' rule' pair. over g.x g.greatest x' y' rule' pair.label pair.label_is pair.rule_is pair.matches;
        }
    go None o ih e =
        let l = last_some (matches_at label action category) 0 policy.entries y rule e in
        let place : y ≡ l.place = omega (arith, l.counted) in
        record {
          x = 0;
          pair = record { label = label; label_is = refl; rule_is = ap (slice_get policy.entries) place ∙ l.there; matches = matches_is label action category rule l.passes };
          greatest = λ x' y' rule' pair. first o l x' y' rule' pair.label pair.label_is pair.rule_is pair.matches;
        }

-- and the greatest pair is what the search finds
pub greatest_is : (policy : Policy) (action : Bytes) (category : Category) (labels : List Bytes) (y : ℕ) (rule : RuleEntry) → IsGreatest labels policy.entries action category y rule → greatest policy action category labels ≡ Some (y, rule)
greatest_is policy action category labels y rule g = of (greatest policy action category labels) refl
  where
    same : (p : ℕ × RuleEntry) → (h : IsGreatest labels policy.entries action category p.0 p.1) → IsAtMost h.x p.0 g.x y → IsAtMost g.x y h.x p.0 → y ≡ p.0
    same p h (inl lt) (inl gt) = absurd (omega arith)
    same p h (inl lt) (inr e) = absurd (omega (arith, e.0))
    same p h (inr e) (inl gt) = absurd (omega (arith, e.0))
    same p h (inr e) (inr f) = omega (arith, e.1, f.1)

    one : (p : ℕ × RuleEntry) → y ≡ p.0 → Some rule ≡ Some p.1 → Some p ≡ Some (y, rule)
    one p number rules = ap (λ n. Some (n, p.1)) (sym number) ∙ ap (λ r. Some (y, r)) (sym (same_value rule p.1 rules))

    found : (p : ℕ × RuleEntry) → greatest policy action category labels ≡ Some p → IsGreatest labels policy.entries action category p.0 p.1 → greatest policy action category labels ≡ Some (y, rule)
    found p is h =
        let number : y ≡ p.0 = same p h (g.greatest h.x p.0 p.1 h.pair) (h.greatest g.x y rule g.pair) in
        let rules : Some rule ≡ Some p.1 = sym g.pair.rule_is ∙ ap (slice_get policy.entries) number ∙ h.pair.rule_is in
        subst (λ o. o ≡ Some (y, rule)) (sym is) (one p number rules)

    of : (o : Option (ℕ × RuleEntry)) → greatest policy action category labels ≡ o → greatest policy action category labels ≡ Some (y, rule)
    of None is = absurd (greatest_none policy action category labels is g.x y rule g.pair)
    of (Some p) is = found p is (greatest_some policy action category labels p.0 p.1 is)

pub none_greatest : (policy : Policy) (action : Bytes) (category : Category) (labels : List Bytes) → ((x y : ℕ) (rule : RuleEntry) → IsPair labels policy.entries action category x y rule → ⊥) → greatest policy action category labels ≡ None
none_greatest policy action category labels none = of (greatest policy action category labels) refl
  where
    of : (o : Option (ℕ × RuleEntry)) → greatest policy action category labels ≡ o → o ≡ None
    of None is = refl
    of (Some p) is = let g = greatest_some policy action category labels p.0 p.1 is in absurd (none g.x p.0 p.1 g.pair)

-- each place before a user's own is a label of one of its groups
pub group_labels : (world : World) (user : UserRow) (gids : List ℕ) → ((gid : ℕ) → Has gids gid → Has user.gids gid) → Each (IsGroupLabel world user) (flat_map (λ gid. option_to_list (option_map (λ (g : GroupRow). g.label) (group_row world gid))) gids)
group_labels world user [] listed = tt
group_labels world user (gid ∷ gids) listed = Each-append (IsGroupLabel world user) (option_to_list (option_map (λ (g : GroupRow). g.label) (group_row world gid))) (flat_map (λ gid. option_to_list (option_map (λ (g : GroupRow). g.label) (group_row world gid))) gids) (one (group_row world gid) refl) (group_labels world user gids (λ g h. listed g (inr h)))
  where
    one : (o : Option GroupRow) → group_row world gid ≡ o → Each (IsGroupLabel world user) (option_to_list (option_map (λ (g : GroupRow). g.label) o))
    one None is = tt
    one (Some group) is = (record { gid = gid; gid_listed = listed gid (inl refl); group = group; group_is = is; label_is = refl }, tt)

pub own_place_last : (world : World) (uid : ℕ) (user : UserRow) → user_row world uid ≡ Some user → (groups : List Bytes) × (places world uid ≡ groups ++ user.label ∷ []) × Each (IsGroupLabel world user) groups
own_place_last world uid user is = (flat_map (λ gid. option_to_list (option_map (λ (g : GroupRow). g.label) (group_row world gid))) user.gids, ap (λ o. option_map_or (places_of_row world) o []) is, group_labels world user user.gids (λ gid h. h))
