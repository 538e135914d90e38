-- A rule is taken out: each search finds the same, unless it found that rule.
use Rattle.std.proofs.Common.{◌≡◌, ◌≢◌, ◌⊎◌, ℕ, zero, suc, ◌+◌, ◌<◌, ◌≤◌, Bool, true, false, List, [], ◌∷◌, Option, None, Some, option_map, refl, sym, ap, ◌∙◌, subst, inl, inr, arith}
use Rattle.std.specs.Prelude.{remove}
use Rattle.std.specs.List.{enumerate_from}
use Rattle.std.proofs.lemmas.Bool.Decides.{nat_tests}
use Rattle.pk_types.specs.declared.values.Category.{Category}
use Rattle.pk_types.specs.declared.values.Implicit.{Implicit}
use Rattle.authority_model.specs.declared.policy.Action.{Action}
use Rattle.authority_model.specs.declared.policy.Policy.{Policy}
use Rattle.authority_model.specs.declared.policy.RuleEntry.{RuleEntry}
use Rattle.authority_model.specs.declared.verdict.RuleSource.{RuleSource}
use Rattle.authority_model.specs.declared.world.World.{World}
use Rattle.authority_model.specs.Lists.{find_last, or_else, when}
use Rattle.authority_model.specs.Words.{Bytes}
use Rattle.authority_model.specs.Rules.{action_of, deciding, greatest, implicit, last_at, matches_at, places, value_by}
use Rattle.explain_laws.specs.Without.{MattersNot, found_before, implicit_without, place_before, without}
use Rattle.pkexplain_tool.specs.Dead.{IsDead}

-- # Places

-- a rule with the place that it had before
abbrev rule_before : ℕ → ℕ × RuleEntry → ℕ × RuleEntry
rule_before y (p, entry) = (place_before y p, entry)

below : (y p : ℕ) → p < y → place_before y p ≡ p
below y p lt = grind (arith, nat_tests)

above : (y p : ℕ) → y ≤ p → place_before y p ≡ p + 1
above y p le = grind (arith, nat_tests)

-- no rule had the place of the one that was taken out
never : (y p : ℕ) → place_before y p ≢ y
never y p e = grind (arith, nat_tests)

-- # The last rule that matches

abbrev last_from : (RuleEntry → Bool) → ℕ → List RuleEntry → Option (ℕ × RuleEntry)
last_from test n entries = find_last (λ (place, entry). test entry) (enumerate_from n entries)

mapped_or : {A B : Type 0} (f : A → B) (a b : Option A) → option_map f (or_else a b) ≡ or_else (option_map f a) (option_map f b)
mapped_or f None b = refl
mapped_or f (Some x) b = refl

mapped_when : {A B : Type 0} (f : A → B) (b : Bool) (x : A) → option_map f (when b x) ≡ when b (f x)
mapped_when f true x = refl
mapped_when f false x = refl

-- rules behind the one that was taken out
later_rules : (test : RuleEntry → Bool) (y n : ℕ) (entries : List RuleEntry) → y ≤ n → option_map (rule_before y) (last_from test n entries) ≡ last_from test (n + 1) entries
later_rules test y n [] le = refl
later_rules test y n (e ∷ entries) le =
    mapped_or (rule_before y) (last_from test (n + 1) entries) (when (test e) (n, e))
    ∙ ap (λ (o : Option (ℕ × RuleEntry)). or_else o (option_map (rule_before y) (when (test e) (n, e)))) (later_rules test y (n + 1) entries (omega arith))
    ∙ ap (or_else (last_from test ((n + 1) + 1) entries)) (mapped_when (rule_before y) (test e) (n, e) ∙ ap (λ (p : ℕ). when (test e) (p, e)) (above y n le))

-- the rule that was taken out is the one that a search found, or the search finds the same
abbrev Keeps : ℕ → Option (ℕ × RuleEntry) → Option (ℕ × RuleEntry) → Type 0
Keeps y now before = ((entry : RuleEntry) × (before ≡ Some (y, entry))) ⊎ (option_map (rule_before y) now ≡ before)

first_rule : (y : ℕ) (e : RuleEntry) (b : Bool) (now before : Option (ℕ × RuleEntry)) → option_map (rule_before y) now ≡ before → Keeps y now (or_else before (when b (y, e)))
first_rule y e true now None same = inl (e, refl)
first_rule y e false now None same = inr same
first_rule y e b now (Some z) same = inr same

next_rule : (y n : ℕ) (e : RuleEntry) (b : Bool) (now before : Option (ℕ × RuleEntry)) → n < y → Keeps y now before → Keeps y (or_else now (when b (n, e))) (or_else before (when b (n, e)))
next_rule y n e b now before lt (inl (entry, is)) = inl (entry, ap (λ (o : Option (ℕ × RuleEntry)). or_else o (when b (n, e))) is)
next_rule y n e b now before lt (inr same) =
    inr (mapped_or (rule_before y) now (when b (n, e))
    ∙ ap (λ (o : Option (ℕ × RuleEntry)). or_else o (option_map (rule_before y) (when b (n, e)))) same
    ∙ ap (or_else before) (mapped_when (rule_before y) b (n, e) ∙ ap (λ (p : ℕ). when b (p, e)) (below y n lt)))

last_keeps : (test : RuleEntry → Bool) (n k y : ℕ) (entries : List RuleEntry) → y ≡ n + k → Keeps y (last_from test n (remove entries k)) (last_from test n entries)
last_keeps test n zero y [] at = inr refl
last_keeps test n (suc k) y [] at = inr refl
last_keeps test n zero y (e ∷ entries) at =
    let here : n ≡ y = omega arith in
    subst (λ (z : ℕ). Keeps z (last_from test n entries) (last_from test n (e ∷ entries))) here
    (first_rule n e (test e) (last_from test n entries) (last_from test (n + 1) entries) (later_rules test n n entries (omega arith)))
last_keeps test n (suc k) y (e ∷ entries) at =
    next_rule y n e (test e) (last_from test (n + 1) (remove entries k)) (last_from test (n + 1) entries) (omega arith) (last_keeps test (n + 1) k y entries (omega arith))

-- # The greatest pair

both_keep : (y : ℕ) (now before last_now last_before : Option (ℕ × RuleEntry)) → Keeps y now before → Keeps y last_now last_before → Keeps y (or_else now last_now) (or_else before last_before)
both_keep y now before last_now last_before (inl (entry, is)) last = inl (entry, ap (λ (o : Option (ℕ × RuleEntry)). or_else o last_before) is)
both_keep y now before last_now last_before (inr same) (inr too) =
    inr (mapped_or (rule_before y) now last_now ∙ ap (λ (o : Option (ℕ × RuleEntry)). or_else o (option_map (rule_before y) last_now)) same ∙ ap (or_else before) too)
both_keep y now None last_now last_before (inr same) (inl last) = inl last
both_keep y now (Some z) last_now last_before (inr same) (inl last) =
    inr (mapped_or (rule_before y) now last_now ∙ ap (λ (o : Option (ℕ × RuleEntry)). or_else o (option_map (rule_before y) last_now)) same)

greatest_keeps : (y : ℕ) (policy : Policy) (action : Bytes) (category : Category) (labels : List Bytes) → Keeps y (greatest (without y policy) action category labels) (greatest policy action category labels)
greatest_keeps y policy action category [] = inr refl
greatest_keeps y policy action category (label ∷ labels) =
    both_keep y (greatest (without y policy) action category labels) (greatest policy action category labels) (last_at (without y policy) action category label) (last_at policy action category label)
    (greatest_keeps y policy action category labels) (last_keeps (matches_at label action category) 0 y y policy.entries (omega arith))

-- # The implicit value

value_before : (y : ℕ) (category : Category) (a : Action) (rule : Option (ℕ × RuleEntry)) → found_before y (value_by category a rule) ≡ value_by category a (option_map (rule_before y) rule)
value_before y category a None = refl
value_before y category a (Some (p, entry)) = refl

abbrev by_rule : Category → Option Action → Option (ℕ × RuleEntry) → Option (Implicit × RuleSource)
by_rule category found rule = option_map (λ a. value_by category a rule) found

implicit_keeps : (y : ℕ) (category : Category) (found : Option Action) (now before : Option (ℕ × RuleEntry)) → option_map (rule_before y) now ≡ before
    → option_map (found_before y) (by_rule category found now) ≡ by_rule category found before
implicit_keeps y category None now before same = refl
implicit_keeps y category (Some a) now before same = ap (λ (v : Implicit × RuleSource). Some v) (value_before y category a now ∙ ap (value_by category a) same)

-- a rule that decides gives the value, or the policy lacks the action
given : (y : ℕ) (category : Category) (found : Option Action) (entry : RuleEntry) (now : Option (ℕ × RuleEntry)) → ((value : Implicit) → by_rule category found (Some (y, entry)) ≢ Some (value, RuleSource.Entry y))
    → option_map (found_before y) (by_rule category found now) ≡ by_rule category found (Some (y, entry))
given y category None entry now dead = refl
given y category (Some a) entry now dead = absurd (dead (value_by category a (Some (y, entry))).0 refl)

kept : (y : ℕ) (category : Category) (found : Option Action) (now before : Option (ℕ × RuleEntry)) → Keeps y now before → ((value : Implicit) → by_rule category found before ≢ Some (value, RuleSource.Entry y))
    → option_map (found_before y) (by_rule category found now) ≡ by_rule category found before
kept y category found now before (inr same) dead = implicit_keeps y category found now before same
kept y category found now before (inl (entry, is)) dead =
    subst (λ (o : Option (ℕ × RuleEntry)). option_map (found_before y) (by_rule category found now) ≡ by_rule category found o) (sym is)
    (given y category found entry now (λ value e. dead value (ap (by_rule category found) is ∙ e)))

-- a dead rule matters not
pub dead_not : (policy : Policy) (world : World) (y : ℕ) → IsDead policy world y → MattersNot policy world y
dead_not policy world y dead user category action who ne what =
    kept y category (action_of policy action.id) (deciding (without y policy) world user.uid category action.id) (deciding policy world user.uid category action.id)
    (greatest_keeps y policy action.id category (places world user.uid)) (λ value. dead user category action value who ne what)

abbrev source_or : Option (Implicit × RuleSource) → RuleSource → RuleSource
source_or None d = d
source_or (Some (value, source)) d = source

-- what gives a value without the rule is not that rule
not_that : (y : ℕ) (o : Option (Implicit × RuleSource)) (value : Implicit) → option_map (found_before y) o ≢ Some (value, RuleSource.Entry y)
not_that y None value e = cc
not_that y (Some (v, RuleSource.Default category)) value e =
    let same : RuleSource.Default category ≡ RuleSource.Entry y = ap (λ (o : Option (Implicit × RuleSource)). source_or o (RuleSource.Default category)) e in
    cc
not_that y (Some (v, RuleSource.Entry p)) value e =
    let same : RuleSource.Entry (place_before y p) ≡ RuleSource.Entry y = ap (λ (o : Option (Implicit × RuleSource)). source_or o (RuleSource.Entry y)) e in
    never y p (cc)

-- a case that the rule decides is decided by something else without it
pub other_without : (policy : Policy) (world : World) (y uid : ℕ) (category : Category) (id : Bytes) (value : Implicit) → implicit policy world uid category id ≡ Some (value, RuleSource.Entry y)
    → implicit_without y policy world uid category id ≢ implicit policy world uid category id
other_without policy world y uid category id value is same = not_that y (implicit (without y policy) world uid category id) value (same ∙ is)

-- a rule that matters not is dead
pub not_dead : (policy : Policy) (world : World) (y : ℕ) → MattersNot policy world y → IsDead policy world y
not_dead policy world y not user category action value who ne what is = other_without policy world y user.uid category action.id value is (not user category action who ne what)
