-- A rule is told as dead exactly where it decides nothing.
use Rattle.std.proofs.Common.{◌≡◌, ◌≢◌, ◌↔◌, ℕ, zero, suc, ◌+◌, ◌<◌, ◌≤◌, ◌==◌, length, Bool, true, false, true≢false, not, ◌&&◌, cond, List, [], ◌∷◌, ◌++◌, Option, None, Some, find, flat_map, map, option_map, option_to_list, refl, sym, ap, ◌∙◌, subst, inl, inr, arith}
use Rattle.std.specs.List.{range_with_len}
use Rattle.std.proofs.lemmas.Bool.{eq-eqb, eqb-true}
use Rattle.std.proofs.lemmas.Bool.Decides.{eqb_tells}
use Rattle.pk_types.specs.declared.values.Category.{Category}
use Rattle.pk_types.specs.declared.values.Implicit.{Implicit}
use Rattle.authority_model.specs.declared.load.FileFault.{FileFault}
use Rattle.authority_model.specs.declared.load.Loaded.{Loaded}
use Rattle.authority_model.specs.declared.policy.Action.{Action}
use Rattle.authority_model.specs.declared.policy.Policy.{Policy}
use Rattle.authority_model.specs.declared.verdict.RuleSource.{RuleSource}
use Rattle.authority_model.specs.declared.world.User.{User}
use Rattle.authority_model.specs.Lists.{Has}
use Rattle.authority_model.specs.Rules.{implicit}
use Rattle.authority_model.proofs.Cases.{append_has, both, find_has, map_has}
use Rattle.authority_laws.proofs.Standing.{has_left, has_right, map_in}
use Rattle.pkexplain_tool.specs.Cases.{case_of, cases_of, cases_of_user, decides, first_decided, is_from, row_of}
use Rattle.pkexplain_tool.specs.Dead.{IsDead}
use Rattle.pkexplain_tool.specs.Lines.{Line, case_lines, explained, line_of_rule, lines_of_case, rule_line, rule_lines}
use Rattle.pkexplain_tool.specs.declared.case.Case.{Case}

-- # What stands in lists

flat_map_has : {A B : Type 0} (f : A → List B) (xs : List A) (y : B) → Has (flat_map f xs) y → (x : A) × Has xs x × Has (f x) y
flat_map_has f [] y h = absurd h
flat_map_has {A} {B} f (x ∷ xs) y h = elim (append_has (f x) (flat_map f xs) y h) [
  | inl here ↦ (x, inl refl, here)
  | inr more ↦ let rest = flat_map_has f xs y more in (rest.0, inr rest.1, rest.2)
]

flat_map_in : {A B : Type 0} (f : A → List B) (xs : List A) (x : A) (y : B) → Has xs x → Has (f x) y → Has (flat_map f xs) y
flat_map_in f [] x y h i = absurd h
flat_map_in f (z ∷ xs) x y (inl same) i = has_left (f z) (flat_map f xs) y (subst (λ (a : _). Has (f a) y) (sym same) i)
flat_map_in f (z ∷ xs) x y (inr h) i = has_right (f z) (flat_map f xs) y (flat_map_in f xs x y h i)

range_has : (a n p : ℕ) → Has (range_with_len a n) p → p < a + n
range_has a zero p h = absurd h
range_has a (suc n) p (inl same) = omega (arith, same)
range_has a (suc n) p (inr h) = omega (arith, range_has (a + 1) n p h)

range_in : (a n p : ℕ) → a ≤ p → p < a + n → Has (range_with_len a n) p
range_in a zero p low high = absurd (omega arith)
range_in a (suc n) p low high = elim (eqb_tells a p) [
  | inl at ↦ inl at.1
  | inr off ↦ let ne = off.1 in inr (range_in (a + 1) n p (omega arith) (omega arith))
]

-- what a search does not find does not pass
find_none : {A : Type 0} (test : A → Bool) (xs : List A) (x : A) → find test xs ≡ None → Has xs x → test x ≢ true
find_none test [] x e h t = absurd h
find_none {A} test (y ∷ xs) x e h t = go (test y) refl e h (λ none here. find_none test xs x none here t)
  where
    go : (b : Bool) → test y ≡ b → cond b (Some y) (find test xs) ≡ None → Has (y ∷ xs) x → (find test xs ≡ None → Has xs x → ⊥) → ⊥
    go true is e h later = absurd (cc)
    go false is e (inl same) later = true≢false (sym t ∙ ap test (sym same) ∙ is)
    go false is e (inr h) later = later e h

-- # Cases

row_in : (uid : ℕ) (category : Category) (actions : List Action) (action : Action) → Has actions action → Has (row_of uid category actions) (case_of uid category action)
row_in uid category actions action h = map_in (case_of uid category) actions action h

user_in : (policy : Policy) (user : User) (category : Category) (action : Action) → Has policy.actions action → Has (cases_of_user policy user) (case_of user.uid category action)
user_in policy user category action h =
    let any = row_of user.uid Category.Any policy.actions in
    let inactive = row_of user.uid Category.Inactive policy.actions in
    let active = row_of user.uid Category.Active policy.actions in
    elim category as (λ (k : Category). Has (cases_of_user policy user) (case_of user.uid k action)) [
      | Category.Any ↦ has_left any (inactive ++ active) (case_of user.uid Category.Any action) (row_in user.uid Category.Any policy.actions action h)
      | Category.Inactive ↦ has_right any (inactive ++ active) (case_of user.uid Category.Inactive action) (has_left inactive active (case_of user.uid Category.Inactive action) (row_in user.uid Category.Inactive policy.actions action h))
      | Category.Active ↦ has_right any (inactive ++ active) (case_of user.uid Category.Active action) (has_right inactive active (case_of user.uid Category.Active action) (row_in user.uid Category.Active policy.actions action h))
    ]

-- each user in each category asks for each action
case_in : (loaded : Loaded) (user : User) (category : Category) (action : Action) → Has loaded.world.users user → Has loaded.policy.actions action → Has (cases_of loaded) (case_of user.uid category action)
case_in loaded user category action who what = flat_map_in (cases_of_user loaded.policy) loaded.world.users user (case_of user.uid category action) who (user_in loaded.policy user category action what)

-- a case is that of a user in a category for an action
record IsCase (loaded : Loaded) (user : User) (c : Case) : Type 0 where
  category : Category
  action : Action
  listed : Has loaded.policy.actions action
  same : case_of user.uid category action ≡ c

row_case : (loaded : Loaded) (user : User) (category : Category) (c : Case) → Has (row_of user.uid category loaded.policy.actions) c → IsCase loaded user c
row_case loaded user category c h = let found = map_has (case_of user.uid category) loaded.policy.actions c h in record { category = category; action = found.0; listed = found.1; same = found.2 }

user_case : (loaded : Loaded) (user : User) (c : Case) → Has (cases_of_user loaded.policy user) c → IsCase loaded user c
user_case loaded user c h = elim (append_has _ _ c h) [
  | inl any ↦ row_case loaded user Category.Any c any
  | inr more ↦ elim (append_has _ _ c more) [ inl inactive ↦ row_case loaded user Category.Inactive c inactive | inr active ↦ row_case loaded user Category.Active c active ]
]

-- # Deciding

abbrev implicit_of : Loaded → Case → Option (Implicit × RuleSource)
implicit_of loaded c = implicit loaded.policy loaded.world c.uid c.category c.action

-- the rule gave the value that it is said to be from
pub from_rule : (place : ℕ) (o : Option (Implicit × RuleSource)) → is_from place o ≡ true → (value : Implicit) × (o ≡ Some (value, RuleSource.Entry place))
from_rule place None e = absurd (cc)
from_rule place (Some (value, RuleSource.Default category)) e = absurd (cc)
from_rule place (Some (value, RuleSource.Entry p)) e = (value, ap (λ (n : ℕ). Some (value, RuleSource.Entry n)) (eqb-true p place e))

rule_from : (place : ℕ) (o : Option (Implicit × RuleSource)) (value : Implicit) → o ≡ Some (value, RuleSource.Entry place) → is_from place o ≡ true
rule_from place o value e = ap (is_from place) e ∙ eq-eqb place place refl

other : (uid : ℕ) → uid ≢ 0 → not (uid == 0) ≡ true
other uid ne = elim (eqb_tells uid 0) [ inl at ↦ absurd (ne at.1) | inr off ↦ ap not off.0 ]

no_root : (uid : ℕ) → not (uid == 0) ≡ true → uid ≢ 0
no_root uid e root = true≢false (sym e ∙ ap not (eq-eqb uid 0 root))

-- a rule that is never the cause is dead
pub dead_by_none : (loaded : Loaded) (place : ℕ) → first_decided loaded (cases_of loaded) place ≡ None → IsDead loaded.policy loaded.world place
dead_by_none loaded place none user category action value who ne what gives =
    let c = case_of user.uid category action in
    find_none (decides loaded place) (cases_of loaded) c none (case_in loaded user category action who what)
    (ap (λ (b : Bool). b && is_from place (implicit_of loaded c)) (other user.uid ne) ∙ rule_from place (implicit_of loaded c) value gives)

-- a case that a rule decides shows that it is not dead
live_by_case : (loaded : Loaded) (place : ℕ) (c : Case) → IsDead loaded.policy loaded.world place → Has (cases_of loaded) c → decides loaded place c ≡ true → ⊥
live_by_case loaded place c dead h e =
    let found = flat_map_has (cases_of_user loaded.policy) loaded.world.users c h in
    let is = user_case loaded found.0 c found.2 in
    let is_it = both (not (found.0.uid == 0)) (is_from place (implicit_of loaded (case_of found.0.uid is.category is.action))) (ap (decides loaded place) is.same ∙ e) in
    let by = from_rule place (implicit_of loaded (case_of found.0.uid is.category is.action)) is_it.1 in
    dead found.0 is.category is.action by.0 found.1 (no_root found.0.uid is_it.0) is.listed by.1

-- a dead rule is never the cause
pub none_by_dead : (loaded : Loaded) (place : ℕ) → IsDead loaded.policy loaded.world place → first_decided loaded (cases_of loaded) place ≡ None
none_by_dead loaded place dead = go (first_decided loaded (cases_of loaded) place) refl
  where
    go : (o : Option Case) → first_decided loaded (cases_of loaded) place ≡ o → first_decided loaded (cases_of loaded) place ≡ None
    go None e = e
    go (Some c) e = let found = find_has (decides loaded place) (cases_of loaded) c e in absurd (live_by_case loaded place c dead found.0 found.1)

-- # Lines

no_skipped : (faults : List FileFault) (place : ℕ) → Has (map Line.Skipped faults) (Line.Dead place) → ⊥
no_skipped [] place h = h
no_skipped (fault ∷ faults) place (inl e) = cc
no_skipped (fault ∷ faults) place (inr h) = no_skipped faults place h

no_case : (c : Case) (b : Bool) (o : Option (Implicit × RuleSource)) (place : ℕ)
    → Has (cond b (Line.Root c ∷ []) (option_to_list (option_map (λ (value, source). Line.Decided c value source) o))) (Line.Dead place) → ⊥
no_case c true o place (inl e) = cc
no_case c true o place (inr h) = h
no_case c false None place h = h
no_case c false (Some (value, source)) place (inl e) = cc
no_case c false (Some (value, source)) place (inr h) = h

rule_is_dead : (n place : ℕ) (o : Option Case) → line_of_rule n o ≡ Line.Dead place → (n ≡ place) × (o ≡ None)
rule_is_dead n place None e = (cc, refl)
rule_is_dead n place (Some c) e = absurd (cc)

-- the line of a dead rule is that of a rule which decides nothing
dead_line : (loaded : Loaded) (place : ℕ) → Has (rule_lines loaded) (Line.Dead place) → (place < length loaded.policy.entries) × IsDead loaded.policy loaded.world place
dead_line loaded place h =
    let found = map_has (rule_line loaded) (range_with_len 0 (length loaded.policy.entries)) (Line.Dead place) h in
    let is = rule_is_dead found.0 place (first_decided loaded (cases_of loaded) found.0) found.2 in
    let below = range_has 0 (length loaded.policy.entries) found.0 found.1 in
    let same = is.0 in
    (omega arith, dead_by_none loaded place (subst (λ (p : ℕ). first_decided loaded (cases_of loaded) p ≡ None) is.0 is.1))

dead_told : (loaded : Loaded) (place : ℕ) → Has (explained loaded) (Line.Dead place) → (place < length loaded.policy.entries) × IsDead loaded.policy loaded.world place
dead_told loaded place h = elim (append_has (map Line.Skipped loaded.faults) (case_lines loaded (cases_of loaded) ++ rule_lines loaded) (Line.Dead place) h) [
  | inl skipped ↦ absurd (no_skipped loaded.faults place skipped)
  | inr more ↦ elim (append_has (case_lines loaded (cases_of loaded)) (rule_lines loaded) (Line.Dead place) more) [
    | inl case ↦ let found = flat_map_has (lines_of_case loaded) (cases_of loaded) (Line.Dead place) case in absurd (no_case found.0 (found.0.uid == 0) (implicit_of loaded found.0) place found.2)
    | inr rule ↦ dead_line loaded place rule
  ]
]

told_dead : (loaded : Loaded) (place : ℕ) → place < length loaded.policy.entries → IsDead loaded.policy loaded.world place → Has (explained loaded) (Line.Dead place)
told_dead loaded place below dead =
    has_right (map Line.Skipped loaded.faults) (case_lines loaded (cases_of loaded) ++ rule_lines loaded) (Line.Dead place)
    (has_right (case_lines loaded (cases_of loaded)) (rule_lines loaded) (Line.Dead place)
    (subst (λ (line : Line). Has (rule_lines loaded) line) (ap (line_of_rule place) (none_by_dead loaded place dead))
    (map_in (rule_line loaded) (range_with_len 0 (length loaded.policy.entries)) place (range_in 0 (length loaded.policy.entries) place (omega arith) (omega arith)))))

-- a line tells a rule as dead exactly where it is
pub dead_exactly : (loaded : Loaded) (place : ℕ) → Has (explained loaded) (Line.Dead place) ↔ ((place < length loaded.policy.entries) × IsDead loaded.policy loaded.world place)
dead_exactly loaded place = (dead_told loaded place, λ d. told_dead loaded place d.0 d.1)
