-- What each decision rests on.
use Rattle.std.proofs.Common.{◌≡◌, ℕ, ◌==◌, Bool, true, false, ◌&&◌, ◌||◌, List, [], ◌∷◌, refl, ap, ◌∙◌, inl, inr, Option, Some, None, is_some, subst}
use Rattle.std.proofs.lemmas.Bool.Decides.{Decides-eqb}
use Rattle.std.specs.Prelude.{if◌then◌else◌, find, map, unwrap_or, ⊤}
use Rattle.std.specs.Option.{option_map_or}
use Rattle.std.specs.List.{enumerate_from}
use Rattle.pk_types.specs.declared.values.Implicit.{Implicit}
use Rattle.pk_types.specs.declared.values.Category.{Category}
use Rattle.glob_match.specs.Glob.{matches}
use Rattle.authority_model.specs.declared.verdict.RuleSource.{RuleSource}
use Rattle.authority_model.specs.declared.verdict.Reason.{Reason}
use Rattle.authority_model.specs.declared.policy.Policy.{Policy}
use Rattle.authority_model.specs.declared.policy.Action.{Action}
use Rattle.authority_model.specs.declared.policy.RuleEntry.{RuleEntry}
use Rattle.authority_model.specs.Words.{Bytes, least_text, comes_before}
use Rattle.authority_model.specs.Lists.{Has, or_else, any_of}
use Rattle.authority_model.specs.Values.{is_yes, is_auth}
use Rattle.authority_model.specs.Facts.{Facts}
use Rattle.authority_model.specs.Rules.{value_by, value_of, default_of, deciding, greatest, last_at, places, action_of, annotates, matches_at}
use Rattle.authority_model.specs.declared.journal.Item.{Item}
use Rattle.authority_model.specs.Items.{world_of, policy_of, implicit_for}
use Rattle.authority_model.specs.declared.verdict.GrantRow.{GrantRow}
use Rattle.authority_model.specs.Deciding.{Decision, decided, by_grant, by_imply, by_value, own, implying, implies, imply_key, serves}
use Rattle.authority_model.specs.Verdicts.{reason_of, verdict_of}
use Rattle.authority_model.specs.Grants.{kept}
use Rattle.authority_model.specs.Licensed.{ByDefault, ByEntry, ByImply, OwnPermits, Permits}
use Rattle.authority_model.proofs.Cases.{by_test, map_some, both, find_has, find_last_passes, filter_has}

-- a value that is yes
pub yes_is : (v : Implicit) → is_yes v ≡ true → v ≡ Implicit.Yes
yes_is Implicit.Yes e = refl
yes_is Implicit.No e = absurd (cc)
yes_is Implicit.AuthSelf e = absurd (cc)
yes_is Implicit.AuthAdmin e = absurd (cc)
yes_is Implicit.AuthSelfKeep e = absurd (cc)
yes_is Implicit.AuthAdminKeep e = absurd (cc)

-- a deciding rule has a value for the category
pub greatest_value : (policy : Policy) (action : Bytes) (category : Category) (labels : List Bytes) (e : ℕ × RuleEntry) → greatest policy action category labels ≡ Some e → is_some (value_of e.1 category) ≡ true
greatest_value policy action category [] e is = absurd (cc)
greatest_value policy action category (label ∷ labels) e is = go (greatest policy action category labels) (greatest_value policy action category labels e) is
  where
    go : (o : Option (ℕ × RuleEntry)) → (o ≡ Some e → is_some (value_of e.1 category) ≡ true) → or_else o (last_at policy action category label) ≡ Some e → is_some (value_of e.1 category) ≡ true
    go (Some x) ih is = ih is
    go None ih is =
        let passes = find_last_passes (λ (x : ℕ × RuleEntry). matches_at label action category x.1) (enumerate_from 0 policy.entries) e is in
        (both (any_of (λ p. matches p label) e.1.identities && any_of (λ p. matches p action) e.1.actions) (is_some (value_of e.1 category)) passes).1

-- a yes by a value, by what gave it
abbrev pub ByValue : List Item → Facts → Bytes → RuleSource → Type 0
ByValue past f a (RuleSource.Default category) = (f.category ≡ category) × ByDefault past f a
ByValue past f a (RuleSource.Entry place) = ByEntry past f a place

-- a yes by a value has its default or its rule
pub by_value_yes : (past : List Item) (f : Facts) (a : Bytes) (v : Implicit × RuleSource) → implicit_for past f a ≡ Some v → is_yes v.0 ≡ true → ByValue past f a v.1
by_value_yes past f a v is ok =
    let found = map_some (λ (x : Action). value_by f.category x (deciding (policy_of past) (world_of past) f.uid f.category a)) (action_of (policy_of past) a) v is in
    go found.0 found.1 (deciding (policy_of past) (world_of past) f.uid f.category a) refl found.2
  where
    by_entry : (x : Action) (e : ℕ × RuleEntry) → deciding (policy_of past) (world_of past) f.uid f.category a ≡ Some e → (o : Option Implicit) → value_of e.1 f.category ≡ o → is_some o ≡ true → (unwrap_or o (default_of x f.category), RuleSource.Entry e.0) ≡ v → ByValue past f a v.1
    by_entry x e d None o some same = absurd (cc)
    by_entry x e d (Some value) o some same =
        let there : ByEntry past f a e.0 = record { entry = e.1; found = d; yes = o ∙ ap Some (yes_is value (ap (λ (w : Implicit × RuleSource). is_yes w.0) same ∙ ok)) } in
        subst (ByValue past f a) (ap (λ (w : Implicit × RuleSource). w.1) same) there

    go : (x : Action) → action_of (policy_of past) a ≡ Some x → (o : Option (ℕ × RuleEntry)) → deciding (policy_of past) (world_of past) f.uid f.category a ≡ o → value_by f.category x o ≡ v → ByValue past f a v.1
    go x there None d same =
        let fact : ByDefault past f a = record { action = x; found = there; none = d; yes = yes_is (default_of x f.category) (ap (λ (w : Implicit × RuleSource). is_yes w.0) same ∙ ok) } in
        subst (ByValue past f a) (ap (λ (w : Implicit × RuleSource). w.1) same) (refl, fact)
    go x there (Some e) d same = by_entry x e d (value_of e.1 f.category) refl (greatest_value (policy_of past) a f.category (places (world_of past) f.uid) e d) same

-- an own permission
pub own_permits : (past : List Item) (f : Facts) (t : ℕ) (b : Bytes) → own past (kept past) f t b ≡ true → OwnPermits past f b t
own_permits past f t b e = by_parts (implicit_for past f b) refl (find (serves f.key b t) (kept past)) refl e
  where
    to_own : (s : RuleSource) → ByValue past f b s → OwnPermits past f b t
    to_own (RuleSource.Default category) h = inl h.1
    to_own (RuleSource.Entry place) h = inr (inl (place, h))

    by_parts : (o : Option (Implicit × RuleSource)) → implicit_for past f b ≡ o → (g : Option GrantRow) → find (serves f.key b t) (kept past) ≡ g → (option_map_or (λ v. is_yes v.0) o false || is_some g) ≡ true → OwnPermits past f b t
    by_parts o is (Some g) gis e = let found = find_has (serves f.key b t) (kept past) g gis in inr (inr (g.id, record { grant = g; kept = found.0; serves = found.1; number_is = refl }))
    by_parts (Some v) is None gis e = by_yes v is (is_yes v.0) refl e
      where
        by_yes : (v : Implicit × RuleSource) → implicit_for past f b ≡ Some v → (y : Bool) → is_yes v.0 ≡ y → (y || false) ≡ true → OwnPermits past f b t
        by_yes v is true y e = to_own v.1 (by_value_yes past f b v is y)
        by_yes v is false y e = absurd (cc)
    by_parts None is None gis e = absurd (cc)

-- the least text is one of them
pub least_text_has : (xs : List Bytes) (b : Bytes) → least_text xs ≡ Some b → Has xs b
least_text_has [] b e = absurd (cc)
least_text_has (x ∷ xs) b e = go (least_text xs) (least_text_has xs) e
  where
    go : (o : Option Bytes) → ((c : Bytes) → o ≡ Some c → Has xs c) → Some (option_map_or (λ y. if comes_before y x then y else x) o x) ≡ Some b → Has (x ∷ xs) b
    go None ih e = inl (cc)
    go (Some y) ih e = by_first (comes_before y x) e
      where
        by_first : (first : Bool) → Some (if first then y else x) ≡ Some b → Has (x ∷ xs) b
        by_first true e = inr (ih b (cc))
        by_first false e = inl (cc)

-- what a decision rests on
abbrev pub Backed : List Item → Facts → Bytes → ℕ → Decision → Type 0
Backed past f a t Decision.Root = Permits past f a t Reason.Root
Backed past f a t (Decision.Yes source) = Permits past f a t (reason_of source)
Backed past f a t (Decision.Granted g) = Permits past f a t (Reason.Grant g)
Backed past f a t (Decision.Imply b) = Permits past f a t (Reason.Imply b)
Backed past f a t (Decision.Challenge value source) = (implicit_for past f a ≡ Some (value, source)) × (is_auth value ≡ true)
Backed past f a t (Decision.No source) = ⊤

-- each decision rests on what it names
pub decided_backed : (past : List Item) (f : Facts) (t : ℕ) (a : Bytes) (v : Implicit × RuleSource) → implicit_for past f a ≡ Some v → Backed past f a t (decided past (kept past) f t a v)
decided_backed past f t a v is =
    by_test (Backed past f a t) (f.uid == 0) _ _ (λ root. (Decides-eqb f.uid 0).0 root) (λ _.
    by_test (Backed past f a t) (is_yes v.0) _ _ (λ ok. of_source v.1 (by_value_yes past f a v is ok)) (λ _.
    of_grant (find (serves f.key a t) (kept past)) refl (least_text (implying past (kept past) f t a)) refl))
  where
    of_source : (s : RuleSource) → ByValue past f a s → Backed past f a t (Decision.Yes s)
    of_source (RuleSource.Default category) h = h
    of_source (RuleSource.Entry place) h = h

    of_value : Backed past f a t (by_value v.0 v.1)
    of_value = by_test (Backed past f a t) (is_auth v.0) (Decision.Challenge v.0 v.1) (Decision.No v.1) (λ auth. (is, auth)) (λ _. tt)

    of_imply : (o : Option Bytes) → least_text (implying past (kept past) f t a) ≡ o → Backed past f a t (by_imply o v.0 v.1)
    of_imply None e = of_value
    of_imply (Some b) e =
        let passes = filter_has (λ (b : Bytes). implies past b a && own past (kept past) f t b) (map (λ (x : Action). x.id) (policy_of past).actions) b (least_text_has (implying past (kept past) f t a) b e) in
        let parts = both (implies past b a) (own past (kept past) f t b) passes.1 in
        by_first b (action_of (policy_of past) b) refl parts.0 (own_permits past f t b parts.1)
      where
        by_first : (b : Bytes) (o : Option Action) → action_of (policy_of past) b ≡ o → option_map_or (λ x. annotates x imply_key a) o false ≡ true → OwnPermits past f b t → ByImply past f a t b
        by_first b None there e h = absurd (cc)
        by_first b (Some x) there e h = record { action = x; found = there; implies = e; own = h }

    of_grant : (g : Option GrantRow) → find (serves f.key a t) (kept past) ≡ g → (o : Option Bytes) → least_text (implying past (kept past) f t a) ≡ o → Backed past f a t (by_grant g o v.0 v.1)
    of_grant None e o is = of_imply o is
    of_grant (Some g) e o is = let found = find_has (serves f.key a t) (kept past) g e in record { grant = g; kept = found.0; serves = found.1; number_is = refl }

-- a yes of a decision is permitted by its reason
pub backed_verdict : (past : List Item) (f : Facts) (a : Bytes) (t : ℕ) (d : Decision) → Backed past f a t d → (verdict_of past d).yes ≡ true → Permits past f a t (verdict_of past d).reason
backed_verdict past f a t Decision.Root h ok = h
backed_verdict past f a t (Decision.Yes source) h ok = h
backed_verdict past f a t (Decision.Granted g) h ok = h
backed_verdict past f a t (Decision.Imply b) h ok = h
backed_verdict past f a t (Decision.Challenge value source) h ok = absurd (cc)
backed_verdict past f a t (Decision.No source) h ok = absurd (cc)
