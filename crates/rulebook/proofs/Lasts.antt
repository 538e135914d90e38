-- The last rule that passes a test, among rules that are listed by their places.
use Rattle.std.proofs.Common.{◌≡◌, ℕ, suc, ◌+◌, ◌<◌, ◌≤◌, nat_lt, Bool, true, false, true≢false, cond, not, ◌&&◌, ◌||◌, List, [], ◌∷◌, ◌++◌, length, take, get_or, Option, Some, None, refl, sym, ap, ◌∙◌, arith, is_some, filter, slice_get, option_map, option_to_list, bytes_eq}
use Rattle.std.specs.Prelude.{if◌then◌else◌}
use Rattle.std.specs.List.{enumerate_from}
use Rattle.std.proofs.lemmas.Bool.Decides.{nat_tests}
use Rattle.std.proofs.lemmas.List.{take_more}
use Rattle.std.proofs.lemmas.Grind.{flat_map-append}
use Rattle.pk_types.specs.Text.{IsText}
use Rattle.pk_types.specs.declared.values.Category.{Category}
use Rattle.glob_match.specs.Glob.{matches}
use Rattle.authority_model.specs.declared.policy.Policy.{Policy}
use Rattle.authority_model.specs.declared.policy.RuleEntry.{RuleEntry}
use Rattle.authority_model.specs.Lists.{or_else, when, find_last, any_of, Each}
use Rattle.authority_model.specs.Rules.{matches_at, last_at, value_of}
use Rattle.authority_model.specs.Words.{Bytes}
use Rattle.policy_decide.proofs.Lasts.{or_else-none, or_else-or_else}
use Rattle.rulebook.specs.declared.index.RuleIndex.{RuleIndex}
use Rattle.rulebook.specs.Indexes.{is_exact, names, has_pattern, places_from, rows_at, later, listed, IsIndexOf}
use Rattle.rulebook.proofs.Exact.{both, exact_is}

-- a rule with its place
abbrev pub Row : Type 0
Row = ℕ × RuleEntry

-- the last of two lists: that of the second, or else that of the first
pub find_last-append : (test : Row → Bool) (xs ys : List Row) → find_last test (xs ++ ys) ≡ or_else (find_last test ys) (find_last test xs)
find_last-append test [] ys = sym (or_else-none (find_last test ys))
find_last-append test (x ∷ xs) ys = ap (λ o. or_else o (when (test x) x)) (find_last-append test xs ys) ∙ or_else-or_else (find_last test ys) (find_last test xs) (when (test x) x)

-- the last at the first `j` places, where the `j`-th place is that at `i`: the rule there, or else the last at the first `i`
pub last-take : (test : Row → Bool) (entries : List RuleEntry) (places : List ℕ) (i j : ℕ) → j ≡ i + 1 → i < length places
    → find_last test (rows_at entries (take j places)) ≡ or_else (find_last test (rows_at entries (get_or places i 0 ∷ []))) (find_last test (rows_at entries (take i places)))
last-take test entries places i j next within =
    let row : ℕ → List Row = λ p. option_to_list (option_map (λ e. (p, e)) (slice_get entries p)) in
    ap (λ k. find_last test (rows_at entries (take k places))) next
    ∙ ap (λ ps. find_last test (rows_at entries ps)) (take_more places i 0 within)
    ∙ ap (find_last test) (flat_map-append row (take i places) (get_or places i 0 ∷ []))
    ∙ find_last-append test (rows_at entries (take i places)) (rows_at entries (get_or places i 0 ∷ []))

last_at_place : (test : Row → Bool) (entries : List RuleEntry) (places : List ℕ) (i j : ℕ) (o : Option RuleEntry) → j ≡ i + 1 → i < length places → o ≡ slice_get entries (get_or places i 0)
    → find_last test (rows_at entries (take j places))
    ≡ or_else (find_last test (option_to_list (option_map (λ e. (get_or places i 0, e)) o) ++ [])) (find_last test (rows_at entries (take i places)))
last_at_place test entries places i j o next within is =
    last-take test entries places i j next within
    ∙ ap (λ r. or_else (find_last test (option_to_list (option_map (λ e. (get_or places i 0, e)) r) ++ [])) (find_last test (rows_at entries (take i places)))) (sym is)

-- where the rule at the `j`-th place passes, it is the last
pub last-here : (test : Row → Bool) (entries : List RuleEntry) (places : List ℕ) (i j : ℕ) (e : RuleEntry) → j ≡ i + 1 → i < length places → Some e ≡ slice_get entries (get_or places i 0)
    → test (get_or places i 0, e) ≡ true → find_last test (rows_at entries (take j places)) ≡ Some (get_or places i 0, e)
last-here test entries places i j e next within is passes =
    last_at_place test entries places i j (Some e) next within is
    ∙ ap (λ b. or_else (when b (get_or places i 0, e)) (find_last test (rows_at entries (take i places)))) passes

-- where the rule at the `j`-th place fails, the last is at one of the first `i`
pub last-passed_over : (test : Row → Bool) (entries : List RuleEntry) (places : List ℕ) (i j : ℕ) (e : RuleEntry) → j ≡ i + 1 → i < length places → Some e ≡ slice_get entries (get_or places i 0)
    → test (get_or places i 0, e) ≡ false → find_last test (rows_at entries (take j places)) ≡ find_last test (rows_at entries (take i places))
last-passed_over test entries places i j e next within is fails =
    last_at_place test entries places i j (Some e) next within is
    ∙ ap (λ b. or_else (when b (get_or places i 0, e)) (find_last test (rows_at entries (take i places)))) fails

-- where there is no rule at the `j`-th place, the last is at one of the first `i`
pub last-absent : (test : Row → Bool) (entries : List RuleEntry) (places : List ℕ) (i j : ℕ) → j ≡ i + 1 → i < length places → None ≡ slice_get entries (get_or places i 0)
    → find_last test (rows_at entries (take j places)) ≡ find_last test (rows_at entries (take i places))
last-absent test entries places i j next within is = last_at_place test entries places i j None next within is

placed : (all : List RuleEntry) (b : Bool) (n : ℕ) (e : RuleEntry) (ps : List ℕ) (rows : List Row) → slice_get all n ≡ Some e → rows_at all ps ≡ rows
    → rows_at all (if b then n ∷ ps else ps) ≡ cond b ((n, e) ∷ rows) rows
placed all true n e ps rows at same = ap (λ o. option_to_list (option_map (λ x. (n, x)) o) ++ rows_at all ps) at ∙ ap (λ r. (n, e) ∷ r) same
placed all false n e ps rows at same = same

-- the rules at the places of those that pass are those that pass
rows_of_places : (sel : RuleEntry → Bool) (n : ℕ) (es all : List RuleEntry) → ((k : ℕ) → slice_get all (n + k) ≡ slice_get es k)
    → rows_at all (places_from n sel es) ≡ filter (λ (x : Row). sel x.1) (enumerate_from n es)
rows_of_places sel n [] all at = refl
rows_of_places sel n (e ∷ es) all at =
    let here : n ≡ n + 0 = omega arith in
    placed all (sel e) n e (places_from (n + 1) sel es) (filter (λ (x : Row). sel x.1) (enumerate_from (n + 1) es)) (ap (slice_get all) here ∙ at 0)
    (rows_of_places sel (n + 1) es all (λ k. let next : n + 1 + k ≡ n + suc k = omega arith in ap (slice_get all) next ∙ at (suc k)))

kept_last : (b : Bool) (test : Row → Bool) (x : Row) (xs : List Row) (o : Option Row) → find_last test xs ≡ o
    → find_last test (cond b (x ∷ xs) xs) ≡ or_else o (when (b && test x) x)
kept_last true test x xs o same = ap (λ r. or_else r (when (test x) x)) same
kept_last false test x xs o same = same ∙ sym (or_else-none o)

-- the last that passes among those that are kept passes both tests
last-filter : (sel test : Row → Bool) (xs : List Row) → find_last test (filter sel xs) ≡ find_last (λ x. sel x && test x) xs
last-filter sel test [] = refl
last-filter sel test (x ∷ xs) = kept_last (sel x) test x (filter sel xs) (find_last (λ y. sel y && test y) xs) (last-filter sel test xs)

-- the last at the places of the rules that pass `sel`
last-listed : (sel : RuleEntry → Bool) (test : Row → Bool) (entries : List RuleEntry)
    → find_last test (rows_at entries (places_from 0 sel entries)) ≡ find_last (λ x. sel x.1 && test x) (enumerate_from 0 entries)
last-listed sel test entries =
    ap (find_last test) (rows_of_places sel 0 entries entries (λ k. let same : 0 + k ≡ k = omega arith in ap (slice_get entries) same))
    ∙ last-filter (λ (x : Row). sel x.1) test (enumerate_from 0 entries)

-- a rule that is there has at least this place
abbrev AtLeast : ℕ → Option Row → Type 0
AtLeast n None = Unit {0}
AtLeast n (Some a) = n ≤ a.0

at_least-or : (n : ℕ) (b : Bool) (o : Option Row) (x : Row) → n ≤ x.0 → AtLeast (n + 1) o → AtLeast n (or_else o (when b x))
at_least-or n b (Some a) x le more = omega arith
at_least-or n true None x le more = le
at_least-or n false None x le more = tt

last_place : (test : Row → Bool) (n : ℕ) (es : List RuleEntry) → AtLeast n (find_last test (enumerate_from n es))
last_place test n [] = tt
last_place test n (e ∷ es) = at_least-or n (test (n, e)) (find_last test (enumerate_from (n + 1) es)) (n, e) (omega arith) (last_place test (n + 1) es)

same_either : {A : Type 0} (b : Bool) (x : A) → x ≡ (if b then x else x)
same_either true x = refl
same_either false x = refl

first_found : (b : Bool) (x y : Row) (o : Option Row) → or_else (if b then Some x else Some y) o ≡ (if b then Some x else Some y)
first_found true x y o = refl
first_found false x y o = refl

less : (m n : ℕ) → m < n → nat_lt m n ≡ true
less m n le = grind (arith, nat_tests)

not_less : (m n : ℕ) → n ≤ m → nat_lt m n ≡ false
not_less m n le = grind (arith, nat_tests)

later_step : (a b : Option Row) (f g : Bool) (x : Row) → AtLeast (x.0 + 1) a → AtLeast (x.0 + 1) b
    → or_else (later a b) (when (f || g) x) ≡ later (or_else a (when f x)) (or_else b (when g x))
later_step None None true true x low up = same_either (nat_lt x.0 x.0) (Some x)
later_step None None true false x low up = refl
later_step None None false true x low up = refl
later_step None None false false x low up = refl
later_step None (Some b) true g x low up = sym (ap (λ t. if t then Some b else Some x) (less x.0 b.0 (omega arith)))
later_step None (Some b) false g x low up = refl
later_step (Some a) None f true x low up = sym (ap (λ t. if t then Some x else Some a) (not_less a.0 x.0 (omega arith)))
later_step (Some a) None f false x low up = refl
later_step (Some a) (Some b) f g x low up = first_found (nat_lt a.0 b.0) b a (when (f || g) x)

-- the last that passes one of two tests is the later of the last that passes each
later_last : (f g : Row → Bool) (n : ℕ) (es : List RuleEntry)
    → find_last (λ x. f x || g x) (enumerate_from n es) ≡ later (find_last f (enumerate_from n es)) (find_last g (enumerate_from n es))
later_last f g n [] = refl
later_last f g n (e ∷ es) =
    ap (λ o. or_else o (when (f (n, e) || g (n, e)) (n, e))) (later_last f g (n + 1) es)
    ∙ later_step (find_last f (enumerate_from (n + 1) es)) (find_last g (enumerate_from (n + 1) es)) (f (n, e)) (g (n, e)) (n, e) (last_place f (n + 1) es) (last_place g (n + 1) es)

-- tests that agree on each rule have the same last
last-same : (n : ℕ) (t u : RuleEntry → Bool) (es : List RuleEntry) → Each (λ e. t e ≡ u e) es
    → find_last (λ (x : Row). t x.1) (enumerate_from n es) ≡ find_last (λ (x : Row). u x.1) (enumerate_from n es)
last-same n t u [] same = refl
last-same n t u (e ∷ es) same =
    ap (λ o. or_else o (when (t e) (n, e))) (last-same (n + 1) t u es same.1) ∙ ap (λ b. or_else (find_last (λ (x : Row). u x.1) (enumerate_from (n + 1) es)) (when b (n, e))) same.0

or_true : (b : Bool) → (b || true) ≡ true
or_true true = refl
or_true false = refl

covered_step : (m x y r a b : Bool) → (m || r) ≡ true → (m ≡ true → x ≡ true → y ≡ true) → (r ≡ true → (a || b) ≡ true) → (((x && y) || a) || (not x || b)) ≡ true
covered_step m false y r a b any head tail = or_true a
covered_step m true true r a b any head tail = refl
covered_step true true false r a b any head tail = absurd (true≢false (sym (head refl refl)))
covered_step false true false r a b any head tail = tail any

-- a label that one of these globs matches is an exact one of them, or one of them is a pattern
covered : (label : Bytes) (globs : List Bytes) → IsText label → Each IsText globs → any_of (λ glob. matches glob label) globs ≡ true
    → (any_of (λ glob. is_exact glob && bytes_eq glob label) globs || any_of (λ glob. not (is_exact glob)) globs) ≡ true
covered label [] text texts any = absurd (true≢false (sym any))
covered label (glob ∷ globs) text texts any =
    covered_step (matches glob label) (is_exact glob) (bytes_eq glob label) (any_of (λ g. matches g label) globs) _ _ any
    (λ fits exact. exact_is glob label texts.0 text exact fits) (covered label globs text texts.1)

split : (m n h : Bool) → (m ≡ true → (n || h) ≡ true) → m ≡ ((n && m) || (h && m))
split false true true cover = refl
split false true false cover = refl
split false false true cover = refl
split false false false cover = refl
split true true h cover = refl
split true false true cover = refl
split true false false cover = absurd (true≢false (sym (cover refl)))

first_of : (a b c : Bool) → (a && b && c) ≡ true → a ≡ true
first_of a b c e = (both a b (both (a && b) c e).0).0

-- each rule that matches is listed under the label or has a pattern
each_listed : (label action : Bytes) (category : Category) (es : List RuleEntry) → IsText label → Each (λ e. Each IsText e.identities) es
    → Each (λ e. matches_at label action category e ≡ ((names label e && matches_at label action category e) || (has_pattern e && matches_at label action category e))) es
each_listed label action category [] text texts = tt
each_listed label action category (e ∷ es) text texts = (
  split (matches_at label action category e) (names label e) (has_pattern e)
      (λ whole. covered label e.identities text texts.0 (first_of (any_of (λ glob. matches glob label) e.identities) (any_of (λ glob. matches glob action) e.actions) (is_some (value_of e category)) whole)),
  each_listed label action category es text texts.1,
)

-- the last rule that matches is the later of the last that does under the label and the last that does among those with a pattern
pub last_by_index : (policy : Policy) (index : RuleIndex) (label action : Bytes) (category : Category) (exact pattern : Option Row) → IsIndexOf policy index → IsText label
    → exact ≡ find_last (λ (place, entry). matches_at label action category entry) (rows_at policy.entries (listed index.exact.entries label))
    → pattern ≡ find_last (λ (place, entry). matches_at label action category entry) (rows_at policy.entries index.patterns)
    → later exact pattern ≡ last_at policy action category label
last_by_index policy index label action category exact pattern is text one other =
    let test : Row → Bool = λ (place, entry). matches_at label action category entry in
    let M : RuleEntry → Bool = matches_at label action category in
    ap (λ o. later o pattern) one
    ∙ ap (later (find_last test (rows_at policy.entries (listed index.exact.entries label)))) other
    ∙ ap (λ ps. later (find_last test (rows_at policy.entries ps)) (find_last test (rows_at policy.entries index.patterns))) (is.exact label)
    ∙ ap (λ ps. later (find_last test (rows_at policy.entries (places_from 0 (names label) policy.entries))) (find_last test (rows_at policy.entries ps))) is.patterns
    ∙ ap (λ o. later o (find_last test (rows_at policy.entries (places_from 0 has_pattern policy.entries)))) (last-listed (names label) test policy.entries)
    ∙ ap (λ o. later (find_last (λ (x : Row). names label x.1 && M x.1) (enumerate_from 0 policy.entries)) o) (last-listed has_pattern test policy.entries)
    ∙ sym (later_last (λ x. names label x.1 && M x.1) (λ x. has_pattern x.1 && M x.1) 0 policy.entries)
    ∙ sym (last-same 0 M (λ e. (names label e && M e) || (has_pattern e && M e)) policy.entries (each_listed label action category policy.entries text is.texts))
