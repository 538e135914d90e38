-- The numbers at each subject lead to its temporary authorizations, also after some end and after one is made.
use Rattle.std.proofs.Common.{◌≡◌, ℕ, ◌+◌, ◌<◌, ◌==◌, ◌&&◌, Bool, true, false, not, cond, List, [], ◌∷◌, ◌++◌, Option, Some, None, length, get_or, refl, sym, ap, ◌∙◌, subst, arith}
use Rattle.std.specs.Prelude.{find, filter, drop, bytes_eq}
use Rattle.std.specs.Option.{option_or}
use Rattle.std.specs.List.{cons_option}
use Rattle.std.proofs.lemmas.Bool.{ne_eqb}
use Rattle.std.proofs.lemmas.Bool.Decides.{Decides-eqb}
use Rattle.std.proofs.lemmas.List.{append-nil, at_drop_more}
use Rattle.std.proofs.lemmas.List.Elements.{filter-append, filter_map-append}
use Rattle.std.proofs.lemmas.Map.Entries.{option_filter}
use Rattle.authority_model.proofs.Cases.{both}
use Rattle.authority_model.specs.declared.key.Key.{Key}
use Rattle.authority_model.specs.declared.verdict.GrantRow.{GrantRow}
use Rattle.authority_model.specs.Keys.{same_key}
use Rattle.authority_model.specs.Lists.{Each, AtMostOne}
use Rattle.authority_model.specs.Words.{Bytes}
use Rattle.authority_model.specs.Deciding.{is_live_at, serves}
use Rattle.key_index.proofs.Comparing.{held_same, turned}
use Rattle.key_index.proofs.Keyed.{find_filter_none}
use Rattle.key_index.specs.declared.keys.KeyOf.{KeyOf}
use Rattle.key_index.specs.contracts.keys.KeyOfPartialEq.TheImpl as derived
use Rattle.key_index.specs.contracts.keys.KeyOfEq.TheImpl.Laws.{laws-law}
use Rattle.key_index.specs.Held.{key_held}
use Rattle.grant_store.specs.Listed.{KeyNumbers, numbers_at, rows_under, is_of, KeepsNumbers, LeadTo, AreListed}
use Rattle.grant_store.proofs.Above.{none_numbered}

-- a search finds the same among those that pass a test, where all that it seeks pass
find_among : {A : Type 0} (test among : A → Bool) → ((x : A) → test x ≡ true → among x ≡ true) → (xs : List A) → find test (filter among xs) ≡ find test xs
find_among test among within [] = refl
find_among {A} test among within (x ∷ xs) = go (test x) (among x) refl (within x) (find_among test among within xs)
  where
    go : (b c : Bool) → test x ≡ b → (test x ≡ true → c ≡ true) → find test (filter among xs) ≡ find test xs → find test (cond c (x ∷ filter among xs) (filter among xs)) ≡ cond b (Some x) (find test xs)
    go b true is passes rest = ap (λ t. cond t (Some x) (find test (filter among xs))) is ∙ ap (cond b (Some x)) rest
    go true false is passes rest = let no : false ≡ true = passes is in absurd (cc)
    go false false is passes rest = rest

-- two tests in either order
filter_swap : {A : Type 0} (p q : A → Bool) (xs : List A) → filter p (filter q xs) ≡ filter q (filter p xs)
filter_swap p q [] = refl
filter_swap {A} p q (x ∷ xs) = go (p x) (q x) refl refl (filter_swap p q xs)
  where
    go : (b c : Bool) → p x ≡ b → q x ≡ c → filter p (filter q xs) ≡ filter q (filter p xs) → filter p (cond c (x ∷ filter q xs) (filter q xs)) ≡ filter q (cond b (x ∷ filter p xs) (filter p xs))
    go true true by_p by_q rest =
        ap (λ t. cond t (x ∷ filter p (filter q xs)) (filter p (filter q xs))) by_p ∙ ap (λ ys. x ∷ ys) rest ∙ sym (ap (λ t. cond t (x ∷ filter q (filter p xs)) (filter q (filter p xs))) by_q)
    go true false by_p by_q rest = rest ∙ sym (ap (λ t. cond t (x ∷ filter q (filter p xs)) (filter q (filter p xs))) by_q)
    go false true by_p by_q rest = ap (λ t. cond t (x ∷ filter p (filter q xs)) (filter p (filter q xs))) by_p ∙ rest
    go false false by_p by_q rest = rest

-- where at most one passes, a search among those that stay finds it if it stays
find_kept : {A : Type 0} (test stays : A → Bool) (xs : List A) → AtMostOne test xs → find test (filter stays xs) ≡ option_filter stays (find test xs)
find_kept test stays [] one = refl
find_kept {A} test stays (x ∷ xs) one = go (test x) (stays x) refl refl (find_kept test stays xs one.1)
  where
    go : (b s : Bool) → test x ≡ b → stays x ≡ s → find test (filter stays xs) ≡ option_filter stays (find test xs) → find test (cond s (x ∷ filter stays xs) (filter stays xs)) ≡ option_filter stays (cond b (Some x) (find test xs))
    go true true hit stay rest = ap (λ t. cond t (Some x) (find test (filter stays xs))) hit ∙ sym (ap (λ t. cond t (Some x) None) stay)
    go true false hit stay rest = find_filter_none test stays xs (one.0 hit) ∙ sym (ap (λ t. cond t (Some x) None) stay)
    go false true hit stay rest = ap (λ t. cond t (Some x) (find test (filter stays xs))) hit ∙ rest
    go false false hit stay rest = rest

-- at most one passes among those that stay
one_kept : {A : Type 0} (test stays : A → Bool) (xs : List A) → AtMostOne test xs → AtMostOne test (filter stays xs)
one_kept test stays [] one = tt
one_kept {A} test stays (x ∷ xs) one = go (stays x) (one_kept test stays xs one.1)
  where
    go : (s : Bool) → AtMostOne test (filter stays xs) → AtMostOne test (cond s (x ∷ filter stays xs) (filter stays xs))
    go true rest = (λ hit. find_filter_none test stays xs (one.0 hit), rest)
    go false rest = rest

-- a search with one more at the end
find_push : {A : Type 0} (test : A → Bool) (xs : List A) (x : A) → find test (xs ++ x ∷ []) ≡ option_or (find test xs) (cond (test x) (Some x) None)
find_push test [] x = refl
find_push {A} test (y ∷ xs) x = go (test y) (find_push test xs x)
  where
    go : (b : Bool) → find test (xs ++ x ∷ []) ≡ option_or (find test xs) (cond (test x) (Some x) None) → cond b (Some y) (find test (xs ++ x ∷ [])) ≡ option_or (cond b (Some y) (find test xs)) (cond (test x) (Some x) None)
    go true rest = refl
    go false rest = rest

-- the same where it is not sought
find_before : {A : Type 0} (test : A → Bool) (xs : List A) (x : A) → test x ≡ false → find test (xs ++ x ∷ []) ≡ find test xs
find_before {A} test xs x miss = find_push test xs x ∙ ap (λ b. option_or (find test xs) (cond b (Some x) None)) miss ∙ alone (find test xs)
  where
    alone : (o : Option A) → option_or o None ≡ o
    alone None = refl
    alone (Some y) = refl

-- and where it alone is
find_last : {A : Type 0} (test : A → Bool) (xs : List A) (x : A) → find test xs ≡ None → test x ≡ true → find test (xs ++ x ∷ []) ≡ Some x
find_last test xs x none hit = find_push test xs x ∙ ap (λ o. option_or o (cond (test x) (Some x) None)) none ∙ ap (λ b. cond b (Some x) None) hit

-- what is for a subject and an action is for the subject
served : (key : Key) (action : Bytes) (t : ℕ) (g : GrantRow) → serves key action t g ≡ true → is_of key g ≡ true
served key action t g is = (both (is_of key g) (bytes_eq g.action action) (both (is_of key g && bytes_eq g.action action) (is_live_at t g) is).0).0

-- the one that serves is found under the numbers
pub find_under : (key : Key) (action : Bytes) (t : ℕ) (items : List GrantRow) (numbers : List ℕ) → LeadTo items key numbers → find (serves key action t) (rows_under items numbers) ≡ find (serves key action t) items
find_under key action t items numbers lead =
    sym (find_among (serves key action t) (is_of key) (served key action t) (rows_under items numbers)) ∙ ap (find (serves key action t)) lead ∙ find_among (serves key action t) (is_of key) (served key action t) items

-- a search under numbers, of which the first is looked at before the others
under_first : (test : GrantRow → Bool) (items : List GrantRow) (n : ℕ) (numbers : List ℕ) → find test (rows_under items (n ∷ numbers)) ≡ option_or (find test (rows_under items (n ∷ []))) (find test (rows_under items numbers))
under_first test items n numbers = go (find (λ g. g.id == n) items)
  where
    by : (g : GrantRow) (b : Bool) (o : Option GrantRow) → cond b (Some g) o ≡ option_or (cond b (Some g) None) o
    by g true o = refl
    by g false o = refl

    go : (o : Option GrantRow) → find test (cons_option o (rows_under items numbers)) ≡ option_or (find test (cons_option o [])) (find test (rows_under items numbers))
    go None = refl
    go (Some g) = by g (test g) (find test (rows_under items numbers))

-- the same of the numbers from a place on
under_next : (test : GrantRow → Bool) (items : List GrantRow) (numbers : List ℕ) (i : ℕ) → i < length numbers
    → find test (rows_under items (drop i numbers)) ≡ option_or (find test (rows_under items (get_or numbers i 0 ∷ []))) (find test (rows_under items (drop (i + 1) numbers)))
under_next test items numbers i inside = at_drop_more (λ ns. find test (rows_under items ns)) numbers i 0 inside ∙ under_first test items (get_or numbers i 0) (drop (i + 1) numbers)

-- the first of them is found at a place, where no earlier one was
pub under_hit : (test : GrantRow → Bool) (items : List GrantRow) (numbers : List ℕ) (i : ℕ) (g : GrantRow) → i < length numbers → Some g ≡ find test (rows_under items (get_or numbers i 0 ∷ []))
    → find test (rows_under items (drop i numbers)) ≡ find test (rows_under items numbers) → Some g ≡ find test (rows_under items numbers)
under_hit test items numbers i g inside hit so_far = ap (λ o. option_or o (find test (rows_under items (drop (i + 1) numbers)))) hit ∙ sym (under_next test items numbers i inside) ∙ so_far

-- it is further on
pub under_miss : (test : GrantRow → Bool) (items : List GrantRow) (numbers : List ℕ) (i : ℕ) → i < length numbers → None ≡ find test (rows_under items (get_or numbers i 0 ∷ []))
    → find test (rows_under items (drop i numbers)) ≡ find test (rows_under items numbers) → find test (rows_under items (drop (i + 1) numbers)) ≡ find test (rows_under items numbers)
under_miss test items numbers i inside miss so_far = ap (λ o. option_or o (find test (rows_under items (drop (i + 1) numbers)))) miss ∙ sym (under_next test items numbers i inside) ∙ so_far

-- Some end.

-- of the rows under numbers those are left that stay
under_kept : (stays : GrantRow → Bool) (items : List GrantRow) (numbers : List ℕ) → ((n : ℕ) → AtMostOne (λ g. g.id == n) items) → rows_under (filter stays items) numbers ≡ filter stays (rows_under items numbers)
under_kept stays items [] apart = refl
under_kept stays items (n ∷ numbers) apart =
    ap (λ o. cons_option o (rows_under (filter stays items) numbers)) (find_kept (λ (g : GrantRow). g.id == n) stays items (apart n)) ∙ go (find (λ g. g.id == n) items) (under_kept stays items numbers apart)
  where
    by : (g : GrantRow) (s : Bool) (xs ys : List GrantRow) → xs ≡ ys → cons_option (cond s (Some g) None) xs ≡ cond s (g ∷ ys) ys
    by g true xs ys rest = ap (λ zs. g ∷ zs) rest
    by g false xs ys rest = rest

    go : (o : Option GrantRow) → rows_under (filter stays items) numbers ≡ filter stays (rows_under items numbers) → cons_option (option_filter stays o) (rows_under (filter stays items) numbers) ≡ filter stays (cons_option o (rows_under items numbers))
    go None rest = rest
    go (Some g) rest = by g (stays g) (rows_under (filter stays items) numbers) (filter stays (rows_under items numbers)) rest

-- the numbers lead to those that stay
listed_filter : (stays : GrantRow → Bool) (items : List GrantRow) (lists : KeyNumbers) → AreListed items lists → AreListed (filter stays items) lists
listed_filter stays items lists listed = record {
  apart = λ n. one_kept (λ (g : GrantRow). g.id == n) stays items (listed.apart n);
  lead = λ q.
      ap (filter (is_of (key_held q))) (under_kept stays items (numbers_at lists q) listed.apart) ∙ filter_swap (is_of (key_held q)) stays (rows_under items (numbers_at lists q)) ∙ ap (filter stays) (listed.lead q)
      ∙ filter_swap stays (is_of (key_held q)) items;
}

-- the same where these are those that are left
pub listed_without : (stays : GrantRow → Bool) (items later : List GrantRow) (lists : KeyNumbers) → later ≡ filter stays items → AreListed items lists → AreListed later lists
listed_without stays items later lists is listed = subst (λ xs. AreListed xs lists) (sym is) (listed_filter stays items lists listed)

-- no numbers lead to none
pub listed_none : (items : List GrantRow) (lists : KeyNumbers) → items ≡ [] → lists ≡ [] → AreListed items lists
listed_none items lists no_items no_lists = subst (λ xs. AreListed xs lists) (sym no_items) (subst (AreListed []) (sym no_lists) (record { apart = λ n. tt; lead = λ q. refl }))

-- One is made.

-- at most one has each number
one_made : (n : ℕ) (row : GrantRow) (items : List GrantRow) → Each (λ g. g.id < row.id) items → AtMostOne (λ g. g.id == n) items → AtMostOne (λ g. g.id == n) (items ++ row ∷ [])
one_made n row [] below one = (λ hit. refl, tt)
one_made n row (g ∷ items) below one = (
  λ hit. let same : g.id ≡ n = (Decides-eqb g.id n).0 hit in
      find_before (λ (g : GrantRow). g.id == n) items row (ne_eqb row.id n (λ e. omega (arith, e, same, below.0))) ∙ one.0 hit,
  one_made n row items below.1 one.1,
)

-- all other numbers lead where they led
under_others : (row : GrantRow) (items : List GrantRow) (numbers : List ℕ) → find (λ g. g.id == row.id) items ≡ None → rows_under (items ++ row ∷ []) (filter (λ n. not (n == row.id)) numbers) ≡ rows_under items numbers
under_others row items [] none = refl
under_others row items (n ∷ numbers) none = go (filter (λ n. not (n == row.id)) numbers) (n == row.id) refl (under_others row items numbers none)
  where
    go : (others : List ℕ) (b : Bool) → (n == row.id) ≡ b → rows_under (items ++ row ∷ []) others ≡ rows_under items numbers
        → rows_under (items ++ row ∷ []) (cond (not b) (n ∷ others) others) ≡ cons_option (find (λ g. g.id == n) items) (rows_under items numbers)
    go others true same rest = rest ∙ sym (ap (λ o. cons_option o (rows_under items numbers)) (ap (λ m. find (λ (g : GrantRow). g.id == m) items) ((Decides-eqb n row.id).0 same) ∙ none))
    go others false apart rest =
        ap (λ o. cons_option o (rows_under (items ++ row ∷ []) others)) (find_before (λ (g : GrantRow). g.id == n) items row (turned row.id n ∙ apart)) ∙ ap (cons_option (find (λ (g : GrantRow). g.id == n) items)) rest

-- numbers at other subjects lead where they led
under_same : (key : Key) (row : GrantRow) (items : List GrantRow) (numbers : List ℕ) → is_of key row ≡ false → filter (is_of key) (rows_under (items ++ row ∷ []) numbers) ≡ filter (is_of key) (rows_under items numbers)
under_same key row items [] other = refl
under_same key row items (n ∷ numbers) other =
    ap (λ o. filter (is_of key) (cons_option o (rows_under (items ++ row ∷ []) numbers))) (find_push (λ (g : GrantRow). g.id == n) items row) ∙ go (find (λ g. g.id == n) items) (row.id == n) (under_same key row items numbers other)
  where
    go : (o : Option GrantRow) (b : Bool) → filter (is_of key) (rows_under (items ++ row ∷ []) numbers) ≡ filter (is_of key) (rows_under items numbers)
        → filter (is_of key) (cons_option (option_or o (cond b (Some row) None)) (rows_under (items ++ row ∷ []) numbers)) ≡ filter (is_of key) (cons_option o (rows_under items numbers))
    go (Some g) b rest = ap (λ ys. cond (is_of key g) (g ∷ ys) ys) rest
    go None true rest = ap (λ b. cond b (row ∷ filter (is_of key) (rows_under (items ++ row ∷ []) numbers)) (filter (is_of key) (rows_under (items ++ row ∷ []) numbers))) other ∙ rest
    go None false rest = rest

-- the numbers lead to the one that is made, whose number stands at the end of those of its subject
pub listed_push : (row : GrantRow) (key : KeyOf) (items : List GrantRow) (lists later : KeyNumbers) → key_held key ≡ row.key → Each (λ g. g.id < row.id) items
    → ((q : KeyOf) → numbers_at later q ≡ cond (derived.ghosts.eq key q) (filter (λ n. not (n == row.id)) (numbers_at lists q) ++ row.id ∷ []) (numbers_at lists q)) → AreListed items lists → AreListed (items ++ row ∷ []) later
listed_push row key items lists later key_is below put listed = record {
  apart = λ n. one_made n row items below (listed.apart n);
  lead = λ q. go q (derived.ghosts.eq key q) refl;
}
  where
    none : find (λ g. g.id == row.id) items ≡ None
    none = none_numbered row.id items below

    of_row : (q : KeyOf) → derived.ghosts.eq key q ≡ is_of (key_held q) row
    of_row q = laws-law.symm key q ∙ held_same q key ∙ ap (λ k. same_key k (key_held q)) key_is

    go : (q : KeyOf) (b : Bool) → derived.ghosts.eq key q ≡ b → LeadTo (items ++ row ∷ []) (key_held q) (numbers_at later q)
    go q true own =
        let test : GrantRow → Bool = is_of (key_held q) in
        let others : List ℕ = filter (λ n. not (n == row.id)) (numbers_at lists q) in
        let last : rows_under (items ++ row ∷ []) (row.id ∷ []) ≡ row ∷ [] = ap (λ o. cons_option o []) (find_last (λ (g : GrantRow). g.id == row.id) items row none ((Decides-eqb row.id row.id).1 refl)) in
        ap (λ ns. filter test (rows_under (items ++ row ∷ []) ns)) (put q ∙ ap (λ b. cond b (others ++ row.id ∷ []) (numbers_at lists q)) own)
        ∙ ap (filter test) (filter_map-append (λ n. find (λ (g : GrantRow). g.id == n) (items ++ row ∷ [])) (others) (row.id ∷ []))
        ∙ ap (λ xs. filter test (xs ++ rows_under (items ++ row ∷ []) (row.id ∷ []))) (under_others row items (numbers_at lists q) none)
        ∙ ap (λ xs. filter test (rows_under items (numbers_at lists q) ++ xs)) last ∙ filter-append test (rows_under items (numbers_at lists q)) (row ∷ [])
        ∙ ap (λ xs. xs ++ filter test (row ∷ [])) (listed.lead q) ∙ sym (filter-append test items (row ∷ []))
    go q false other =
        let test : GrantRow → Bool = is_of (key_held q) in
        let others : List ℕ = filter (λ n. not (n == row.id)) (numbers_at lists q) in
        let not_of : is_of (key_held q) row ≡ false = sym (of_row q) ∙ other in
        ap (λ ns. filter test (rows_under (items ++ row ∷ []) ns)) (put q ∙ ap (λ b. cond b (others ++ row.id ∷ []) (numbers_at lists q)) other) ∙ under_same (key_held q) row items (numbers_at lists q) not_of ∙ listed.lead q
        ∙ sym (filter-append test items (row ∷ []) ∙ ap (λ b. filter test items ++ cond b (row ∷ []) []) not_of ∙ append-nil (filter test items))

-- the numbers lead where they led while they are the same
pub listed_along : (items later_items : List GrantRow) (lists later : KeyNumbers) → later_items ≡ items → KeepsNumbers lists later → AreListed items lists → AreListed later_items later
listed_along items later_items lists later is same listed =
    subst (λ xs. AreListed xs later) (sym is) (record { apart = listed.apart; lead = λ q. subst (LeadTo items (key_held q)) (sym (same q)) (listed.lead q) })
