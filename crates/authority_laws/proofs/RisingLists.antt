-- Live connections, pending challenges and temporary authorizations are in rising order.
use Rattle.std.proofs.Common.{◌≡◌, ℕ, suc, zero, ◌+◌, ◌<◌, ◌≤◌, Bool, true, false, not, List, [], ◌∷◌, ◌++◌, length, refl, ap, sym, ◌∙◌, inl, inr, Option, Some, None, is_some, ◌⊎◌, subst, arith}
use Rattle.std.proofs.lemmas.Bool.Decides.{Decides-eqb, Decides-ltb}
use Rattle.std.proofs.lemmas.List.{append-nil, map-append}
use Rattle.std.specs.Prelude.{◌==◌, ⊤, if◌then◌else◌, nat_lt, filter, map, option_to_list, slice_index}
use Rattle.std.specs.List.Sorted.{IsStrictlyIncreasing}
use borrow.Author.Tests.{ltb-false}
use Rattle.authority_model.specs.declared.journal.Item.{Item}
use Rattle.authority_model.specs.declared.pending.Pending.{Pending}
use Rattle.authority_model.specs.declared.verdict.GrantRow.{GrantRow}
use Rattle.authority_model.specs.Lists.{Has, Each, or_else}
use Rattle.authority_model.specs.Peers.{uid_given, is_by, connects, uid_of, departed, live, insert_rising, connected, live_connections}
use Rattle.authority_model.specs.Challenges.{opened, closes, with_answer, pending}
use Rattle.authority_model.specs.Grants.{ends_grant, granted, kept}
use Rattle.authority_model.specs.Legal.{Legal}
use Rattle.authority_model.proofs.Cases.{both, filter_has, Each-append}
use Rattle.authority_laws.proofs.GrantNumbers.{number_of_new, numbers_below}
use Rattle.authority_laws.proofs.Opening.{opening}

-- each number is below all that follow
abbrev Rises : List ℕ → Type 0
Rises [] = ⊤
Rises (n ∷ ns) = Each (λ m. n < m) ns × Rises ns

-- such a list is one that std calls strictly increasing
increasing : (ns : List ℕ) → Rises ns → IsStrictlyIncreasing ns
increasing [] r k below = absurd (omega arith)
increasing (n ∷ []) r zero below = absurd (omega arith)
increasing (n ∷ m ∷ ns) r zero below = r.0.0
increasing (n ∷ ns) r (suc k) below =
    let next : suc k + 1 ≡ suc (k + 1) = omega arith in
    subst (λ j. slice_index (n ∷ ns) (suc k) < slice_index (n ∷ ns) j) (sym next) (increasing ns r.1 k (omega arith))

each_filter : {A : Type 0} (P : A → Type 0) (test : A → Bool) (xs : List A) → Each P xs → Each P (filter test xs)
each_filter P test [] h = tt
each_filter {A} P test (x ∷ xs) h = of (test x) (each_filter P test xs h.1)
  where
    of : (b : Bool) → Each P (filter test xs) → Each P (if b then (x ∷ filter test xs) else filter test xs)
    of true ih = (h.0, ih)
    of false ih = ih

each_more : {A : Type 0} (P Q : A → Type 0) (xs : List A) → ((x : A) → P x → Q x) → Each P xs → Each Q xs
each_more P Q [] f h = tt
each_more P Q (x ∷ xs) f h = (f x h.0, each_more P Q xs f h.1)

rises_filter : (test : ℕ → Bool) (ns : List ℕ) → Rises ns → Rises (filter test ns)
rises_filter test [] r = tt
rises_filter test (n ∷ ns) r = of (test n) (rises_filter test ns r.1)
  where
    of : (b : Bool) → Rises (filter test ns) → Rises (if b then (n ∷ filter test ns) else filter test ns)
    of true ih = (each_filter (λ m. n < m) test ns r.0, ih)
    of false ih = ih

-- one more number, below which all others are
rises_push : (ns : List ℕ) (m : ℕ) → Rises ns → Each (λ n. n < m) ns → Rises (ns ++ m ∷ [])
rises_push [] m r below = (tt, tt)
rises_push (n ∷ ns) m r below = (Each-append (λ k. n < k) ns (m ∷ []) r.0 (below.0, tt), rises_push ns m r.1 below.1)

-- numbers in rising order, with one more
insert_each : (k n : ℕ) (ns : List ℕ) → k < n → Each (λ m. k < m) ns → Each (λ m. k < m) (insert_rising n ns)
insert_each k n [] lt h = (lt, tt)
insert_each k n (m ∷ ms) lt h = of (nat_lt n m) (n == m) (insert_each k n ms lt h.1)
  where
    of : (b e : Bool) → Each (λ m. k < m) (insert_rising n ms) → Each (λ m. k < m) (if b then n ∷ m ∷ ms else (if e then m ∷ ms else m ∷ insert_rising n ms))
    of true e ih = (lt, h)
    of false true ih = h
    of false false ih = (h.0, ih)

insert_rises : (n : ℕ) (ns : List ℕ) → Rises ns → Rises (insert_rising n ns)
insert_rises n [] r = (tt, tt)
insert_rises n (m ∷ ms) r = of (nat_lt n m) refl (n == m) refl (insert_rises n ms r.1)
  where
    of : (b : Bool) → nat_lt n m ≡ b → (e : Bool) → (n == m) ≡ e → Rises (insert_rising n ms) → Rises (if b then n ∷ m ∷ ms else (if e then m ∷ ms else m ∷ insert_rising n ms))
    of true is e same ih = let lt = (Decides-ltb n m).0 is in ((lt, each_more (λ k. m < k) (λ k. n < k) ms (λ k h. omega (arith, h, lt)) r.0), r)
    of false is true same ih = r
    of false is false same ih = (insert_each m n ms (over is same) r.0, ih)
      where
        over : nat_lt n m ≡ false → (n == m) ≡ false → m < n
        over is same =
            let least : m ≤ n = ltb-false n m is in
            let differ : n ≡ m → ⊥ = λ e. absurd (cc (same, (Decides-eqb n m).1 e)) in
            omega (arith, least, differ)

insert_new : (n : ℕ) (ns : List ℕ) → Has (insert_rising n ns) n
insert_new n [] = inl refl
insert_new n (m ∷ ms) = of (nat_lt n m) (n == m) refl (insert_new n ms)
  where
    of : (b e : Bool) → (n == m) ≡ e → Has (insert_rising n ms) n → Has (if b then n ∷ m ∷ ms else (if e then m ∷ ms else m ∷ insert_rising n ms)) n
    of true e same ih = inl refl
    of false true same ih = inl (sym ((Decides-eqb n m).0 same))
    of false false same ih = inr ih

insert_stays : (n : ℕ) (ns : List ℕ) (c : ℕ) → Has ns c → Has (insert_rising n ns) c
insert_stays n [] c h = absurd h
insert_stays n (m ∷ ms) c h = of (nat_lt n m) (n == m) h (insert_stays n ms c)
  where
    of : (b e : Bool) → Has (m ∷ ms) c → (Has ms c → Has (insert_rising n ms) c) → Has (if b then n ∷ m ∷ ms else (if e then m ∷ ms else m ∷ insert_rising n ms)) c
    of true e h ih = inr h
    of false true h ih = h
    of false false (inl same) ih = inl same
    of false false (inr h) ih = inr (ih h)

connected_rises : (past : List Item) → Rises (connected past)
connected_rises [] = tt
connected_rises (i ∷ past) = of (is_some (uid_given i.entry.event)) (connected_rises past)
  where
    of : (b : Bool) → Rises (connected past) → Rises (if b then insert_rising i.entry.caller (connected past) else connected past)
    of true ih = insert_rises i.entry.caller (connected past) ih
    of false ih = ih

pub live_rises : (past : List Item) → IsStrictlyIncreasing (live_connections past)
live_rises past = increasing (live_connections past) (rises_filter (live past) (connected past) (connected_rises past))

-- who has a user connected once
connected_has : (past : List Item) (c : ℕ) → is_some (uid_of past c) ≡ true → Has (connected past) c
connected_has [] c e = absurd (cc)
connected_has (i ∷ past) c e = of (uid_of past c) refl (is_some (uid_given i.entry.event)) refl e (connected_has past c)
  where
    by : (b : Bool) → is_by c i ≡ b → is_some (if b then uid_given i.entry.event else None) ≡ true → (i.entry.caller ≡ c) × (is_some (uid_given i.entry.event) ≡ true)
    by true is e = ((Decides-eqb i.entry.caller c).0 is, e)
    by false is e = absurd (cc)

    of : (u : Option ℕ) → uid_of past c ≡ u → (b : Bool) → is_some (uid_given i.entry.event) ≡ b → is_some (or_else u (connects c i)) ≡ true → (is_some (uid_of past c) ≡ true → Has (connected past) c) → Has (if b then insert_rising i.entry.caller (connected past) else connected past) c
    of (Some u) is true new e ih = insert_stays i.entry.caller (connected past) c (ih (ap is_some is))
    of (Some u) is false new e ih = ih (ap is_some is)
    of None is true new e ih = subst (Has (insert_rising i.entry.caller (connected past))) (by (is_by c i) refl e).0 (insert_new i.entry.caller (connected past))
    of None is false new e ih = absurd (cc (new, (by (is_by c i) refl e).1))

has_filter : (test : ℕ → Bool) (ns : List ℕ) (n : ℕ) → Has ns n → test n ≡ true → Has (filter test ns) n
has_filter test [] n h t = absurd h
has_filter test (m ∷ ms) n h t = of (test m) refl h (λ h. has_filter test ms n h t)
  where
    of : (b : Bool) → test m ≡ b → (m ≡ n) ⊎ Has ms n → (Has ms n → Has (filter test ms) n) → Has (if b then (m ∷ filter test ms) else filter test ms) n
    of true is (inl same) ih = inl same
    of true is (inr h) ih = inr (ih h)
    of false is (inl same) ih = let passes : test m ≡ true = ap test same ∙ t in absurd (cc (is, passes))
    of false is (inr h) ih = ih h

pub live_back : (past : List Item) (c : ℕ) → Has (live_connections past) c → live past c ≡ true
live_back past c h = (filter_has (live past) (connected past) c h).1

pub live_forth : (past : List Item) (c : ℕ) → live past c ≡ true → Has (live_connections past) c
live_forth past c e = has_filter (live past) (connected past) c (connected_has past c (both (is_some (uid_of past c)) (not (departed past c)) e).0) e

-- the numbers of what a filter leaves rise, and are below what all were below
each_left : {A : Type 0} (P : ℕ → Type 0) (f : A → ℕ) (test : A → Bool) (xs : List A) → Each P (map f xs) → Each P (map f (filter test xs))
each_left P f test [] h = tt
each_left {A} P f test (x ∷ xs) h = of (test x) (each_left P f test xs h.1)
  where
    of : (b : Bool) → Each P (map f (filter test xs)) → Each P (map f (if b then (x ∷ filter test xs) else filter test xs))
    of true ih = (h.0, ih)
    of false ih = ih

rises_left : {A : Type 0} (f : A → ℕ) (test : A → Bool) (xs : List A) → Rises (map f xs) → Rises (map f (filter test xs))
rises_left f test [] r = tt
rises_left {A} f test (x ∷ xs) r = of (test x) (rises_left f test xs r.1)
  where
    of : (b : Bool) → Rises (map f (filter test xs)) → Rises (map f (if b then (x ∷ filter test xs) else filter test xs))
    of true ih = (each_left (λ m. f x < m) f test xs r.0, ih)
    of false ih = ih

-- what holds of the numbers of all holds of those that a search finds
each_number : {A : Type 0} (P : ℕ → Type 0) (f : A → ℕ) (xs : List A) → ((x : A) → Has xs x → P (f x)) → Each P (map f xs)
each_number P f [] h = tt
each_number P f (x ∷ xs) h = (h x (inl refl), each_number P f xs (λ y k. h y (inr k)))

-- one more element, below whose number all others are, or none
rises_after : {A : Type 0} (f : A → ℕ) (xs : List A) (o : Option A) → Rises (map f xs) → ((x : A) → o ≡ Some x → Each (λ n. n < f x) (map f xs)) → Rises (map f (xs ++ option_to_list o))
rises_after f xs None r below = subst (λ ys. Rises (map f ys)) (sym (append-nil xs)) r
rises_after f xs (Some x) r below = subst Rises (sym (map-append f xs (x ∷ []))) (rises_push (map f xs) (f x) r (below x refl))

-- an answer changes no place
answered_places : (past : List Item) (i : Item) (chs : List Pending) → map (λ (ch : Pending). ch.entry) (map (with_answer past i) chs) ≡ map (λ (ch : Pending). ch.entry) chs
answered_places past i [] = refl
answered_places past i (ch ∷ chs) = ap (λ l. ch.entry ∷ l) (answered_places past i chs)

-- the places of pending challenges rise, and are places of the history
places_rise : (past : List Item) → Rises (map (λ (ch : Pending). ch.entry) (pending past)) × Each (λ n. n < length past) (map (λ (ch : Pending). ch.entry) (pending past))
places_rise [] = (tt, tt)
places_rise (i ∷ past) =
    let left = filter (λ ch. not (closes past ch i)) (pending past) in
    let ih = places_rise past in
    let same = sym (answered_places past i left) in
    let rises = subst Rises same (rises_left (λ (ch : Pending). ch.entry) (λ ch. not (closes past ch i)) (pending past) ih.0) in
    let below = subst (Each (λ n. n < length past)) same (each_left (λ n. n < length past) (λ (ch : Pending). ch.entry) (λ ch. not (closes past ch i)) (pending past) ih.1) in
    (rises_after (λ (ch : Pending). ch.entry) (map (with_answer past i) left) (opened past i) rises (λ ch e. subst (λ m. Each (λ n. n < m) (map (λ (ch : Pending). ch.entry) (map (with_answer past i) left))) (sym (place ch e)) below), all below (opened past i) refl)
  where
    place : (ch : Pending) → opened past i ≡ Some ch → ch.entry ≡ length past
    place ch e = subst (λ (ch : Pending). ch.entry ≡ length past) (opening past i ch e).whole refl

    all : Each (λ n. n < length past) (map (λ (ch : Pending). ch.entry) (map (with_answer past i) (filter (λ ch. not (closes past ch i)) (pending past)))) → (o : Option Pending) → opened past i ≡ o
        → Each (λ n. n < length (i ∷ past)) (map (λ (ch : Pending). ch.entry) (map (with_answer past i) (filter (λ ch. not (closes past ch i)) (pending past)) ++ option_to_list o))
    all below o e =
        let old = map (with_answer past i) (filter (λ ch. not (closes past ch i)) (pending past)) in
        let more = each_more (λ n. n < length past) (λ n. n < length (i ∷ past)) (map (λ (ch : Pending). ch.entry) old) (λ n h. omega (arith, h)) below in
        subst (Each (λ n. n < length (i ∷ past))) (sym (map-append (λ (ch : Pending). ch.entry) old (option_to_list o))) (Each-append (λ n. n < length (i ∷ past)) (map (λ (ch : Pending). ch.entry) old) (map (λ (ch : Pending). ch.entry) (option_to_list o)) more (new o e))
      where
        new : (o : Option Pending) → opened past i ≡ o → Each (λ n. n < length (i ∷ past)) (map (λ (ch : Pending). ch.entry) (option_to_list o))
        new None e = tt
        new (Some ch) e = let p = place ch e in (omega (arith, p), tt)

pub challenges_increase : (past : List Item) → IsStrictlyIncreasing (map (λ (ch : Pending). ch.entry) (pending past))
challenges_increase past = increasing (map (λ (ch : Pending). ch.entry) (pending past)) (places_rise past).0

-- the numbers of temporary authorizations rise
numbers_rise : (past : List Item) → Legal past → Rises (map (λ (g : GrantRow). g.id) (kept past))
numbers_rise [] legal = tt
numbers_rise (i ∷ past) legal = rises_after (λ (g : GrantRow). g.id) (filter (λ g. not (ends_grant past g i)) (kept past)) (granted past i) (rises_left (λ (g : GrantRow). g.id) (λ g. not (ends_grant past g i)) (kept past) (numbers_rise past legal.1)) below
  where
    below : (row : GrantRow) → granted past i ≡ Some row → Each (λ n. n < row.id) (map (λ (g : GrantRow). g.id) (filter (λ g. not (ends_grant past g i)) (kept past)))
    below row e = each_number (λ n. n < row.id) (λ (g : GrantRow). g.id) (filter (λ g. not (ends_grant past g i)) (kept past)) at
      where
        at : (g : GrantRow) → Has (filter (λ g. not (ends_grant past g i)) (kept past)) g → g.id < row.id
        at g h =
            let old = numbers_below past legal.1 g (filter_has (λ g. not (ends_grant past g i)) (kept past) g h).0 in
            let new = number_of_new past legal.1 i row e in
            omega (arith, old, new)

pub grants_increase : (past : List Item) → Legal past → IsStrictlyIncreasing (map (λ (g : GrantRow). g.id) (kept past))
grants_increase past legal = increasing (map (λ (g : GrantRow). g.id) (kept past)) (numbers_rise past legal)
