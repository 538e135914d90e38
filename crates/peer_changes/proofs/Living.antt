-- The live connections of a history, by the row of each.
use Rattle.std.proofs.Common.{◌≡◌, ℕ, ◌==◌, Bool, true, false, ◌&&◌, ◌||◌, not, List, [], ◌∷◌, refl, ap, sym, ◌∙◌, Option, Some, None, is_some, cond, arith}
use Rattle.std.proofs.lemmas.Bool.Decides.{Decides-eqb, nat_tests}
use Rattle.std.proofs.lemmas.Map.Lookups.{btree_set_from_contains, exact_unsigned}
use Rattle.std.proofs.lemmas.Cmp.{nat_cmp_total}
use Rattle.std.specs.Prelude.{if◌then◌else◌, option_map, filter, nat_eq}
use Rattle.std.specs.Option.{option_map_or}
use Rattle.std.specs.List.{list_any}
use Rattle.std.specs.List.Sorted.{IsStrictlySortedBy}
use Rattle.std.specs.Ordering.{nat_cmp}
use Rattle.std.specs.BTreeMap.{is_at}
use Rattle.authority_model.specs.declared.journal.Item.{Item}
use Rattle.entry_changes.specs.declared.peer.Peer.{Peer}
use Rattle.authority_model.specs.Lists.{or_else}
use Rattle.authority_model.specs.Peers.{uid_of, uid_given, departed, last_announced, live, connected, live_connections, insert_rising}
use Rattle.entry_changes.specs.Known.{known}
use Rattle.peer_changes.specs.Next.{live_after}
use Rattle.peer_changes.proofs.Rising.{sorted_none, sorted_put, sorted_left, has_put, has_left}
use Rattle.peer_changes.proofs.Stepping.{same_number, known_stays, known_other}

-- two numbers are one, whichever stands first
turned_number : (a b : ℕ) → (a == b) ≡ (b == a)
turned_number a b = grind (arith, nat_tests)

-- whether a row is that of a live connection
abbrev pub is_live_row : Option Peer → Bool
is_live_row row = option_map_or (λ r. not r.departed) row false

-- The numbers are those of the live connections of these rows, in rising order.
pub record IsLiveOf (row : ℕ → Option Peer) (live : List ℕ) : Type 0 where
  pub rising : IsStrictlySortedBy nat_cmp live
  pub has : (c : ℕ) → list_any (nat_eq c) live ≡ is_live_row (row c)

-- numbers of live connections where a row of one that is live was put in
live_put : (old new : ℕ → Option Peer) (numbers : List ℕ) (c : ℕ) (row : Peer) → row.departed ≡ false → IsLiveOf old numbers → ((q : ℕ) → new q ≡ cond (c == q) (Some row) (old q)) → IsLiveOf new (insert_rising c numbers)
live_put old new numbers c row lives is put = record {
  rising = sorted_put c numbers is.rising;
  has = λ q. has_put q c numbers ∙ ap (λ b. b || list_any (nat_eq q) numbers) (turned_number q c) ∙ go q (c == q) ∙ sym (ap is_live_row (put q));
}
  where
    go : (q : ℕ) (b : Bool) → (b || list_any (nat_eq q) numbers) ≡ is_live_row (cond b (Some row) (old q))
    go q true = sym (ap not lives)
    go q false = is.has q

-- numbers of live connections where a row of one that departed was put in
live_left : (old new : ℕ → Option Peer) (numbers : List ℕ) (c : ℕ) (row : Peer) → row.departed ≡ true → IsLiveOf old numbers → ((q : ℕ) → new q ≡ cond (c == q) (Some row) (old q)) → IsLiveOf new (filter (λ n. not (n == c)) numbers)
live_left old new numbers c row departs is put = record {
  rising = sorted_left (λ n. not (n == c)) numbers is.rising;
  has = λ q. has_left q c numbers ∙ ap (λ b. not b && list_any (nat_eq q) numbers) (turned_number q c) ∙ go q (c == q) ∙ sym (ap is_live_row (put q));
}
  where
    go : (q : ℕ) (b : Bool) → (not b && list_any (nat_eq q) numbers) ≡ is_live_row (cond b (Some row) (old q))
    go q true = sym (ap not departs)
    go q false = is.has q

-- the connections that were ever made are in rising order
connected_sorted : (past : List Item) → IsStrictlySortedBy nat_cmp (connected past)
connected_sorted [] = sorted_none
connected_sorted (i ∷ past) = go (is_some (uid_given i.entry.event)) (connected_sorted past)
  where
    go : (b : Bool) → IsStrictlySortedBy nat_cmp (connected past) → IsStrictlySortedBy nat_cmp (if b then insert_rising i.entry.caller (connected past) else connected past)
    go true rest = sorted_put i.entry.caller (connected past) rest
    go false rest = rest

-- the live connections are in rising order
pub live_sorted : (past : List Item) → IsStrictlySortedBy nat_cmp (live_connections past)
live_sorted past = sorted_left (live past) (connected past) (connected_sorted past)

-- each connection that was ever made has a uid
connected_has : (past : List Item) (q : ℕ) → list_any (nat_eq q) (connected past) ≡ is_some (uid_of past q)
connected_has [] q = refl
connected_has (i ∷ past) q = go (uid_given i.entry.event) (uid_of past q) (i.entry.caller == q) (turned_number q i.entry.caller) (connected_has past q)
  where
    with_given : (by : Bool) (uid : ℕ) (u : Option ℕ) → (by || is_some u) ≡ is_some (or_else u (if by then Some uid else None))
    with_given true uid (Some v) = refl
    with_given true uid None = refl
    with_given false uid (Some v) = refl
    with_given false uid None = refl

    without : (by : Bool) (u : Option ℕ) → is_some u ≡ is_some (or_else u (if by then None else None))
    without true (Some v) = refl
    without true None = refl
    without false (Some v) = refl
    without false None = refl

    go : (given u : Option ℕ) (by : Bool) → (q == i.entry.caller) ≡ by → list_any (nat_eq q) (connected past) ≡ is_some u
        → list_any (nat_eq q) (if is_some given then insert_rising i.entry.caller (connected past) else connected past) ≡ is_some (or_else u (if by then given else None))
    go None u by is rest = rest ∙ without by u
    go (Some uid) u by is rest =
        has_put q i.entry.caller (connected past)
        ∙ ap (λ b. b || list_any (nat_eq q) (connected past)) is
        ∙ ap (λ b. by || b) rest
        ∙ with_given by uid u

-- what stands among the numbers that pass a test
has_filtered : (test : ℕ → Bool) (q : ℕ) (xs : List ℕ) → list_any (nat_eq q) (filter test xs) ≡ (test q && list_any (nat_eq q) xs)
has_filtered test q [] = none (test q)
  where
    none : (b : Bool) → false ≡ (b && false)
    none true = refl
    none false = refl
has_filtered test q (x ∷ xs) = go (test x) (test q) (q == x) refl refl refl (has_filtered test q xs)
  where
    same : (q == x) ≡ true → test x ≡ test q
    same is = ap test (sym ((Decides-eqb q x).0 is))

    go : (a b t : Bool) → test x ≡ a → test q ≡ b → (q == x) ≡ t → list_any (nat_eq q) (filter test xs) ≡ (test q && list_any (nat_eq q) xs)
        → list_any (nat_eq q) (if a then x ∷ filter test xs else filter test xs) ≡ (b && (t || list_any (nat_eq q) xs))
    go true true true here there is rest = ap (λ s. s || list_any (nat_eq q) (filter test xs)) is
    go true true false here there is rest = ap (λ s. s || list_any (nat_eq q) (filter test xs)) is ∙ rest ∙ ap (λ s. s && list_any (nat_eq q) xs) there
    go true false true here there is rest = absurd (cc (same is))
    go true false false here there is rest = ap (λ s. s || list_any (nat_eq q) (filter test xs)) is ∙ rest ∙ ap (λ s. s && list_any (nat_eq q) xs) there
    go false true true here there is rest = absurd (cc (same is))
    go false true false here there is rest = rest ∙ ap (λ s. s && list_any (nat_eq q) xs) there
    go false false t here there is rest = rest ∙ ap (λ s. s && list_any (nat_eq q) xs) there

-- a connection stands among the live ones exactly where it is live
live_has : (past : List Item) (q : ℕ) → list_any (nat_eq q) (live_connections past) ≡ live past q
live_has past q = has_filtered (live past) q (connected past) ∙ ap (λ b. live past q && b) (connected_has past q) ∙ twice (is_some (uid_of past q)) (departed past q)
  where
    twice : (u d : Bool) → ((u && not d) && u) ≡ (u && not d)
    twice true true = refl
    twice true false = refl
    twice false d = refl

-- a connection is live exactly where its row says so
pub row_lives : (past : List Item) (q : ℕ) → is_live_row (known past q) ≡ live past q
row_lives past q = go (uid_of past q)
  where
    go : (u : Option ℕ) → is_live_row (option_map (λ uid. record { uid = uid; departed = departed past q; announced = last_announced past q }) u) ≡ (is_some u && not (departed past q))
    go None = refl
    go (Some uid) = refl

-- the two ways to look a number up agree
found_alike : (q : ℕ) (xs : List ℕ) → list_any (is_at (nat_cmp q)) xs ≡ list_any (nat_eq q) xs
found_alike q [] = refl
found_alike q (x ∷ xs) = ap (λ b. b || list_any (is_at (nat_cmp q)) xs) (same_number q x) ∙ ap (λ b. (q == x) || b) (found_alike q xs)

-- the live numbers of rows that tell of a history are its live connections
live_are : (rows : ℕ → Option Peer) (numbers : List ℕ) (past : List Item) → IsLiveOf rows numbers → ((c : ℕ) → rows c ≡ known past c) → numbers ≡ live_connections past
live_are rows numbers past is told = btree_set_from_contains nat_cmp_total (record { keys = numbers }) (record { keys = live_connections past }) is.rising (live_sorted past)
    (λ q. found_alike q numbers ∙ is.has q ∙ ap is_live_row (told q) ∙ row_lives past q ∙ sym (live_has past q) ∙ sym (found_alike q (live_connections past))) exact_unsigned

-- the live connections of a history are those of what is known in it
live_known : (past : List Item) → IsLiveOf (known past) (live_connections past)
live_known past = record { rising = live_sorted past; has = λ c. live_has past c ∙ sym (row_lives past c) }

-- a number is itself
self : (c : ℕ) → (c == c) ≡ true
self c = grind (arith, nat_tests)

-- what is known after an item is what was known, but for the caller
put_known : (past : List Item) (i : Item) (next : Option Peer) → known (i ∷ past) i.entry.caller ≡ next → (q : ℕ) → known (i ∷ past) q ≡ cond (i.entry.caller == q) next (known past q)
put_known past i next is q = go (i.entry.caller == q) refl
  where
    go : (b : Bool) → (i.entry.caller == q) ≡ b → known (i ∷ past) q ≡ cond b next (known past q)
    go true e = ap (known (i ∷ past)) (sym ((Decides-eqb i.entry.caller q).0 e)) ∙ is
    go false e = known_other past i q e

-- the live connections after one more item
pub live_next : (past : List Item) (i : Item) → live_after i.entry.caller (known (i ∷ past) i.entry.caller) (live_connections past) ≡ live_connections (i ∷ past)
live_next past i = go (known (i ∷ past) i.entry.caller) refl
  where
    c : ℕ
    c = i.entry.caller

    none : known (i ∷ past) c ≡ None → (q : ℕ) (b : Bool) → (c == q) ≡ b → known past q ≡ known (i ∷ past) q
    none is q true e = ap (known past) (sym ((Decides-eqb c q).0 e)) ∙ known_stays past i c is ∙ sym is ∙ ap (known (i ∷ past)) ((Decides-eqb c q).0 e)
    none is q false e = sym (known_other past i q e)

    some : (row : Peer) → known (i ∷ past) c ≡ Some row → (d : Bool) → row.departed ≡ d → (if d then filter (λ n. not (n == c)) (live_connections past) else insert_rising c (live_connections past)) ≡ live_connections (i ∷ past)
    some row is true departs = live_are (known (i ∷ past)) _ (i ∷ past) (live_left (known past) (known (i ∷ past)) (live_connections past) c row departs (live_known past) (put_known past i (Some row) is)) (λ q. refl)
    some row is false lives = live_are (known (i ∷ past)) _ (i ∷ past) (live_put (known past) (known (i ∷ past)) (live_connections past) c row lives (live_known past) (put_known past i (Some row) is)) (λ q. refl)

    go : (next : Option Peer) → known (i ∷ past) c ≡ next → live_after c next (live_connections past) ≡ live_connections (i ∷ past)
    go None is = live_are (known past) (live_connections past) (i ∷ past) (live_known past) (λ q. none is q (c == q) refl)
    go (Some row) is = some row is row.departed refl
