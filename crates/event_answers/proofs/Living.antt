-- The live connections, told one after the other: there are no more of them than entries.
use Rattle.std.proofs.Common.{◌≡◌, ◌+◌, ◌++◌, ◌≤◌, ◌==◌, ℕ, zero, suc, Bool, true, false, List, [], ◌∷◌, refl, sym, ap, ◌∙◌, take, length, Some, None, arith, map, slice_get}
use Rattle.std.specs.Prelude.{if◌then◌else◌, filter, is_some, nat_lt}
use Rattle.std.proofs.lemmas.List.{take_all}
use Rattle.authority_model.specs.declared.journal.Item.{Item}
use Rattle.authority_model.specs.Answers.{changed}
use Rattle.authority_model.specs.Peers.{live, connected, insert_rising, live_connections, uid_given}
use Rattle.journal_view.specs.Seen.{Seen, IsSeenOf}
use Rattle.event_answers.specs.Asked.{changed_now}

filter_short : {A : Type 0} (p : A → Bool) (xs : List A) → length (filter p xs) ≤ length xs
filter_short p [] = omega arith
filter_short {A} p (x ∷ xs) = go (p x) (filter_short p xs)
  where
    go : (b : Bool) → length (filter p xs) ≤ length xs → length (if b then (x ∷ filter p xs) else filter p xs) ≤ suc (length xs)
    go true h = omega arith
    go false h = omega arith

insert_short : (n : ℕ) (ms : List ℕ) → length (insert_rising n ms) ≤ suc (length ms)
insert_short n [] = omega arith
insert_short n (m ∷ ms) = go (nat_lt n m) (n == m) (insert_short n ms)
  where
    go : (a b : Bool) → length (insert_rising n ms) ≤ suc (length ms) → length (if a then n ∷ m ∷ ms else (if b then m ∷ ms else m ∷ insert_rising n ms)) ≤ suc (suc (length ms))
    go true b h = omega arith
    go false true h = omega arith
    go false false h = omega arith

connected_short : (past : List Item) → length (connected past) ≤ length past
connected_short [] = omega arith
connected_short (i ∷ past) = go (is_some (uid_given i.entry.event)) (connected_short past) (insert_short i.entry.caller (connected past))
  where
    go : (b : Bool) → length (connected past) ≤ length past → length (insert_rising i.entry.caller (connected past)) ≤ suc (length (connected past)) → length (if b then insert_rising i.entry.caller (connected past) else connected past) ≤ suc (length past)
    go true h k = omega arith
    go false h k = omega arith

live_short : (past : List Item) → length (live_connections past) ≤ length past
live_short past = let a = filter_short (live past) (connected past) in let b = connected_short past in omega arith

-- one more of them
map_more : (xs : List ℕ) (i n : ℕ) → Some n ≡ slice_get xs i → map changed_now (take i xs) ++ changed_now n ∷ [] ≡ map changed_now (take (suc i) xs)
map_more [] i n e = absurd (cc)
map_more (x ∷ xs) zero n e = let same : n ≡ x = cc in ap (λ m. changed_now m ∷ []) same
map_more (x ∷ xs) (suc i) n e = ap (λ ys. changed_now x ∷ ys) (map_more xs i n e)

pub one_told : (xs : List ℕ) (i n : ℕ) → Some n ≡ slice_get xs i → map changed_now (take i xs) ++ changed_now n ∷ [] ≡ map changed_now (take (i + 1) xs)
one_told xs i n e = let more : i + 1 ≡ suc i = omega arith in map_more xs i n e ∙ ap (λ k. map changed_now (take k xs)) (sym more)

taken : {A : Type 0} (xs : List A) (i : ℕ) → None ≡ slice_get xs i → take i xs ≡ xs
taken [] zero e = refl
taken [] (suc i) e = refl
taken (x ∷ xs) zero e = absurd (cc)
taken (x ∷ xs) (suc i) e = ap (λ ys. x ∷ ys) (taken xs i e)

-- all of them were told, where the next place has none
pub all_of : (past : List Item) (s : Seen) (i : ℕ) → IsSeenOf past s → None ≡ slice_get s.live i → map changed_now (take i s.live) ≡ changed past
all_of past s i is e = ap (map changed_now) (taken s.live i e ∙ is.live_are)

-- all of them were told, after as many turns as there are entries
pub few : (past : List Item) (s : Seen) (i : ℕ) → IsSeenOf past s → s.counts.entries ≤ i → map changed_now (take i s.live) ≡ changed past
few past s i is later =
    let entries : s.counts.entries ≡ length past = ap (λ c. c.entries) is.counts_are in
    let short : length s.live ≡ length (live_connections past) = ap length is.live_are in
    let most = live_short past in
    ap (map changed_now) (take_all i s.live (omega arith) ∙ is.live_are)
