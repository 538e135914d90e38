-- There are no more of anything than entries, so that 32 bits count them where they count the entries.
use Rattle.std.proofs.Common.{◌≡◌, ℕ, ◌<◌, ◌≤◌, ◌^◌, ◌++◌, suc, Bool, true, false, List, [], ◌∷◌, refl, ap, ◌∙◌, Option, Some, None, length, map, arith}
use Rattle.std.specs.Prelude.{if◌then◌else◌, filter, not, is_some, nat_lt, ◌==◌, option_to_list}
use Rattle.authority_model.specs.declared.journal.Item.{Item}
use Rattle.authority_model.specs.declared.verdict.GrantRow.{GrantRow}
use Rattle.authority_model.specs.Agents.{ends, in_force, registers}
use Rattle.authority_model.specs.Challenges.{closes, opened, pending, with_answer}
use Rattle.authority_model.specs.Deciding.{is_live_at}
use Rattle.authority_model.specs.Grants.{ends_grant, granted, kept}
use Rattle.authority_model.specs.Legal.{last_moment}
use Rattle.authority_model.specs.Peers.{connected, insert_rising, live, live_connections, uid_given}
use Rattle.authority_desk.specs.declared.counts.DeskCounts.{DeskCounts}
use Rattle.authority_desk.specs.declared.numbers.DeskNumbers.{DeskNumbers}
use Rattle.authority_desk.specs.Counts.{counts_of, counts_seen, in_word}
use Rattle.authority_desk.specs.Seen.{DeskSeen, IsDeskFor}

-- a filter lets no more pass than there are
filter_short : {A : Type 0} (p : A → Bool) (xs : List A) → length (filter p xs) ≤ length xs
filter_short p [] = omega arith
filter_short {A} p (x ∷ xs) = go (p x) (filter_short p xs)
  where
    go : (b : Bool) → length (filter p xs) ≤ length xs → length (if b then (x ∷ filter p xs) else filter p xs) ≤ suc (length xs)
    go true h = omega arith
    go false h = omega arith

-- with one more at the end there is at most one more
appended_short : {A : Type 0} (xs : List A) (o : Option A) → length (xs ++ option_to_list o) ≤ suc (length xs)
appended_short [] None = omega arith
appended_short [] (Some y) = omega arith
appended_short (x ∷ xs) o = let h = appended_short xs o in omega arith

-- as many after a map
mapped_long : {A B : Type 0} (f : A → B) (xs : List A) → length (map f xs) ≡ length xs
mapped_long f [] = refl
mapped_long f (x ∷ xs) = ap suc (mapped_long f xs)

-- a number put into its place is at most one more
insert_short : (n : ℕ) (ms : List ℕ) → length (insert_rising n ms) ≤ suc (length ms)
insert_short n [] = omega arith
insert_short n (m ∷ ms) = go (nat_lt n m) (n == m) (insert_short n ms)
  where
    go : (a b : Bool) → length (insert_rising n ms) ≤ suc (length ms) → length (if a then n ∷ m ∷ ms else (if b then m ∷ ms else m ∷ insert_rising n ms)) ≤ suc (suc (length ms))
    go true b h = omega arith
    go false true h = omega arith
    go false false h = omega arith

-- those who ever connected
connected_short : (past : List Item) → length (connected past) ≤ length past
connected_short [] = omega arith
connected_short (i ∷ past) = go (is_some (uid_given i.entry.event)) (connected_short past) (insert_short i.entry.caller (connected past))
  where
    go : (b : Bool) → length (connected past) ≤ length past → length (insert_rising i.entry.caller (connected past)) ≤ suc (length (connected past)) → length (if b then insert_rising i.entry.caller (connected past) else connected past) ≤ suc (length past)
    go true h k = omega arith
    go false h k = omega arith

-- the live connections
live_short : (past : List Item) → length (live_connections past) ≤ length past
live_short past = let a = filter_short (live past) (connected past) in let b = connected_short past in omega arith

-- the registrations in force
agents_short : (past : List Item) → length (in_force past) ≤ length past
agents_short [] = omega arith
agents_short (i ∷ past) =
    let h = agents_short past in
    let left = filter_short (λ a. not (ends past a i)) (in_force past) in
    let more = appended_short (filter (λ a. not (ends past a i)) (in_force past)) (registers past (in_force past) i) in
    omega arith

-- the temporary authorizations that nothing ended
kept_short : (past : List Item) → length (kept past) ≤ length past
kept_short [] = omega arith
kept_short (i ∷ past) =
    let h = kept_short past in
    let left = filter_short (λ r. not (ends_grant past r i)) (kept past) in
    let more = appended_short (filter (λ r. not (ends_grant past r i)) (kept past)) (granted past i) in
    omega arith

-- the pending challenges
pending_short : (past : List Item) → length (pending past) ≤ length past
pending_short [] = omega arith
pending_short (i ∷ past) =
    let h = pending_short past in
    let left = filter_short (λ ch. not (closes past ch i)) (pending past) in
    let same = mapped_long (with_answer past i) (filter (λ ch. not (closes past ch i)) (pending past)) in
    let more = appended_short (map (with_answer past i) (filter (λ ch. not (closes past ch i)) (pending past))) (opened past i) in
    omega arith

-- 32 bits hold what is no more than what they hold
held : (n m : ℕ) → n ≤ m → m < 2 ^ 32 → in_word n ≡ n
held n m less few = omega arith

-- what a desk counts, from the numbers of each kind
abbrev counts_from : ℕ → ℕ → ℕ → ℕ → ℕ → ℕ → DeskCounts
counts_from a b c d e o = record { live = a; agents = b; pending = c; grants = d; entries = e; outputs = o }

-- what a desk counts is what there is after each history that it stands for
pub counts_are : (past : List Item) (d : DeskSeen) → IsDeskFor past d → length past < 2 ^ 32 → counts_seen d ≡ counts_of past
counts_are past d is few =
    ap (λ n. counts_from n (in_word (length d.agents)) (in_word (length d.challenges)) grants_seen d.peers.entries d.numbers.outputs) (ap (λ xs. in_word (length xs)) is.peers_are.live_are ∙ held (length (live_connections past)) (length past) (live_short past) few)
    ∙ ap (λ n. counts_from (length (live_connections past)) n (in_word (length d.challenges)) grants_seen d.peers.entries d.numbers.outputs) (ap (λ xs. in_word (length xs)) is.agents_are ∙ held (length (in_force past)) (length past) (agents_short past) few)
    ∙ ap (λ n. counts_from (length (live_connections past)) (length (in_force past)) n grants_seen d.peers.entries d.numbers.outputs) (ap (λ xs. in_word (length xs)) is.challenges_are ∙ held (length (pending past)) (length past) (pending_short past) few)
    ∙ ap (λ n. counts_from (length (live_connections past)) (length (in_force past)) (length (pending past)) n d.peers.entries d.numbers.outputs) grants
    ∙ ap (λ n. counts_from (length (live_connections past)) (length (in_force past)) (length (pending past)) (length live_ones) n d.numbers.outputs) is.peers_are.entries_are
    ∙ ap (λ (n : DeskNumbers). counts_from (length (live_connections past)) (length (in_force past)) (length (pending past)) (length live_ones) (length past) n.outputs) is.numbers_are
  where
    live_ones : List GrantRow
    live_ones = filter (is_live_at (last_moment past)) (kept past)

    grants_seen : ℕ
    grants_seen = in_word (length (filter (is_live_at d.numbers.last_moment) d.grants))

    grants : grants_seen ≡ length live_ones
    grants =
        ap (λ (n : DeskNumbers). in_word (length (filter (is_live_at n.last_moment) d.grants))) is.numbers_are
        ∙ ap (λ rows. in_word (length (filter (is_live_at (last_moment past)) rows))) is.grants_are
        ∙ held (length live_ones) (length past) (let a = filter_short (is_live_at (last_moment past)) (kept past) in let b = kept_short past in omega arith) few
