-- A tally that is as long as what two callers added has nothing else.
use Rattle.std.proofs.Common.{◌≡◌, ◌≢◌, ℕ, ◌+◌, ◌≤◌, Bool, true, false, List, [], ◌∷◌, length, map, take, refl, sym, ap, ◌∙◌, arith}
use Rattle.std.specs.Prelude.{◌==◌}
use Rattle.std.proofs.lemmas.List.{take_all, length-map}
use Rattle.std.proofs.lemmas.Bool.Decides.{nat_tests}
use mathlib.Core.List.{IsPrefix}
use Rattle.history_lock.specs.Entries.{entries_by}
use Rattle.history_lock.proofs.Prefixes.{prefix_whole}
use Rattle.history_lock.proofs.Growth.{entries_by-own, entries_by-other}
use Rattle.history_lock_tests.specs.Tallies.{entry_of}
use Rattle.history_lock_tests.specs.declared.tally.Entry.{Entry}

abbrev by : Entry → ℕ
by e = e.caller

-- the entries of two callers are no more than all
length-two : (m n : ℕ) (h : List Entry) → m ≢ n → length (entries_by by m h) + length (entries_by by n h) ≤ length h
length-two m n [] apart = omega arith
length-two m n (x ∷ xs) apart = tested (x.caller == m) (x.caller == n) refl refl (length-two m n xs apart)
  where
    tested : (p q : Bool) → (x.caller == m) ≡ p → (x.caller == n) ≡ q → length (entries_by by m xs) + length (entries_by by n xs) ≤ length xs → length (entries_by by m (x ∷ xs)) + length (entries_by by n (x ∷ xs)) ≤ length (x ∷ xs)
    tested true q is is' rest =
        let mine : x.caller ≡ m = grind (arith, nat_tests) in
        let not : x.caller ≢ n = (λ e. apart (sym mine ∙ e)) in
        let a = ap length (entries_by-own by m x xs mine) in
        let b = ap length (entries_by-other by n x xs not) in omega (arith, a, b, rest)
    tested false true is is' rest =
        let mine : x.caller ≡ n = grind (arith, nat_tests) in
        let not : x.caller ≢ m = grind (arith, nat_tests) in
        let a = ap length (entries_by-own by n x xs mine) in
        let b = ap length (entries_by-other by m x xs not) in omega (arith, a, b, rest)
    tested false false is is' rest =
        let not : x.caller ≢ m = grind (arith, nat_tests) in
        let not' : x.caller ≢ n = grind (arith, nat_tests) in
        let a = ap length (entries_by-other by m x xs not) in
        let b = ap length (entries_by-other by n x xs not') in omega (arith, a, b, rest)

-- a history has the first p of xs by m and the first q of ys by n, which are all, and begins a list that is no longer than xs and ys: so the list has by m and n just these
pub whole_of_two : (h list : List Entry) (m n p q : ℕ) (xs ys : List ℕ) → m ≢ n → IsPrefix h list
    → entries_by by m h ≡ map (entry_of m) (take p xs)
    → entries_by by n h ≡ map (entry_of n) (take q ys)
    → length xs ≤ p → length ys ≤ q → length list ≡ length xs + length ys
    → (entries_by by m list ≡ map (entry_of m) xs) × (entries_by by n list ≡ map (entry_of n) ys)
whole_of_two h list m n p q xs ys apart begins of_m of_n all_m all_n long =
    let a : entries_by by m h ≡ map (entry_of m) xs = of_m ∙ ap (map (entry_of m)) (take_all p xs all_m) in
    let b : entries_by by n h ≡ map (entry_of n) ys = of_n ∙ ap (map (entry_of n)) (take_all q ys all_n) in
    let two = length-two m n h apart in
    let la = ap length a ∙ length-map xs (entry_of m) in
    let lb = ap length b ∙ length-map ys (entry_of n) in
    let same : h ≡ list = prefix_whole h list begins (omega (arith, two, la, lb, long)) in
    (sym (ap (entries_by by m) same) ∙ a, sym (ap (entries_by by n) same) ∙ b)
