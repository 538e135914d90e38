-- Runs of steps that give the same part: structures that begin, or end, right behind each other.
use Rattle.std.proofs.Common.{◌≡◌, ℕ, zero, suc, ◌+◌, ◌-◌, ◌<◌, ◌≤◌, List, [], ◌∷◌, length, get_or, drop, Bool, true, false, Result, Ok, Err, Some, refl, sym, subst, ◌∙◌, arith}
use Rattle.std.proofs.lemmas.List.{length-drop, get_or-drop}
use Rattle.dbus_values.specs.declared.fault.Fault.{Fault}
use Rattle.dbus_values.specs.declared.fault.FaultKind.TheVariants as fault
use Rattle.dbus_values.specs.Reading.{bad, spot_at}
use Rattle.dbus_values.specs.Parts.{Piece}
use Rattle.dbus_values.specs.Parts as part
use Rattle.dbus_values.specs.Opened.{Open, innermost, is_variant, with_members}
use Rattle.dbus_values.specs.Opened as open_part
use Rattle.dbus_values.specs.Basics.{gap}
use Rattle.dbus_values.specs.Walk.{State, state, enter, next_in, step, is_done, walk, Walked, walked, most_parts, parts, Lasts}
use Rattle.dbus_values.specs.Runs.{Repeats, again}
use Rattle.dbus_values.proofs.Loops.{not_zero}
use Rattle.dbus_values.proofs.Short.{enter_open, members_enter, members_leave}

pub repeats_none : (limit : ℕ) (big : Bool) (p : Piece) (s : State) → Repeats 0 p limit big s s
unfolding Repeats
repeats_none limit big p s = refl

-- a step before a run
pub repeats_first : (n limit : ℕ) (big : Bool) (p : Piece) (s t u : State) → step limit big s ≡ Ok (p, t) → Repeats n p limit big t u → Repeats (suc n) p limit big s u
unfolding Repeats
repeats_first n limit big p s t u one rest = (t, one, rest)

-- a step behind a run
pub repeats_more : (n limit : ℕ) (big : Bool) (p : Piece) (s t u : State) → Repeats n p limit big s t → step limit big t ≡ Ok (p, u) → Repeats (suc n) p limit big s u
unfolding Repeats
repeats_more zero limit big p s t u same one = (u, subst (λ (x : State). step limit big x ≡ Ok (p, u)) (sym same) one, refl)
repeats_more (suc n) limit big p s t u run one = (run.0, run.1, repeats_more n limit big p run.0 t u run.2 one)

next_letter : (n : ℕ) (sig : List ℕ) → ((k : ℕ) → k < n → get_or sig k 0 ≡ 40) → (get_or (drop n sig) 0 0 ≡ 41 → ⊥) → get_or sig 0 0 ≡ 41 → ⊥
next_letter zero sig same other is = other is
next_letter (suc n) sig same other is = let e : get_or sig 0 0 ≡ 40 = same 0 (omega arith) in omega (arith, e, is)

-- structures begin
pub open_all : (n limit : ℕ) (big : Bool) (fs : List Open) (sig : List ℕ) (at : ℕ) (bytes : List ℕ) → Some open_part.Members ≡ innermost fs → n ≤ length sig → ((k : ℕ) → k < n → get_or sig k 0 ≡ 40) → 1 ≤ length (drop n sig) → (get_or (drop n sig) 0 0 ≡ 41 → ⊥) → gap 8 at ≡ 0 → length fs + n ≤ limit
    → Repeats n (part.Enter 40) limit big (state fs sig at bytes) (state (with_members n fs) (drop n sig) at bytes)
unfolding Repeats with_members
open_all zero limit big fs sig at bytes is le same more other whole room = refl
open_all (suc n) limit big fs [] at bytes is le same more other whole room = absurd (omega arith)
open_all (suc n) limit big fs (c ∷ sig) at bytes is le same more other whole room =
    let letter : c ≡ 40 = same 0 (omega arith) in
    let long : 1 ≤ length sig = omega (arith, more, length-drop n sig) in
    let behind : (k : ℕ) → k < n → get_or sig k 0 ≡ 40 = λ k lt. same (suc k) (omega (arith, lt)) in
    let first : next_in limit big fs (c ∷ sig) at bytes ≡ Ok (part.Enter 40, state (open_part.Members ∷ fs) sig at bytes) =
    members_enter limit big fs (c ∷ sig) at bytes is (omega arith) (λ e. omega (arith, letter, e))
    ∙ enter_open limit big fs (c ∷ sig) at bytes (omega arith) long letter (next_letter n sig behind other) whole (omega (arith, room)) in
    (state (open_part.Members ∷ fs) sig at bytes, first, open_all n limit big (open_part.Members ∷ fs) sig at bytes refl (omega (arith, le)) behind more other whole (omega (arith, room)))

one_more : (n : ℕ) (sig : List ℕ) → drop 1 (drop n sig) ≡ drop (suc n) sig
one_more zero sig = refl
one_more (suc n) [] = refl
one_more (suc n) (c ∷ sig) = one_more n sig

-- structures end
pub close_all : (n limit : ℕ) (big : Bool) (fs : List Open) (sig : List ℕ) (at : ℕ) (bytes : List ℕ) → n ≤ length sig → ((k : ℕ) → k < n → get_or sig k 0 ≡ 41) → (1 ≤ n → is_variant (innermost fs) ≡ false)
    → Repeats n (part.Leave 40) limit big (state (with_members n fs) sig at bytes) (state fs (drop n sig) at bytes)
unfolding Repeats with_members
close_all zero limit big fs sig at bytes le same plain = refl
close_all (suc n) limit big fs sig at bytes le same plain =
    let run = close_all n limit big (open_part.Members ∷ fs) sig at bytes (omega (arith, le)) (λ k lt. same k (omega (arith, lt))) (λ some. refl) in
    let k : n + 0 ≡ n = omega arith in
    let letter : get_or (drop n sig) 0 0 ≡ 41 = get_or-drop n sig 0 0 ∙ rw k (same n (omega arith)) in
    let last = members_leave limit big (open_part.Members ∷ fs) (drop n sig) at bytes refl (omega (arith, le, length-drop n sig)) letter (plain (omega arith)) in
    let e : drop 1 (drop n sig) ≡ drop (suc n) sig = one_more n sig in
    repeats_more n limit big (part.Leave 40) (state (with_members n (open_part.Members ∷ fs)) sig at bytes) (state (open_part.Members ∷ fs) (drop n sig) at bytes) (state fs (drop (suc n) sig) at bytes) run (rw e at last)

-- where a step is possible, the walk has not come to its end
not_done : (limit : ℕ) (big : Bool) (fs : List Open) (types : List ℕ) (at : ℕ) (rest : List ℕ) (x : Piece × State) → next_in limit big fs types at rest ≡ Ok x → is_done (state fs types at rest) ≡ false
unfolding enter
not_done limit big [] [] at rest x is = absurd cc
not_done limit big [] (c ∷ types) at rest x is = rw (not_zero (length (c ∷ types)) (λ e. omega (arith, e))) refl
not_done limit big (f ∷ fs) types at rest x is = rw (not_zero (length (f ∷ fs)) (λ e. omega (arith, e))) refl

-- a run is so many parts of the walk
pub walk_repeats : (n m c limit : ℕ) (big : Bool) (p : Piece) (s t : State) → Repeats n p limit big s t → walk (n + m) c limit big s ≡ walk m (c + n) limit big t
unfolding Repeats walk
walk_repeats zero m c limit big p s t same =
    let k : zero + m ≡ m = omega arith in
    let l : c + zero ≡ c = omega arith in
    rw (k, l, same) refl
walk_repeats (suc n) m c limit big p s t run =
    let k : suc n + m ≡ suc (n + m) = omega arith in
    let l : c + suc n ≡ c + 1 + n = omega arith in
    let more = not_done limit big s.open_parts s.types s.at s.rest (p, run.0) run.1 in
    let one : walk (suc (n + m)) c limit big s ≡ walk (n + m) (c + 1) limit big run.0 = rw (more, run.1) refl in
    rw (k, l) (one ∙ walk_repeats n m (c + 1) limit big p run.0 t run.2)

pub walk_run : (left more limit : ℕ) (big : Bool) (p : Piece) (s t : State) (total : Result Walked Fault) → more + 1 ≤ left → left ≤ most_parts → Repeats (suc more) p limit big s t → walk left (most_parts - left) limit big s ≡ total
    → walk (left - (more + 1)) (most_parts - (left - (more + 1))) limit big t ≡ total
walk_run left more limit big p s t total small all run so_far =
    let k : left ≡ suc more + (left - (more + 1)) = omega (arith, small) in
    let l : most_parts - (left - (more + 1)) ≡ most_parts - left + suc more = omega (arith, small, all) in
    let is : walk (suc more + (left - (more + 1))) (most_parts - left) limit big s ≡ total = subst (λ (n : ℕ). walk n (most_parts - left) limit big s ≡ total) k so_far in
    rw l (sym (walk_repeats (suc more) (left - (more + 1)) (most_parts - left) limit big p s t run) ∙ is)

pub walk_end : (left limit : ℕ) (big : Bool) (fs : List Open) (types : List ℕ) (at : ℕ) (rest : List ℕ) → 0 < left → is_done (state fs types at rest) ≡ true
    → walk left (most_parts - left) limit big (state fs types at rest) ≡ Ok (walked (most_parts - left) (spot_at at rest))
unfolding walk
walk_end zero limit big fs types at rest lt done = absurd (omega arith)
walk_end (suc n) limit big fs types at rest lt done = rw done refl

pub walk_left : (left so_far limit : ℕ) (big : Bool) (fs : List Open) (types : List ℕ) (at : ℕ) (rest : List ℕ) → left ≤ 0 → walk left so_far limit big (state fs types at rest) ≡ bad fault.Length at
unfolding walk
walk_left zero so_far limit big fs types at rest le = refl
walk_left (suc n) so_far limit big fs types at rest le = absurd (omega arith)

-- a walk that has a fault at its next part
pub walk_fault : (left so_far limit : ℕ) (big : Bool) (fs : List Open) (types : List ℕ) (at : ℕ) (rest : List ℕ) (e : Fault) → 0 < left → is_done (state fs types at rest) ≡ false → next_in limit big fs types at rest ≡ Err e
    → walk left so_far limit big (state fs types at rest) ≡ Err e
unfolding walk
walk_fault zero so_far limit big fs types at rest e lt more is = absurd (omega arith)
walk_fault (suc n) so_far limit big fs types at rest e lt more is = rw (more, is) refl

pub ruleset walk_rules = (walk_run, walk_end, walk_left, walk_fault)

-- a run is so many parts
parts_repeats : (n m limit : ℕ) (big : Bool) (p : Piece) (s t : State) → Repeats n p limit big s t → parts (n + m) limit big s ≡ again n p (parts m limit big t)
unfolding Repeats parts
parts_repeats zero m limit big p s t same = let k : zero + m ≡ m = omega arith in rw (k, same) refl
parts_repeats (suc n) m limit big p s t run =
    let k : suc n + m ≡ suc (n + m) = omega arith in
    rw (k, run.1, parts_repeats n m limit big p run.0 t run.2) refl

lasts_repeats : (n m limit : ℕ) (big : Bool) (p : Piece) (s t : State) → Repeats n p limit big s t → Lasts (n + m) limit big s → Lasts m limit big t
unfolding Repeats Lasts
lasts_repeats zero m limit big p s t same lasts = let k : zero + m ≡ m = omega arith in rw (k, same) at lasts
lasts_repeats (suc n) m limit big p s t run lasts =
    let k : suc n + m ≡ suc (n + m) = omega arith in
    lasts_repeats n m limit big p run.0 t run.2 (rw (k, run.1) at lasts)

pub parts_run : (left more limit : ℕ) (big : Bool) (p : Piece) (s t : State) → more + 1 ≤ left → Repeats (suc more) p limit big s t → parts left limit big s ≡ p ∷ again more p (parts (left - (more + 1)) limit big t)
parts_run left more limit big p s t small run =
    let k : suc more + (left - (more + 1)) ≡ left = omega (arith, small) in
    let e = parts_repeats (suc more) (left - (more + 1)) limit big p s t run in
    rw k at e

pub lasts_run : (left more limit : ℕ) (big : Bool) (p : Piece) (s t : State) → more + 1 ≤ left → Repeats (suc more) p limit big s t → Lasts left limit big s → Lasts (left - (more + 1)) limit big t
lasts_run left more limit big p s t small run lasts =
    let k : left ≡ suc more + (left - (more + 1)) = omega (arith, small) in
    lasts_repeats (suc more) (left - (more + 1)) limit big p s t run (subst (λ (n : ℕ). Lasts n limit big s) k lasts)

-- what comes several times, and what comes no more
pub again_first : (n : ℕ) (p : Piece) (ps : List Piece) → 0 < n → again n p ps ≡ p ∷ again (n - 1) p ps
again_first zero p ps pos = absurd (omega arith)
again_first (suc n) p ps pos = let k : suc n - 1 ≡ n = omega arith in rw k refl

pub again_none : (n : ℕ) (p : Piece) (ps : List Piece) → n ≤ 0 → again n p ps ≡ ps
again_none zero p ps none = refl
again_none (suc n) p ps none = absurd (omega arith)

-- a run of one part
pub parts_one : (left more limit : ℕ) (big : Bool) (p : Piece) (s t : State) → more ≡ 0 → 1 ≤ left → Repeats (suc more) p limit big s t → parts left limit big s ≡ p ∷ parts (left - 1) limit big t
parts_one left zero limit big p s t none some run = parts_run left zero limit big p s t (omega (arith, some)) run
parts_one left (suc more) limit big p s t none some run = absurd (omega (arith, none))

pub lasts_one : (left more limit : ℕ) (big : Bool) (p : Piece) (s t : State) → more ≡ 0 → 1 ≤ left → Repeats (suc more) p limit big s t → Lasts left limit big s → Lasts (left - 1) limit big t
lasts_one left zero limit big p s t none some run lasts = lasts_run left zero limit big p s t (omega (arith, some)) run lasts
lasts_one left (suc more) limit big p s t none some run lasts = absurd (omega (arith, none))

-- one part, after nothing was done
pub repeats_from : (limit : ℕ) (big : Bool) (p : Piece) (s t u : State) → t ≡ s → step limit big t ≡ Ok (p, u) → Repeats 1 p limit big s u
repeats_from limit big p s t u same one = repeats_first 0 limit big p s u u (subst (λ (x : State). step limit big x ≡ Ok (p, u)) same one) (repeats_none limit big p u)
