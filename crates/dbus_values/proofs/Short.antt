-- The steps that are found in short: over bytes and structures, and at the end of arrays and structures.
use Rattle.std.proofs.Common.{◌≡◌, ℕ, ◌+◌, ◌<◌, ◌≤◌, List, [], ◌∷◌, length, get_or, drop, Bool, true, false, eqb, ltb, Ok, Some, refl, arith}
use Rattle.std.proofs.lemmas.Bool.Decides.{nat_tests}
use Rattle.dbus_values.specs.Parts as part
use Rattle.dbus_values.specs.Opened.{Open, innermost, outer, is_variant}
use Rattle.dbus_values.specs.Opened as open_part
use Rattle.dbus_values.specs.Basics.{gap, zeros, byte_at, leaf_at}
use Rattle.dbus_values.proofs.Loops.{not_zero}
use Rattle.dbus_values.specs.Walk.{state, resume, resumed, enter, enter_struct, in_items, in_members, next_in}

anywhere : (at : ℕ) → gap 1 at ≡ 0
anywhere at = omega arith

-- where no variant is innermost, none ends with a value
resume_plain : (fs : List Open) (types : List ℕ) (at : ℕ) → is_variant (innermost fs) ≡ false → resume fs types at ≡ Ok (fs, types)
unfolding resume
resume_plain [] types at plain = refl
resume_plain (open_part.Items a b c d ∷ fs) types at plain = refl
resume_plain (open_part.Members ∷ fs) types at plain = refl
resume_plain (open_part.Key ∷ fs) types at plain = refl
resume_plain (open_part.Value ∷ fs) types at plain = refl
resume_plain (open_part.Closing ∷ fs) types at plain = refl
resume_plain (open_part.Inner a ∷ fs) types at plain = absurd cc

pub enter_byte : (limit : ℕ) (big : Bool) (fs : List Open) (sig : List ℕ) (at : ℕ) (bytes : List ℕ) → is_variant (innermost fs) ≡ false → 1 ≤ length sig → get_or sig 0 0 ≡ 121 → 1 ≤ length bytes
    → enter limit big fs sig at bytes ≡ Ok (part.Number 121 (get_or bytes 0 0), state fs (drop 1 sig) (at + 1) (drop 1 bytes))
unfolding enter zeros byte_at leaf_at resumed
enter_byte limit big fs [] at bytes plain long letter more = absurd (omega arith)
enter_byte limit big fs (c ∷ sig) at [] plain long letter more = absurd (omega arith)
enter_byte limit big fs (c ∷ sig) at (b ∷ bytes) plain long letter more =
    let k : c ≡ 121 = letter in
    rw (k, anywhere at, resume_plain fs sig (at + 1) plain) refl

pub enter_open : (limit : ℕ) (big : Bool) (fs : List Open) (sig : List ℕ) (at : ℕ) (bytes : List ℕ) → 1 ≤ length sig → 1 ≤ length (drop 1 sig) → get_or sig 0 0 ≡ 40 → (get_or (drop 1 sig) 0 0 ≡ 41 → ⊥) → gap 8 at ≡ 0 → length fs < limit
    → enter limit big fs sig at bytes ≡ Ok (part.Enter 40, state (open_part.Members ∷ fs) (drop 1 sig) at bytes)
unfolding enter zeros enter_struct
enter_open limit big fs [] at bytes long longer letter more whole room = absurd (omega arith)
enter_open limit big fs (a ∷ []) at bytes long longer letter more whole room = absurd (omega arith)
enter_open limit big fs (a ∷ c ∷ sig) at bytes long longer letter more whole room =
    let k : a ≡ 40 = letter in
    let ne : eqb c 41 ≡ false = grind (arith, nat_tests) in
    let lt : ltb (length fs) limit ≡ true = grind (arith, nat_tests) in
    rw (k, whole, lt, ne) refl

pub ruleset enter_rules = (enter_byte, enter_open)

pub items_enter : (limit : ℕ) (big : Bool) (fs : List Open) (item behind : List ℕ) (place : ℕ) (outside types : List ℕ) (at : ℕ) (bytes : List ℕ) → Some (open_part.Items item behind place outside) ≡ innermost fs → length types ≡ 0 → 1 ≤ length item → (get_or item 0 0 ≡ 123 → ⊥) → 1 ≤ length bytes
    → next_in limit big fs types at bytes ≡ enter limit big fs item at bytes
unfolding in_items
items_enter limit big [] item behind place outside types at bytes is none long other more = absurd cc
items_enter limit big (f ∷ fs) [] behind place outside types at bytes is none long other more = absurd (omega arith)
items_enter limit big (f ∷ fs) (c ∷ item) behind place outside (d ∷ types) at bytes is none long other more = absurd (omega arith)
items_enter limit big (f ∷ fs) (c ∷ item) behind place outside [] at bytes is none long other more =
    let e : f ≡ open_part.Items (c ∷ item) behind place outside = cc in
    let ne : eqb c 123 ≡ false = grind (arith, nat_tests) in
    let filled : eqb (length bytes) 0 ≡ false = not_zero (length bytes) (λ z. omega (arith, z)) in
    rw (e, filled, ne) refl

pub items_leave : (limit : ℕ) (big : Bool) (fs : List Open) (item behind : List ℕ) (place : ℕ) (outside types : List ℕ) (at : ℕ) (bytes : List ℕ) → Some (open_part.Items item behind place outside) ≡ innermost fs → length types ≡ 0 → length bytes ≡ 0 → is_variant (innermost (outer fs)) ≡ false
    → next_in limit big fs types at bytes ≡ Ok (part.Leave 97, state (outer fs) behind place outside)
unfolding in_items resumed
items_leave limit big [] item behind place outside types at bytes is none empty plain = absurd cc
items_leave limit big (f ∷ fs) item behind place outside (d ∷ types) at bytes is none empty plain = absurd (omega arith)
items_leave limit big (f ∷ fs) item behind place outside [] at (b ∷ bytes) is none empty plain = absurd (omega arith)
items_leave limit big (f ∷ fs) item behind place outside [] at [] is none empty plain =
    let e : f ≡ open_part.Items item behind place outside = cc in
    rw (e, resume_plain fs behind place plain) refl

pub ruleset item_rules = (items_enter, items_leave)

pub members_enter : (limit : ℕ) (big : Bool) (fs : List Open) (sig : List ℕ) (at : ℕ) (bytes : List ℕ) → Some open_part.Members ≡ innermost fs → 1 ≤ length sig → (get_or sig 0 0 ≡ 41 → ⊥)
    → next_in limit big fs sig at bytes ≡ enter limit big fs sig at bytes
unfolding in_members
members_enter limit big [] sig at bytes is long more = absurd cc
members_enter limit big (f ∷ fs) [] at bytes is long more = absurd (omega arith)
members_enter limit big (f ∷ fs) (c ∷ sig) at bytes is long more =
    let e : f ≡ open_part.Members = cc in
    let ne : eqb c 41 ≡ false = grind (arith, nat_tests) in
    rw (e, ne) refl

pub members_leave : (limit : ℕ) (big : Bool) (fs : List Open) (sig : List ℕ) (at : ℕ) (bytes : List ℕ) → Some open_part.Members ≡ innermost fs → 1 ≤ length sig → get_or sig 0 0 ≡ 41 → is_variant (innermost (outer fs)) ≡ false
    → next_in limit big fs sig at bytes ≡ Ok (part.Leave 40, state (outer fs) (drop 1 sig) at bytes)
unfolding in_members resumed
members_leave limit big [] sig at bytes is long letter plain = absurd cc
members_leave limit big (f ∷ fs) [] at bytes is long letter plain = absurd (omega arith)
members_leave limit big (f ∷ fs) (c ∷ sig) at bytes is long letter plain =
    let e : f ≡ open_part.Members = cc in
    let k : c ≡ 41 = letter in
    rw (e, k, resume_plain fs sig at plain) refl

pub ruleset member_rules = (members_enter, members_leave)
