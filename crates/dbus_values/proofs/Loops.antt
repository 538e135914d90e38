-- Counting down, as a loop over a range does.
use Rattle.std.proofs.Common.{◌≡◌, ℕ, zero, suc, ◌+◌, ◌-◌, ◌<◌, ◌≤◌, List, [], ◌∷◌, length, get_or, drop, Bool, true, false, cond, eqb, Ok, Result, Option, None, Some, refl, sym, ◌∙◌, arith}
use Rattle.std.proofs.lemmas.Bool.Decides.{nat_tests}
use Rattle.std.specs.Option.{option_and_then}
use Rattle.dbus_values.specs.declared.class.Class.{Class}
use Rattle.dbus_values.specs.declared.class.Class.TheVariants as class
use Rattle.dbus_values.specs.Types.{class_of}
use Rattle.dbus_values.specs.Signatures.{are_types, types_on, after_type, members_end, members_on, type_end, type_by}
use Rattle.dbus_values.specs.declared.fault.Fault.{Fault}
use Rattle.dbus_values.specs.declared.fault.FaultKind.TheVariants as fault
use Rattle.dbus_values.specs.Reading.{Spot, bad, spot_at}
use Rattle.dbus_values.specs.Basics.{zeros}
use Rattle.dbus_values.specs.Reading.{◌>>=◌}
use Rattle.dbus_values.specs.Header.{Header, field_at, fields_at}

pub down : (n i : ℕ) → i < n → n - i ≡ suc (n - (i + 1))
down n i lt = omega arith

pub ended_at : (n i : ℕ) → n ≤ i → n - i ≡ 0
ended_at n i le = omega arith

pub zeros_none : (n at : ℕ) (bytes : List ℕ) → n ≡ 0 → zeros n at bytes ≡ Ok (spot_at at bytes)
unfolding zeros
zeros_none zero at bytes is = refl
zeros_none (suc n) at bytes is = absurd (omega arith)

pub zeros_step : (n i at : ℕ) (rest : List ℕ) (total : Result Spot Fault) → i < n → 1 ≤ length rest → get_or rest 0 0 ≡ 0 → zeros (n - i) at rest ≡ total → zeros (n - (i + 1)) (at + 1) (drop 1 rest) ≡ total
unfolding zeros
zeros_step n i at [] total lt long is so_far = absurd (omega arith)
zeros_step n i at (b ∷ rest) total lt long is so_far =
    let k : n - i ≡ suc (n - (i + 1)) = omega arith in
    let one : zeros (n - i) at (b ∷ rest) ≡ zeros (n - (i + 1)) (at + 1) rest = rw (k, is) refl in
    sym one ∙ so_far

-- one more member of a structure
pub members_step : (step : List ℕ → Option (List ℕ)) (n i : ℕ) (here : List ℕ) → i < n → members_end step (n - i) here ≡ option_and_then (λ rest. members_on (members_end step (n - (i + 1))) rest) (step here)
unfolding members_end
members_step step n i here lt = let k : n - i ≡ suc (n - (i + 1)) = omega arith in rw k refl

pub members_none : (step : List ℕ → Option (List ℕ)) (n i : ℕ) (here : List ℕ) → n ≤ i → members_end step (n - i) here ≡ None
unfolding members_end
members_none step n i here le = let k : n - i ≡ 0 = omega arith in rw k refl

-- a structure that is closed
pub members_closed : (step : List ℕ → Option (List ℕ)) (n i : ℕ) (here rest : List ℕ) (total : Option (List ℕ)) → i < n → step here ≡ Some rest → 1 ≤ length rest → get_or rest 0 0 ≡ 41 → members_end step (n - i) here ≡ total → Some (drop 1 rest) ≡ total
unfolding members_end
members_closed step n i here [] total lt is long closed so_far = absurd (omega arith)
members_closed step n i here (c ∷ rest) total lt is long closed so_far =
    let one : members_end step (n - i) here ≡ Some rest = rw (members_step step n i here lt, is, closed) refl in
    sym one ∙ so_far

-- the first letter of a type
pub type_step : (level arrays structs c : ℕ) (sig : List ℕ) → 0 < level → type_end level arrays structs (c ∷ sig) ≡ type_by (class_of c) (type_end (level - 1)) arrays structs sig
unfolding type_end
type_step zero arrays structs c sig lt = absurd (omega arith)
type_step (suc level) arrays structs c sig lt = let k : suc level - 1 ≡ level = omega arith in rw k refl

pub type_at : (k : Class) (level arrays structs : ℕ) (sig : List ℕ) → (level ≡ 0 → ⊥) → 1 ≤ length sig → k ≡ class_of (get_or sig 0 0) → type_end level arrays structs sig ≡ type_by k (type_end (level - 1)) arrays structs (drop 1 sig)
type_at k level arrays structs [] lt long is = absurd (omega arith)
type_at k level arrays structs (c ∷ sig) lt long is = rw is (type_step level arrays structs c sig (omega arith))

-- a basic type or a variant is one letter
pub type_plain : (k : Class) (inner : ℕ → ℕ → List ℕ → Option (List ℕ)) (arrays structs : ℕ) (sig : List ℕ) → (k ≡ class.Array → ⊥) → (k ≡ class.Struct → ⊥) → (k ≡ class.Entry → ⊥) → (k ≡ class.Other → ⊥) → type_by k inner arrays structs sig ≡ Some sig
type_plain class.Array inner arrays structs sig p q r o = absurd (p refl)
type_plain class.Struct inner arrays structs sig p q r o = absurd (q refl)
type_plain class.Entry inner arrays structs sig p q r o = absurd (r refl)
type_plain class.Other inner arrays structs sig p q r o = absurd (o refl)
type_plain _ inner arrays structs sig p q r o = refl

pub type_none : (level arrays structs : ℕ) → type_end level arrays structs [] ≡ None
unfolding type_end
type_none zero arrays structs = refl
type_none (suc level) arrays structs = refl

pub ruleset members_rules = (members_step, members_none)

-- what a test for emptiness says
pub filled : {A : Type 0} (s : List A) (b : Bool) → b ≡ eqb (length s) 0 → b ≡ false → 1 ≤ length s
filled [] b p q = absurd (cc)
filled (x ∷ s) b p q = omega arith

pub not_zero : (n : ℕ) → (n ≡ 0 → ⊥) → eqb n 0 ≡ false
not_zero n h = grind (arith, nat_tests)

pub type_empty : (sig : List ℕ) (b : Bool) → b ≡ eqb (length sig) 0 → b ≡ true → None ≡ type_end 65 32 32 sig
type_empty [] b is empty = sym (type_none 65 32 32)
type_empty (c ∷ sig) b is empty =
    let not : eqb (length (c ∷ sig)) 0 ≡ false = not_zero (length (c ∷ sig)) (λ e. omega (arith, e)) in
    absurd cc

-- one more type of a signature
pub types_step : (n i : ℕ) (here : List ℕ) → i < n → (eqb (length here) 0 ≡ false) → are_types (n - i) here ≡ types_on (are_types (n - (i + 1))) (after_type here)
unfolding are_types
types_step n i here lt long = let k : n - i ≡ suc (n - (i + 1)) = omega arith in rw (k, long) refl

pub types_end : (n : ℕ) (here : List ℕ) → (eqb (length here) 0 ≡ true) → are_types n here ≡ true
unfolding are_types
types_end zero here none = none
types_end (suc n) here none = rw none refl

pub types_left : (n i : ℕ) (here : List ℕ) → n ≤ i → are_types (n - i) here ≡ eqb (length here) 0
unfolding are_types
types_left n i here le = let k : n - i ≡ 0 = omega arith in rw k refl

pub ruleset types_rules = (types_step, types_end, types_left)

pub zeros_take : (n at : ℕ) (bytes : List ℕ) (p : Spot) → zeros n at bytes ≡ Ok p → (p.at ≡ at + n) × (length p.rest + n ≡ length bytes)
unfolding zeros
zeros_take zero at bytes p e = let s : spot_at at bytes ≡ p = cc in rw (← s) (omega arith, omega arith)
zeros_take (suc n) at [] p e = absurd cc
zeros_take (suc n) at (b ∷ bytes) p e = go (eqb b 0) (zeros_take n (at + 1) bytes p) e where
  go : (t : Bool) → (zeros n (at + 1) bytes ≡ Ok p → (p.at ≡ at + 1 + n) × (length p.rest + n ≡ length bytes)) → cond t (zeros n (at + 1) bytes) (bad fault.Padding at) ≡ Ok p → (p.at ≡ at + suc n) × (length p.rest + suc n ≡ length (b ∷ bytes))
  go true ih f = let h = ih f in (omega (arith, h.0), omega (arith, h.1))
  go false ih f = absurd cc

-- one more field
pub fields_step : (n i : ℕ) (big : Bool) (h : Header) (at : ℕ) (bytes : List ℕ) → i < n → eqb (length bytes) 0 ≡ false → fields_at (n - i) big h at bytes ≡ (field_at big h at bytes >>= λ x. fields_at (n - (i + 1)) big x.0 x.1.at x.1.rest)
unfolding fields_at
fields_step n i big h at bytes lt long = let k : n - i ≡ suc (n - (i + 1)) = omega arith in rw (k, long) refl

pub fields_end : (n : ℕ) (big : Bool) (h : Header) (at : ℕ) (bytes : List ℕ) → eqb (length bytes) 0 ≡ true → fields_at n big h at bytes ≡ Ok h
unfolding fields_at
fields_end zero big h at bytes none = rw none refl
fields_end (suc n) big h at bytes none = rw none refl

pub fields_left : (n i : ℕ) (big : Bool) (h : Header) (at : ℕ) (bytes : List ℕ) → n ≤ i → eqb (length bytes) 0 ≡ false → fields_at (n - i) big h at bytes ≡ bad fault.Length at
unfolding fields_at
fields_left n i big h at bytes le long = let k : n - i ≡ 0 = omega arith in rw (k, long) refl

pub ruleset fields_rules = (fields_step, fields_end, fields_left)
