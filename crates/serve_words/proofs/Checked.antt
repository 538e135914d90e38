-- Doors are checked one after another, and none is kept.
use Rattle.std.proofs.Common.{◌≡◌, ℕ, ◌+◌, ◌*◌, ◌-◌, ◌/◌, ◌==◌, Bool, true, false, cond, List, [], ◌∷◌, ◌++◌, Option, Some, None, refl, ap, ◌∙◌, length, length-append, arith}
use Rattle.std.specs.Prelude.{codes, is_some, nat_le, not, ◌&&◌, option_and_then}
use Rattle.std.specs.Str.{bytes_eq}
use Rattle.command_line.specs.declared.door.DoorPath.{DoorPath}
use Rattle.command_line.specs.Doors.{door_of}
use Rattle.serve_words.specs.declared.amounts.Amounts.{Amounts}
use Rattle.serve_words.specs.declared.plan.ServePlan.{ServePlan}
use Rattle.serve_words.specs.Doors.{Leaves, SoFar}
use Rattle.serve_words.specs.Plans.{amounts_in, doors_from, plan_from, planned, value_of}
use Rattle.serve_words.proofs.Doors.{door_read, door_step, doors_end}

-- an option and its value are two words
two_words : (name : List ℕ) (words : List (List ℕ)) (value : List ℕ) (rest : List (List ℕ)) → value_of name words ≡ Some (value, rest) → length words ≡ 2 + length rest
two_words name [] value rest is = cc
two_words name (option ∷ []) value rest is = cc
two_words name (option ∷ word ∷ words) value rest is = tested (bytes_eq option name) is
  where
    tested : (b : Bool) → cond {A = Option (List ℕ × List (List ℕ))} b (Some (word, words)) None ≡ Some (value, rest) → length (option ∷ word ∷ words) ≡ 2 + length rest
    tested true same =
        let pair : (word, words) ≡ (value, rest) = cc in
        let l : length words ≡ length rest = ap (λ (p : List ℕ × List (List ℕ)). length p.1) pair in
        omega (arith, l)
    tested false same = cc

pub none_so_far : (words : List (List ℕ)) → SoFar words words
none_so_far words = record { doors = []; same = refl; count = omega arith }

-- one more door is of the form
pub one_more : (words left : List (List ℕ)) (door : List ℕ) (later : List (List ℕ)) → SoFar words left → value_of (codes "--door") left ≡ Some (door, later) → is_some (door_of door) ≡ true → SoFar words later
one_more words left door later before found is = named (door_of door) refl is
  where
    named : (d : Option DoorPath) → door_of door ≡ d → is_some d ≡ true → SoFar words later
    named None e is = cc
    named (Some d) e is =
        let two = two_words (codes "--door") left door later found in
        let one : length (before.doors ++ d ∷ []) ≡ length before.doors + 1 = length-append before.doors (d ∷ []) in
        let before_count = before.count in
        record {
          doors = before.doors ++ d ∷ [];
          same = before.same ∙ door_step before.doors left door later d (before.doors ++ d ∷ []) found e refl;
          count = omega (arith, two, one, before_count);
        }

-- a word is no door
pub not_a_door : (words left : List (List ℕ)) (door : List ℕ) (later : List (List ℕ)) → SoFar words left → value_of (codes "--door") left ≡ Some (door, later) → is_some (door_of door) ≡ false → doors_from [] words ≡ None
not_a_door words left door later before found is = named (door_of door) refl is
  where
    named : (d : Option DoorPath) → door_of door ≡ d → is_some d ≡ false → doors_from [] words ≡ None
    named (Some d) e is = cc
    named None e is =
        before.same ∙ door_read before.doors left door later found ∙ ap (option_and_then (λ (x : DoorPath). doors_from (before.doors ++ x ∷ []) later)) e

-- all doors were read
pub all_read : (words left : List (List ℕ)) → SoFar words left → value_of (codes "--door") left ≡ None → Leaves words left
all_read words left before none = record { doors = before.doors; read = before.same ∙ doors_end before.doors left none; count = before.count }

-- whether there is a plan of these doors and amounts
planned_is : (root : List ℕ) (doors : List DoorPath) (a : Amounts) → is_some (planned root doors a) ≡ (not (length doors == 0) && nat_le (a.slots * length doors) 64)
planned_is root doors a = tested (not (length doors == 0) && nat_le (a.slots * length doors) 64) _
  where
    tested : (b : Bool) (p : ServePlan) → is_some (cond {A = Option ServePlan} b (Some p) None) ≡ b
    tested true p = refl
    tested false p = refl

pub no_doors : (root : List ℕ) (words : List (List ℕ)) → doors_from [] words ≡ None → is_some (plan_from root words) ≡ false
no_doors root words none = ap (λ (d : Option (List DoorPath × List (List ℕ))). is_some (option_and_then (λ (named : List DoorPath × List (List ℕ)). option_and_then (planned root named.0) (amounts_in named.1)) d)) none

pub no_amounts : (root : List ℕ) (words rest : List (List ℕ)) → Leaves words rest → amounts_in rest ≡ None → is_some (plan_from root words) ≡ false
no_amounts root words rest leaves none =
    ap (λ (d : Option (List DoorPath × List (List ℕ))). is_some (option_and_then (λ (named : List DoorPath × List (List ℕ)). option_and_then (planned root named.0) (amounts_in named.1)) d)) leaves.read
    ∙ ap (λ (a : Option Amounts). is_some (option_and_then (planned root leaves.doors) a)) none

pub with_amounts : (root : List ℕ) (words rest : List (List ℕ)) (a : Amounts) (n : ℕ) → Leaves words rest → amounts_in rest ≡ Some a → n ≡ (length words - length rest) / 2
    → is_some (plan_from root words) ≡ (not (n == 0) && nat_le (a.slots * n) 64)
with_amounts root words rest a n leaves some is =
    let count = leaves.count in
    let same : length leaves.doors ≡ n = omega (arith, count, is) in
    ap (λ (d : Option (List DoorPath × List (List ℕ))). is_some (option_and_then (λ (named : List DoorPath × List (List ℕ)). option_and_then (planned root named.0) (amounts_in named.1)) d)) leaves.read
    ∙ ap (λ (x : Option Amounts). is_some (option_and_then (planned root leaves.doors) x)) some
    ∙ planned_is root leaves.doors a
    ∙ ap (λ (k : ℕ). not (k == 0) && nat_le (a.slots * k) 64) same
