-- One door after another.
use Rattle.std.proofs.Common.{◌≡◌, ℕ, Bool, true, false, cond, List, [], ◌∷◌, ◌++◌, Option, Some, None, refl, ap, sym, ◌∙◌, length, ◌<◌, arith}
use Rattle.std.specs.Prelude.{codes, option_and_then}
use Rattle.std.specs.Str.{bytes_eq}
use Rattle.command_line.specs.declared.door.DoorPath.{DoorPath}
use Rattle.command_line.specs.Doors.{door_of}
use Rattle.serve_words.specs.Plans.{doors_from, value_of}

-- a door is read, and then those behind it
pub door_read : (doors : List DoorPath) (words : List (List ℕ)) (door : List ℕ) (rest : List (List ℕ)) → value_of (codes "--door") words ≡ Some (door, rest)
    → doors_from doors words ≡ option_and_then (λ d. doors_from (doors ++ d ∷ []) rest) (door_of door)
door_read doors [] door rest is = cc
door_read doors (option ∷ []) door rest is = cc
door_read doors (option ∷ word ∷ words) door rest is = tested (bytes_eq option (codes "--door")) is
  where
    tested : (b : Bool) → cond {A = Option (List ℕ × List (List ℕ))} b (Some (word, words)) None ≡ Some (door, rest)
        → cond {A = Option (List DoorPath × List (List ℕ))} b (option_and_then (λ (d : DoorPath). doors_from (doors ++ d ∷ []) words) (door_of word)) (Some (doors, option ∷ word ∷ words)) ≡ option_and_then (λ (d : DoorPath). doors_from (doors ++ d ∷ []) rest) (door_of door)
    tested true same =
        let pair : (word, words) ≡ (door, rest) = cc in
        ap (λ (p : List ℕ × List (List ℕ)). option_and_then (λ (d : DoorPath). doors_from (doors ++ d ∷ []) p.1) (door_of p.0)) pair
    tested false same = cc

-- no door is left
pub doors_end : (doors : List DoorPath) (words : List (List ℕ)) → value_of (codes "--door") words ≡ None → doors_from doors words ≡ Some (doors, words)
doors_end doors [] is = refl
doors_end doors (option ∷ []) is = refl
doors_end doors (option ∷ word ∷ words) is = tested (bytes_eq option (codes "--door")) is
  where
    tested : (b : Bool) → cond {A = Option (List ℕ × List (List ℕ))} b (Some (word, words)) None ≡ None
        → cond {A = Option (List DoorPath × List (List ℕ))} b (option_and_then (λ (d : DoorPath). doors_from (doors ++ d ∷ []) words) (door_of word)) (Some (doors, option ∷ word ∷ words)) ≡ Some (doors, option ∷ word ∷ words)
    tested true same = cc
    tested false same = refl

-- fewer words are left behind a door
pub fewer_words : (words : List (List ℕ)) (door : List ℕ) (rest : List (List ℕ)) → value_of (codes "--door") words ≡ Some (door, rest) → length rest < length words
fewer_words [] door rest is = cc
fewer_words (option ∷ []) door rest is = cc
fewer_words (option ∷ word ∷ words) door rest is = tested (bytes_eq option (codes "--door")) is
  where
    tested : (b : Bool) → cond {A = Option (List ℕ × List (List ℕ))} b (Some (word, words)) None ≡ Some (door, rest) → length rest < length (option ∷ word ∷ words)
    tested true same =
        let pair : (word, words) ≡ (door, rest) = cc in
        let l : length words ≡ length rest = ap (λ (p : List ℕ × List (List ℕ)). length p.1) pair in
        omega (arith, l)
    tested false same = cc

-- with one door more, what is left gives the same
pub door_step : (doors : List DoorPath) (words : List (List ℕ)) (door : List ℕ) (rest : List (List ℕ)) (d : DoorPath) (more : List DoorPath)
    → value_of (codes "--door") words ≡ Some (door, rest) → door_of door ≡ Some d → more ≡ doors ++ d ∷ [] → doors_from doors words ≡ doors_from more rest
door_step doors words door rest d more found is grown =
    door_read doors words door rest found
    ∙ ap (option_and_then (λ (e : DoorPath). doors_from (doors ++ e ∷ []) rest)) is
    ∙ ap (λ (ds : List DoorPath). doors_from ds rest) (sym grown)
