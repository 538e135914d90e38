-- Texts, seen as their bytes.
use Rattle.std.specs.Prelude.{ℕ, ◌==◌, Bool, true, false, ◌&&◌, ◌||◌, if◌then◌else◌, List, [], ◌∷◌, ◌++◌, Option, Some, None, codes, decimal, nat_lt}
use Rattle.std.specs.Option.{option_map_or}
use Rattle.pk_types.specs.Text.{is_blank}

-- a text is its bytes
abbrev pub Bytes : Type 0
Bytes = List ℕ

-- A byte in front of these bytes, which have these runs. It stands in the first of them, or where the test holds of the byte behind it, it is a run of its own.
abbrev pub run_joined : (ℕ → Bool) → ℕ → Bytes → List Bytes → List Bytes
run_joined parts b [] found = (b ∷ []) ∷ found
run_joined parts b (c ∷ bs) [] = (b ∷ []) ∷ []
run_joined parts b (c ∷ bs) (run ∷ found) = if parts c then (b ∷ []) ∷ run ∷ found else (b ∷ run) ∷ found

-- the longest runs of bytes at which the test does not hold
abbrev pub runs : (ℕ → Bool) → Bytes → List Bytes
runs parts [] = []
runs parts (b ∷ bs) = if parts b then runs parts bs else run_joined parts b bs (runs parts bs)

-- the words of a text: its longest runs without blanks
abbrev pub words : Bytes → List Bytes
words text = runs is_blank text

-- what is left of a text behind this prefix
abbrev pub after_front : Bytes → Bytes → Option Bytes
after_front [] text = Some text
after_front (b ∷ front) [] = None
after_front (b ∷ front) (c ∷ text) = if b == c then after_front front text else None

-- whether one text comes before another, by their bytes
abbrev pub comes_before : Bytes → Bytes → Bool
comes_before [] [] = false
comes_before [] (b ∷ bs) = true
comes_before (a ∷ xs) [] = false
comes_before (a ∷ xs) (b ∷ bs) = nat_lt a b || ((a == b) && comes_before xs bs)

-- the least of the texts, by their bytes
abbrev pub least_text : List Bytes → Option Bytes
least_text [] = None
least_text (x ∷ xs) = Some (option_map_or (λ y. if comes_before y x then y else x) (least_text xs) x)

-- the bus name of a connection: `:1.` and its number
abbrev pub bus_name : ℕ → Bytes
bus_name caller = codes ":1." ++ decimal caller
