-- Globs, on lists of Unicode scalars.
use Rattle.std.specs.Prelude.{ℕ, ◌==◌, Bool, true, false, ◌&&◌, ◌||◌, if◌then◌else◌, List, [], ◌∷◌, ◌≢◌}
use Rattle.std.specs.Str.{chars}

-- The text is in the pattern: `?` (63) stands for one scalar, `*` (42) for any run of scalars, and every other scalar for itself.
pub data Glob : List ℕ → List ℕ → Type 0 where
  empty : Glob [] []
  one : {p s : List ℕ} {c : ℕ} → Glob p s → Glob (63 ∷ p) (c ∷ s)
  none : {p s : List ℕ} → Glob p s → Glob (42 ∷ p) s
  more : {p s : List ℕ} {c : ℕ} → Glob (42 ∷ p) s → Glob (42 ∷ p) (c ∷ s)
  same : {p s : List ℕ} {c : ℕ} → c ≢ 63 → c ≢ 42 → Glob p s → Glob (c ∷ p) (c ∷ s)

-- whether some suffix passes the test
abbrev pub some_suffix : (List ℕ → Bool) → List ℕ → Bool
some_suffix test [] = test []
some_suffix test (c ∷ s) = test (c ∷ s) || some_suffix test s

-- whether the first scalar is what the pattern's is, and the rest passes the test
abbrev pub first_is : ℕ → (List ℕ → Bool) → List ℕ → Bool
first_is q test [] = false
first_is q test (c ∷ s) = ((q == 63) || (q == c)) && test s

-- `Glob` as a test that computes
abbrev pub glob : List ℕ → List ℕ → Bool
glob [] [] = true
glob [] (c ∷ s) = false
glob (q ∷ p) s = if q == 42 then some_suffix (glob p) s else first_is q (glob p) s

-- whether the text of these bytes is in the pattern of those
abbrev pub matches : List ℕ → List ℕ → Bool
matches pattern text = glob (chars pattern) (chars text)
