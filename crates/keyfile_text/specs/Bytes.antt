-- Blanks, cuts, and bytes that may stand in a text.
use Rattle.std.specs.Prelude.{ℕ, ◌≢◌, ◌==◌, Bool, ◌||◌, ◌&&◌, List, [], ◌∷◌, length, Option, Some, None, if◌then◌else◌}
use Rattle.std.specs.Str.{IsUtf8}
use Rattle.pk_types.specs.Text.{NoZero, is_blank}

abbrev pub is_empty : List ℕ → Bool
is_empty bytes = length bytes == 0

-- the bytes without the blanks at their start, at their end, and at both
abbrev pub trim_front : List ℕ → List ℕ
trim_front [] = []
trim_front (b ∷ bytes) = if is_blank b then trim_front bytes else b ∷ bytes

abbrev pub trim_back : List ℕ → List ℕ
trim_back [] = []
trim_back (b ∷ bytes) = if is_blank b && is_empty (trim_back bytes) then [] else b ∷ trim_back bytes

unfoldable pub trim : List ℕ → List ℕ
trim bytes = trim_back (trim_front bytes)

-- a byte at the front of what stands before a cut
abbrev pub onto_front : ℕ → Option (List ℕ × List ℕ) → Option (List ℕ × List ℕ)
onto_front b None = None
onto_front b (Some (before, behind)) = Some (b ∷ before, behind)

-- what stands before the first such byte, and what stands behind it
abbrev pub cut_at : ℕ → List ℕ → Option (List ℕ × List ℕ)
cut_at at [] = None
cut_at at (b ∷ bytes) = if b == at then Some ([], bytes) else onto_front b (cut_at at bytes)

-- UTF-8 without byte 0
pub record IsClean (bytes : List ℕ) : Type 0 where
  pub utf8 : IsUtf8 bytes
  pub no_zero : NoZero bytes
