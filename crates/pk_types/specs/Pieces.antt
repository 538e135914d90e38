-- The pieces of bytes between separators, and the lines of bytes.
use Rattle.std.specs.Prelude.{◌≡◌, ◌≢◌, ℕ, ◌==◌, List, [], ◌∷◌, ◌++◌, if◌then◌else◌}

-- The separator stands nowhere in the bytes.
abbrev pub Lacks : ℕ → List ℕ → Type 0
Lacks separator [] = Unit {0}
Lacks separator (byte ∷ bytes) = (byte ≢ separator) × Lacks separator bytes

-- The bytes are cut in two at the first separator, which is in neither part.
pub record IsCut (separator : ℕ) (bytes front after : List ℕ) : Type 0 where
  pub whole : bytes ≡ front ++ separator ∷ after
  pub first : Lacks separator front

-- A byte put before the first piece.
abbrev pub onto_first : ℕ → List (List ℕ) → List (List ℕ)
onto_first byte [] = (byte ∷ []) ∷ []
onto_first byte (piece ∷ pieces) = (byte ∷ piece) ∷ pieces

-- The pieces between the separators: one more than there are separators.
abbrev pub pieces_of : ℕ → List ℕ → List (List ℕ)
pieces_of separator [] = [] ∷ []
pieces_of separator (byte ∷ bytes) =
    if byte == separator then [] ∷ pieces_of separator bytes else onto_first byte (pieces_of separator bytes)

-- The lines: LF, the byte 10, ends each and is no part of it. The end of the bytes ends a last line
-- that has a byte.
abbrev pub lines_of : List ℕ → List (List ℕ)
lines_of [] = []
lines_of (byte ∷ bytes) = if byte == 10 then [] ∷ lines_of bytes else onto_first byte (lines_of bytes)
