-- What may be written to a sink.
use Rattle.std.specs.Prelude.{◌≡◌, ℕ, ⊤, List, ◌++◌, Option, None, Some}

-- These bytes may be written where this is held: together they are a text that the rule allows. Nothing is asked where the sink does not tell what it holds.
abbrev pub MayGo : (List ℕ → Type 0) → Option (List ℕ) → List ℕ → Type 0
MayGo Allowed None bytes = ⊤
MayGo Allowed (Some held) bytes = Allowed (held ++ bytes)

-- The text begins with this prefix.
abbrev pub IsFront : List ℕ → List ℕ → Type 0
IsFront front text = (rest : List ℕ) × (text ≡ front ++ rest)

-- Any text is allowed.
abbrev pub IsFree : (List ℕ → Type 0) → Type 0
IsFree Allowed = (text : List ℕ) → Allowed text

-- Each prefix of the text may be written where this is held.
abbrev pub MayFronts : (List ℕ → Type 0) → Option (List ℕ) → List ℕ → Type 0
MayFronts Allowed held text = (front : List ℕ) → IsFront front text → MayGo Allowed held front
