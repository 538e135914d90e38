-- Lines, as they come: each is ended by CR LF, and has at most 512 bytes with its end.
use Rattle.std.specs.Prelude.{ℕ, ◌≢◌, ◌≤◌, ◌==◌, nat_lt, List, [], ◌∷◌, length, Option, Some, None, option_map, if◌then◌else◌}

-- a byte at the front of the first line
abbrev pub onto_line : ℕ → Option (List ℕ × List ℕ) → Option (List ℕ × List ℕ)
onto_line b None = None
onto_line b (Some (line, rest)) = Some (b ∷ line, rest)

-- the first line without its LF (10), and the bytes behind that
abbrev pub first_line : List ℕ → Option (List ℕ × List ℕ)
first_line [] = None
first_line (b ∷ bytes) = if b == 10 then Some ([], bytes) else onto_line b (first_line bytes)

-- what stands at the front of bytes: a whole line without its LF, and the rest; a part of a line; or more bytes than a line may have
pub data Front : Type 0 where
  Line : (line rest : List ℕ) → Front
  Part : Front
  Over : Front

-- a line has at most 511 bytes before its LF, and a part of a line at most 512
abbrev pub front_of : Option (List ℕ × List ℕ) → ℕ → Front
front_of (Some (line, rest)) len = if nat_lt (length line) 512 then Line line rest else Over
front_of None len = if nat_lt 512 len then Over else Part

unfoldable pub front : List ℕ → Front
front bytes = front_of (first_line bytes) (length bytes)

-- the text of a line without its LF: the line without its last byte, a CR (13)
abbrev pub text_of : List ℕ → Option (List ℕ)
text_of [] = None
text_of (b ∷ []) = if b == 13 then Some [] else None
text_of (b ∷ c ∷ line) = option_map (λ text. b ∷ text) (text_of (c ∷ line))

-- no byte ends a line
abbrev pub NoLineEnd : List ℕ → Type 0
NoLineEnd [] = Unit {0}
NoLineEnd (b ∷ bytes) = (b ≢ 10) × NoLineEnd bytes

-- the bytes of a line that has not ended
pub record IsOpenLine (line : List ℕ) : Type 0 where
  pub open_yet : NoLineEnd line
  pub fits : length line ≤ 512
