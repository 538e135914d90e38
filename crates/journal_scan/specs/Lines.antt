-- The `connection` lines: the number and the uid of each connection that was served, and the number of its sighter.
use Rattle.std.specs.Prelude.{◌≡◌, ◌≢◌, ℕ, ◌==◌, ◌||◌, ⊤, Bool, true, false, if◌then◌else◌, List, [], ◌∷◌, Option, Some, None}
use Rattle.std.specs.Option.{option_map_or}
use Rattle.authority_model.specs.Lists.{Each}
use Rattle.journal_scan.specs.declared.lines.ConnectionLine.{ConnectionLine}

-- the uid on the line of a connection, if it has one
abbrev pub uid_on : List ConnectionLine → ℕ → Option ℕ
uid_on [] c = None
uid_on (l ∷ lines) c = if l.number == c then Some l.uid else uid_on lines c

-- whether a number is that of a line's sighter
abbrev pub watched_by : ConnectionLine → ℕ → Bool
watched_by l n = option_map_or (λ s. s == n) l.sighter false

-- whether a number is that of a sighter
abbrev pub is_sighter : List ConnectionLine → ℕ → Bool
is_sighter [] n = false
is_sighter (l ∷ lines) n = watched_by l n || is_sighter lines n

-- whether a number is the line's own or its sighter's
abbrev pub is_number : ConnectionLine → ℕ → Bool
is_number l n = (l.number == n) || watched_by l n

-- no line and no sighter has this number
abbrev pub IsFree : List ConnectionLine → ℕ → Type 0
IsFree lines n = Each (λ l. is_number l n ≡ false) lines

-- A line has numbers of its own: its sighter's is not 0 and not that of the connection, and none of the two is a number of these lines.
pub record HasOwnNumbers (lines : List ConnectionLine) (l : ConnectionLine) : Type 0 where
  pub sighter : (s : ℕ) → l.sighter ≡ Some s → (s ≢ 0) × (s ≢ l.number)
  pub others : (n : ℕ) → is_number l n ≡ true → IsFree lines n

-- the numbers of the lines and of their sighters differ
abbrev pub NumbersDiffer : List ConnectionLine → Type 0
NumbersDiffer [] = ⊤
NumbersDiffer (l ∷ lines) = HasOwnNumbers lines l × NumbersDiffer lines
