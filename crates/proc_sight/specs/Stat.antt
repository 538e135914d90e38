-- The line of /proc/PID/stat: the pid, the name of the program in parentheses, and words. The name
-- may have any bytes, also spaces and parentheses.
use Rattle.std.specs.Prelude.{◌≡◌, ◌+◌, ◌<◌, ◌≤◌, List, [], ◌∷◌, ℕ, Option, None, Some, Result, Ok, Err, MatchOption, nat_le, nat_lt, get_or, if◌then◌else◌, length, take, drop}
use Rattle.std.specs.Borrow.{Bor}
use Rattle.memchr.specs.Find.{FindsNeedle, FindsLastNeedle}
use Rattle.pk_types.specs.Decimals.{decimal_up_to}
use Rattle.pk_types.specs.Pieces.{pieces_of}
use Rattle.proc_sight.specs.declared.stat.StatLine.{StatLine}
use Rattle.proc_sight.specs.declared.stat.StatFault.{StatFault}
use Rattle.proc_sight.specs.declared.stat.StatFault.TheVariants as fault
use Rattle.proc_sight.specs.declared.stat.TheConstants.{MAX_PID, MAX_START, BEFORE_START, PID_FIELD, START_FIELD}

-- The line with this pid and this start time, each a number or none.
abbrev pub with_numbers : Option ℕ → Option ℕ → Result StatLine StatFault
with_numbers None start = Err (fault.Number PID_FIELD)
with_numbers (Some pid) None = Err (fault.Number START_FIELD)
with_numbers (Some pid) (Some start) = Ok (record { pid = pid; start = start })

-- The line with these bytes before the name of the program, and these words after it. The first of
-- the words is field 3, so the one after the first 19 is field 22.
abbrev pub stat_of : List ℕ → List (List ℕ) → Result StatLine StatFault
stat_of pid words =
    if nat_le (length words) BEFORE_START then Err fault.Fields
    else with_numbers (decimal_up_to MAX_PID pid) (decimal_up_to MAX_START (get_or words BEFORE_START []))

-- The line whose first " (" and whose last ") " stand at these places, if they stand anywhere. 32 is
-- the space.
abbrev pub named_stat : List ℕ → Option ℕ → Option ℕ → Result StatLine StatFault
named_stat line None closing = Err fault.Parens
named_stat line (Some opening) None = Err fault.Parens
named_stat line (Some opening) (Some closing) =
    if nat_lt closing (opening + 2) then Err fault.Parens else stat_of (take opening line) (pieces_of 32 (drop (closing + 2) line))

-- What a line says: its name stands between the first " (" and the last ") ".
pub record IsStat (line : List ℕ) (result : Result StatLine StatFault) : Type 0 where
  pub opening : Option ℕ
  pub closing : Option ℕ
  pub opens : FindsNeedle line (32 ∷ 40 ∷ []) 0 opening
  pub closes : FindsLastNeedle line (41 ∷ 32 ∷ []) closing
  pub says : result ≡ named_stat line opening closing

-- The word at a place, and none where there are no more words than that.
abbrev pub HasWord : List (List ℕ) → ℕ → Option (Bor (List ℕ)) → Type 0
HasWord words place found = MatchOption found (length words ≤ place) (λ word. (place < length words) × (word.now ≡ get_or words place []))
