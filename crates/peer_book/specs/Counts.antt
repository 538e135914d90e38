-- How many of the outputs to each connection each other one has collected.
use Rattle.std.specs.Prelude.{◌≡◌, ℕ, ◌==◌, ◌&&◌, if◌then◌else◌, List, Option, Some, None, unwrap_or}
use Rattle.std.specs.Map.{lookup}
use Rattle.authority_model.specs.declared.event.Event.{Event}
use Rattle.authority_model.specs.declared.event.Event.TheVariants.{Collect}
use Rattle.authority_model.specs.declared.journal.Entry.{Entry}

-- the count of a collector and a connection
abbrev pub count_found : List ((ℕ × ℕ) × ℕ) → ℕ → ℕ → Option ℕ
count_found counts by c = lookup (λ k. (by == k.0) && (c == k.1)) counts

-- the count of a collector and a connection, or 0
abbrev pub collected_in : List ((ℕ × ℕ) × ℕ) → ℕ → ℕ → ℕ
collected_in counts by c = unwrap_or (count_found counts by c) 0

-- the count of a collector and a connection is this one, and every other count is as it was
abbrev pub NotesCount : ℕ → ℕ → ℕ → List ((ℕ × ℕ) × ℕ) → List ((ℕ × ℕ) × ℕ) → Type 0
NotesCount by of count old new = (b c : ℕ) → collected_in new b c ≡ (if (by == b) && (of == c) then count else collected_in old b c)

-- the connection whose outputs an event takes
abbrev pub collects : Event → Option ℕ
collects (Collect of) = Some of
collects _ = None

-- the count of a collector and a connection after an event of a caller, where each connection was sent so many outputs
abbrev pub count_after : ℕ → Option ℕ → (ℕ → ℕ) → ℕ → ℕ → ℕ → ℕ
count_after caller None sent by c n = n
count_after caller (Some of) sent by c n = if (caller == by) && (of == c) then sent of else n

-- a Collect counts what its connection was sent, and every other count is as it was
abbrev pub CarriesCounts : Entry → (ℕ → ℕ) → List ((ℕ × ℕ) × ℕ) → List ((ℕ × ℕ) × ℕ) → Type 0
CarriesCounts entry sent old new = (by c : ℕ) → collected_in new by c ≡ count_after entry.caller (collects entry.event) sent by c (collected_in old by c)
