-- What a buffer of fixed room holds of the bytes that were put there.
use Rattle.std.specs.Prelude.{ℕ, ◌+◌, ◌-◌, ◌^◌, min, nat_le, length, List, [], ◌++◌, if◌then◌else◌}

-- how many bytes there is room for, how many were put, and what is kept of them
pub record Buffered : Type 0 where
  pub room : ℕ
  pub count : ℕ
  pub kept : List ℕ

-- a count stands still at its greatest value
abbrev pub counted : ℕ → ℕ → ℕ
counted count more = min (count + more) (2 ^ 64 - 1)

-- where more was put than there is room for nothing is kept
abbrev pub kept_within : ℕ → ℕ → List ℕ → List ℕ
kept_within room count bytes = if nat_le count room then bytes else []

-- nothing was put yet
abbrev pub emptied : ℕ → Buffered
emptied room = record { room = room; count = 0; kept = [] }

-- these bytes were put behind the others
unfoldable pub put : Buffered → List ℕ → Buffered
put b bytes = record {
  room = b.room;
  count = counted b.count (length bytes);
  kept = kept_within b.room (counted b.count (length bytes)) (b.kept ++ bytes);
}
