-- What is told of a link: with what it was given, and with what it came back.
use Rattle.std.specs.Prelude.{◌≡◌, List, ℕ, Option, Some, option_map}

-- The path that a link was dialled at, which counts for a dialled link alone, and all of the bytes
-- that it gives.
pub record Origin : Type 0 where
  pub path : List ℕ
  pub bytes : List ℕ

-- The bytes of a link that is told, before any was read.
abbrev pub bytes_of : Option Origin → Option (List ℕ)
bytes_of origin = option_map (λ o. o.bytes) origin

-- A link that was taken back: its bytes as they were given, those that are left, those that were
-- written to it, and the counts of its two directions.
pub record LinkBack : Type 0 where
  pub given : List ℕ
  pub left : List ℕ
  pub written : List ℕ
  pub read_faults : ℕ
  pub write_faults : ℕ

-- A dialled link that was hung up, with the path that it was dialled at.
pub record Hung : Type 0 where
  pub path : List ℕ
  pub link : LinkBack

-- What the two ends of a link tell: the origin and the rest of the one, what the other holds, and
-- both counts. It is this link that came back.
pub record EndsTell (origin : Option Origin) (rest held : Option (List ℕ)) (input_faults output_faults : ℕ) (path : List ℕ) (link : LinkBack) : Type 0 where
  pub given : origin ≡ Some (record { path = path; bytes = link.given })
  pub left : rest ≡ Some link.left
  pub written : held ≡ Some link.written
  pub read_faults : input_faults ≡ link.read_faults
  pub write_faults : output_faults ≡ link.write_faults
