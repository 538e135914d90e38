-- The words behind the doors.
use Rattle.std.specs.Prelude.{◌≡◌, ℕ, ◌+◌, ◌*◌, List, [], Some, length}
use Rattle.command_line.specs.declared.door.DoorPath.{DoorPath}
use Rattle.serve_words.specs.Plans.{doors_from}

-- The words begin with these doors, and the rest follows; each door takes two words.
pub record Leaves (words : List (List ℕ)) (rest : List (List ℕ)) : Type 0 where
  pub doors : List DoorPath
  pub read : doors_from [] words ≡ Some (doors, rest)
  pub count : length words ≡ 2 * length doors + length rest

-- These doors were read of the words, and these words are left.
pub record SoFar (words : List (List ℕ)) (left : List (List ℕ)) : Type 0 where
  pub doors : List DoorPath
  pub same : doors_from [] words ≡ doors_from doors left
  pub count : length words ≡ 2 * length doors + length left
