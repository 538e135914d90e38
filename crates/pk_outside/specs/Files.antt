-- What is told of a file that a station makes.
use Rattle.std.specs.Prelude.{◌≡◌, List, ℕ, Option, Some}

-- A file that came back: the path at which it was made, what was written to it, and its count of
-- faults.
pub record FileBack : Type 0 where
  pub path : List ℕ
  pub written : List ℕ
  pub faults : ℕ

-- What a file tells: its path, what it holds, and its count. It is this file that came back.
pub record FileTells (at held : Option (List ℕ)) (faults : ℕ) (file : FileBack) : Type 0 where
  pub path : at ≡ Some file.path
  pub written : held ≡ Some file.written
  pub count : faults ≡ file.faults
