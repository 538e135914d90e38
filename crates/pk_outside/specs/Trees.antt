-- What a tree of files tells, and what it answers.
use Rattle.std.specs.Prelude.{◌≡◌, List, ℕ, Option, None, Some, Result, IfOk, IfSome, nat_lt, if◌then◌else◌, length, find, option_map}
use Rattle.std.specs.Str.{bytes_eq}
use Rattle.pk_outside.specs.declared.tree.Names.{Names}
use Rattle.pk_outside.specs.declared.tree.Names.TheVariants as names
use Rattle.pk_outside.specs.declared.tree.FileBytes.{FileBytes}
use Rattle.pk_outside.specs.declared.tree.FileBytes.TheVariants as file_bytes
use Rattle.pk_outside.specs.declared.tree.TreeDirectory.{TreeDirectory}
use Rattle.pk_outside.specs.declared.tree.TreeFile.{TreeFile}

-- All files and directories of a tree. Of two with one path the first counts.
pub record TreeTold : Type 0 where
  pub files : List TreeFile
  pub directories : List TreeDirectory

-- The bytes of the file that stands at the path.
abbrev pub file_at : List TreeFile → List ℕ → Option (List ℕ)
file_at files path = option_map (λ f. f.bytes) (find (λ f. bytes_eq f.path path) files)

-- The directory that stands at the path.
abbrev pub directory_at : List TreeDirectory → List ℕ → Option TreeDirectory
directory_at directories path = find (λ d. bytes_eq d.path path) directories

-- The names of a directory, and `Absent` exactly where there is none.
abbrev pub names_of : Option TreeDirectory → Names
names_of None = names.Absent
names_of (Some directory) = names.Listed directory.names directory.unnamed

-- The bytes of a file, `Absent` exactly where there is none, and `TooLong` exactly where it is longer
-- than the limit.
abbrev pub bytes_within : ℕ → Option (List ℕ) → FileBytes
bytes_within limit None = file_bytes.Absent
bytes_within limit (Some bytes) = if nat_lt limit (length bytes) then file_bytes.TooLong else file_bytes.Bytes bytes

-- The names that a tree listed are those that it tells.
abbrev pub ListsNames : {E : Type 0} → Option TreeTold → List ℕ → Result Names E → Type 0
ListsNames told path result = IfSome told (λ tree. IfOk result (λ found. found ≡ names_of (directory_at tree.directories path)))

-- The file that a tree read is the one that it tells.
abbrev pub ReadsFile : {E : Type 0} → Option TreeTold → List ℕ → ℕ → Result FileBytes E → Type 0
ReadsFile told path limit result = IfSome told (λ tree. IfOk result (λ found. found ≡ bytes_within limit (file_at tree.files path)))
