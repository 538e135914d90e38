-- Paths, and what a tree tells of them.
use Rattle.std.specs.Prelude.{ℕ, ◌++◌, ◌∷◌, Option, Some, None, nat_lt, length, if◌then◌else◌}
use Rattle.pk_types.specs.declared.text.TheConstants.{MAX_TEXT}
use Rattle.pk_outside.specs.Trees.{TreeTold, directory_at, file_at, names_of, bytes_within}
use Rattle.pk_outside.specs.declared.tree.Names.{Names}
use Rattle.pk_outside.specs.declared.tree.Names.TheVariants as names
use Rattle.pk_outside.specs.declared.tree.FileBytes.{FileBytes}
use Rattle.pk_outside.specs.declared.tree.FileBytes.TheVariants as file
use Rattle.authority_model.specs.Words.{Bytes}

-- a name below a directory, with `/` (47) between them
abbrev pub with_name : Bytes → Bytes → Bytes
with_name directory name = directory ++ 47 ∷ name

-- the path of a name below a directory; nothing stands at a path of more than 65,535 bytes
abbrev pub below : Bytes → Bytes → Option Bytes
below directory name = if nat_lt MAX_TEXT (length (with_name directory name)) then None else Some (with_name directory name)

-- the names in the directory at a path
abbrev pub names_at : TreeTold → Option Bytes → Names
names_at tree None = names.Absent
names_at tree (Some path) = names_of (directory_at tree.directories path)

-- the file at a path, of which more than the limit is too long
abbrev pub bytes_at : TreeTold → ℕ → Option Bytes → FileBytes
bytes_at tree limit None = file.Absent
bytes_at tree limit (Some path) = bytes_within limit (file_at tree.files path)
