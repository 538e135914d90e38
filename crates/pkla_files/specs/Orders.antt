-- The order in which the files of several directories are evaluated.
use Rattle.std.specs.Prelude.{◌≡◌, ℕ, List, map, flat_map, IsPermutation, IsSorted}
use Rattle.std.specs.List.{enumerate_from}
use Rattle.std.specs.declared.cmp.Ordering.{Ordering}
use Rattle.std.specs.Ordering.{nat_cmp, ordering_then}
use Rattle.std.specs.Cmp.Lexicographic.{slice_cmp}
use Rattle.authority_model.specs.Words.{Bytes}
use Rattle.pkla_files.specs.declared.directories.Root.{Root}
use Rattle.pkla_files.specs.declared.directories.Dir.{Dir}
use Rattle.pkla_files.specs.declared.directories.FilePlace.{FilePlace}
use Rattle.pkla_files.specs.declared.file_order.FileRef.{FileRef}

-- a file with all that orders it
pub record FileKey : Type 0 where
  pub directory : Bytes
  pub root : Root
  pub name : Bytes
  pub place : FilePlace

abbrev pub file_key : FileRef → FileKey
file_key file = record { directory = file.directory.now; root = file.root; name = file.name.now; place = file.place }

-- `/var/lib` comes before `/etc`
abbrev pub root_rank : Root → ℕ
root_rank Root.VarLib = 0
root_rank Root.Etc = 1

-- the earlier place: first by the directory, then by the file
abbrev pub compare_places : FilePlace → FilePlace → Ordering
compare_places x y = ordering_then (nat_cmp x.dir y.dir) (nat_cmp x.file y.file)

-- by the bytes of the directory's name, then the root, then the bytes of the file's name, and equal ones by their places
abbrev pub compare_files : FileKey → FileKey → Ordering
compare_files x y =
    ordering_then (slice_cmp nat_cmp x.directory y.directory)
    (ordering_then (nat_cmp (root_rank x.root) (root_rank y.root))
    (ordering_then (slice_cmp nat_cmp x.name y.name) (compare_places x.place y.place)))

-- a file of the directory at this place, with its own place
abbrev pub file_in : ℕ → Dir → ℕ × Bytes → FileKey
file_in place dir (file, name) = record { directory = dir.name; root = dir.root; name = name; place = record { dir = place; file = file } }

-- the files of the directory at this place
abbrev pub files_of : ℕ → Dir → List FileKey
files_of place dir = map (file_in place dir) (enumerate_from 0 dir.files)

-- the files of all directories
abbrev pub all_files : List Dir → List FileKey
all_files dirs = flat_map (λ (place, dir). files_of place dir) (enumerate_from 0 dirs)

-- the places of all files, each once and in ascending order
pub record IsFileOrder (dirs : List Dir) (order : List FilePlace) : Type 0 where
  pub files : List FileKey
  pub each_once : IsPermutation (all_files dirs) files
  pub ascending : IsSorted compare_files files
  pub places : order ≡ map (λ f. f.place) files
