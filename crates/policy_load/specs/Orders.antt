-- The files of directories in the order of pklocalauthority(8), "Evaluation Order".
use Rattle.std.specs.Prelude.{List, [], ◌∷◌, map, if◌then◌else◌}
use Rattle.std.specs.Ordering.{is_lt}
use Rattle.std.specs.declared.cmp.Ordering.{Ordering}
use Rattle.pkla_files.specs.Orders.{compare_files, all_files}
use Rattle.pkla_files.specs.declared.directories.Dir.{Dir}
use Rattle.pkla_files.specs.declared.directories.FilePlace.{FilePlace}

-- an item before the first that is not less
abbrev pub put : {A : Type 0} → (A → A → Ordering) → A → List A → List A
put compare x [] = x ∷ []
put compare x (y ∷ ys) = if is_lt (compare y x) then y ∷ put compare x ys else x ∷ y ∷ ys

-- the items in ascending order
abbrev pub in_order : {A : Type 0} → (A → A → Ordering) → List A → List A
in_order compare [] = []
in_order compare (x ∷ xs) = put compare x (in_order compare xs)

-- the places of the files of directories, by the directory's name, then the root, then the file's name
abbrev pub file_order : List Dir → List FilePlace
file_order dirs = map (λ f. f.place) (in_order compare_files (all_files dirs))
