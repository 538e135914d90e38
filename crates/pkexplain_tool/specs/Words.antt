-- The words of `pkexplain`: `--root DIR`.
use Rattle.std.specs.Prelude.{ℕ, ◌&&◌, List, [], ◌∷◌, Option, Some, None, codes, if◌then◌else◌}
use Rattle.std.specs.Str.{bytes_eq}
use Rattle.serve_words.specs.Plans.{is_root}

-- the root that the words name, where they are `--root DIR` and DIR may be a root
abbrev pub root_in : List (List ℕ) → Option (List ℕ)
root_in (option ∷ root ∷ []) = if bytes_eq option (codes "--root") && is_root root then Some root else None
root_in other = None
