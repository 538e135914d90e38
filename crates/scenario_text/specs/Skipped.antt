-- The lines that tell what a load skipped.
use Rattle.std.specs.Prelude.{ℕ, List, [], ◌∷◌, ◌++◌, codes}
use Rattle.std.specs.Fmt.{decimal}
use Rattle.std.specs.List.{flat_map}
use Rattle.authority_model.specs.declared.load.FileFault.{FileFault}
use Rattle.scenario_text.specs.Escapes.{escaped}

-- the file, the kind and the place, with the file written as an answer line writes a text
abbrev pub skipped_line : FileFault → List ℕ
skipped_line fault = codes "skipped " ++ (escaped fault.file ++ (codes " " ++ (escaped fault.kind ++ (codes " " ++ (decimal fault.at ++ 10 ∷ [])))))

-- the lines of all that was skipped, in their order
abbrev pub skipped_lines : List FileFault → List ℕ
skipped_lines faults = flat_map skipped_line faults
