-- The text of a load in its three parts.
use Rattle.std.proofs.Common.{◌≡◌, ◌++◌, map, sym, ap, ◌∙◌}
use Rattle.std.proofs.lemmas.List.Folds.{flat_map-map}
use Rattle.authority_model.specs.declared.load.Loaded.{Loaded}
use Rattle.authority_model.specs.Words.{Bytes}
use Rattle.scenario_text.specs.Skipped.{skipped_lines}
use Rattle.pkexplain_tool.specs.Cases.{cases_of}
use Rattle.pkexplain_tool.specs.Lines.{Line, case_lines, explained, line_text, rule_lines, text_of}
use Rattle.pkexplain_tool.proofs.Explaining.{text_more}

explained_text : (loaded : Loaded) → text_of (explained loaded) ≡ skipped_lines loaded.faults ++ text_of (case_lines loaded (cases_of loaded) ++ rule_lines loaded)
explained_text loaded =
    text_more (map Line.Skipped loaded.faults) (case_lines loaded (cases_of loaded) ++ rule_lines loaded)
    ∙ ap (λ r. r ++ text_of (case_lines loaded (cases_of loaded) ++ rule_lines loaded)) (flat_map-map line_text (λ fault. Line.Skipped fault) loaded.faults)

-- what stands behind the lines of what was skipped
pub load_text : (loaded book : Loaded) (text : Bytes) → text ≡ skipped_lines loaded.faults → book ≡ loaded → text ++ text_of (case_lines book (cases_of book) ++ rule_lines book) ≡ text_of (explained loaded)
load_text loaded book text skipped same =
    ap (λ r. r ++ text_of (case_lines book (cases_of book) ++ rule_lines book)) skipped
    ∙ ap (λ (l : Loaded). skipped_lines loaded.faults ++ text_of (case_lines l (cases_of l) ++ rule_lines l)) same
    ∙ sym (explained_text loaded)
