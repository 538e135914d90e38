-- The lines of an explanation, and their text.
use Rattle.std.specs.Prelude.{ℕ, ◌==◌, List, [], ◌∷◌, ◌++◌, Option, None, Some, codes, decimal, flat_map, if◌then◌else◌, length, map, option_map, option_to_list}
use Rattle.std.specs.List.{range_with_len}
use Rattle.pk_types.specs.Values.{word_of_implicit}
use Rattle.pk_types.specs.declared.values.Implicit.{Implicit}
use Rattle.authority_model.specs.declared.load.FileFault.{FileFault}
use Rattle.authority_model.specs.declared.load.Loaded.{Loaded}
use Rattle.authority_model.specs.declared.verdict.RuleSource.{RuleSource}
use Rattle.authority_model.specs.Reasons.{category_text, reason_text}
use Rattle.authority_model.specs.Rules.{implicit}
use Rattle.authority_model.specs.Verdicts.{reason_of}
use Rattle.authority_model.specs.Words.{Bytes}
use Rattle.authority_model.specs.declared.verdict.Reason.{Reason}
use Rattle.scenario_text.specs.Skipped.{skipped_line}
use Rattle.pkexplain_tool.specs.Cases.{cases_of, first_decided}
use Rattle.pkexplain_tool.specs.declared.case.Case.{Case}

-- A line: what the load skipped; a case of root; another case with its implicit value and what gave it;
-- a rule that decides nothing; a rule with the first case that it decides.
pub data Line : Type 0 where
  Skipped : FileFault → Line
  Root : Case → Line
  Decided : Case → Implicit → RuleSource → Line
  Dead : ℕ → Line
  Live : ℕ → Case → Line

-- UID CATEGORY ACTION
abbrev pub case_text : Case → Bytes
case_text c = decimal c.uid ++ (codes " " ++ (category_text c.category ++ (codes " " ++ c.action)))

-- the text of a line, which ends in LF
abbrev pub line_text : Line → Bytes
line_text (Line.Skipped fault) = skipped_line fault
line_text (Line.Root c) = case_text c ++ (codes " yes " ++ (reason_text Reason.Root ++ codes "\n"))
line_text (Line.Decided c value source) = case_text c ++ (codes " " ++ (word_of_implicit value ++ (codes " " ++ (reason_text (reason_of source) ++ codes "\n"))))
line_text (Line.Dead place) = codes "dead " ++ (decimal place ++ codes "\n")
line_text (Line.Live place c) = codes "live " ++ (decimal place ++ (codes " " ++ (case_text c ++ codes "\n")))

-- the text of lines
abbrev pub text_of : List Line → Bytes
text_of lines = flat_map line_text lines

-- the line of a case; there is none for an action that the policy lacks
abbrev pub lines_of_case : Loaded → Case → List Line
lines_of_case loaded c =
    if c.uid == 0 then Line.Root c ∷ []
    else option_to_list (option_map (λ (value, source). Line.Decided c value source) (implicit loaded.policy loaded.world c.uid c.category c.action))

-- the lines of cases, one after another
abbrev pub case_lines : Loaded → List Case → List Line
case_lines loaded cases = flat_map (lines_of_case loaded) cases

-- the line of the rule at a place: it is dead, or live with the first case that it decides
abbrev pub line_of_rule : ℕ → Option Case → Line
line_of_rule place None = Line.Dead place
line_of_rule place (Some first) = Line.Live place first

-- the line of the rule at a place, among all cases of a load
abbrev pub rule_line : Loaded → ℕ → Line
rule_line loaded place = line_of_rule place (first_decided loaded (cases_of loaded) place)

-- the lines of the rules by their places
abbrev pub rule_lines : Loaded → List Line
rule_lines loaded = map (rule_line loaded) (range_with_len 0 (length loaded.policy.entries))

-- the lines of a load: what it skipped, its cases, and its rules
abbrev pub explained : Loaded → List Line
explained loaded = map Line.Skipped loaded.faults ++ (case_lines loaded (cases_of loaded) ++ rule_lines loaded)
