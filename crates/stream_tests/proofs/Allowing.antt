-- The promises of the calls follow from the rules of the watched sinks.
use Rattle.std.proofs.Common.{◌≡◌, ◌∙◌, ◌++◌, [], ℕ, List, Option, None, Some, ap, sym, subst}
use Rattle.pk_outside.specs.Allowing.{MayFronts}
use Rattle.pk_outside.specs.Trees.{TreeTold}
use Rattle.authority_model.specs.declared.load.Loaded.{Loaded}
use Rattle.polkit_daemon.specs.Generate.{generated_line}
use Rattle.replay_run.specs.Promises.{MayReplay}
use Rattle.scenario_run.specs.Text.{text_of}
use Rattle.scenario_text.specs.Skipped.{skipped_lines}
use Rattle.stream_tests.specs.Rules.{IsOfAnswers, IsOfLine}

-- each prefix of the line may be written
pub may_line : (held : List ℕ) → held ≡ [] → MayFronts IsOfLine (Some held) (generated_line 1)
may_line held none front is = subst (λ (h : List ℕ). IsOfLine (h ++ front)) (sym none) is

-- each prefix of the answers of some legal history may be written
pub may_answers : (held : List ℕ) (told : Option TreeTold) → held ≡ [] → MayReplay IsOfAnswers (Some held) told None
may_answers held told none first empty past legal licensed front is =
    subst (λ (h : List ℕ). IsOfAnswers (h ++ front)) (sym none) (past, legal, (is.0, sym (ap (λ (l : Loaded). skipped_lines l.faults ++ text_of past) empty) ∙ is.1))
