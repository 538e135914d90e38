-- The rules of the watched sinks.
use Rattle.std.specs.Prelude.{ℕ, List}
use Rattle.pk_outside.specs.Allowing.{IsFront}
use Rattle.authority_model.specs.declared.journal.Item.{Item}
use Rattle.authority_model.specs.Legal.{Legal}
use Rattle.polkit_daemon.specs.Generate.{generated_line}
use Rattle.scenario_run.specs.Text.{text_of}

-- the line of a generated run of one check, or a prefix of it
abbrev pub IsOfLine : List ℕ → Type 0
IsOfLine text = IsFront text (generated_line 1)

-- a prefix of the answers of some legal history
abbrev pub IsOfAnswers : List ℕ → Type 0
IsOfAnswers text = (past : List Item) × Legal past × IsFront text (text_of past)
