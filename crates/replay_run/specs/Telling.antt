-- What is written of answer lines, where they are told, and where they are not.
use Rattle.std.specs.Prelude.{◌≡◌, ℕ, Bool, true, false, List, [], Option, Result, Ok, Err}
use Rattle.pk_outside.specs.Streams.{Got, GotFront}
use Rattle.authority_model.specs.declared.load.Loaded.{Loaded}
use Rattle.authority_model.specs.declared.message.Output.{Output}
use Rattle.scenario_run.specs.Text.{outputs_text, counts_after}
use Rattle.replay_run.specs.Counted.{counted}
use Rattle.replay_run.specs.declared.telling.Telling.{Telling}
use Rattle.replay_run.specs.declared.telling.Telling.TheVariants as telling
use Rattle.replay_run.specs.declared.written.WriteRefused.{WriteRefused}

-- whether the answer lines are written
abbrev pub tells : Telling → Bool
tells (telling.Answers counts) = true
tells telling.Nothing = false

-- so many outputs to each connection were counted, where they are counted
abbrev pub HasCounted : Telling → (ℕ → ℕ) → Type 0
HasCounted (telling.Answers counts) sent = counted counts ≡ sent
HasCounted telling.Nothing sent = Unit {0}

-- what is written of a text: all of it where it is told, and nothing where it is not
abbrev pub told : Bool → List ℕ → List ℕ
told true text = text
told false text = []

-- It can come only where the text is told, and then this holds.
abbrev pub OnlyTold : Bool → Type 0 → Type 0
OnlyTold true P = P
OnlyTold false P = ⊥

-- Answers were told, and counted; or a prefix of them, where they are told at all.
abbrev pub AreTold : Bool → ((ℕ → ℕ) → Type 0) → List Loaded → (ℕ → ℕ) → List Output → Option (List ℕ) → Option (List ℕ) → Result (Unit {0}) WriteRefused → Type 0
AreTold tells Counted loads counts answers before held (Ok done) =
    Got before held (told tells (outputs_text loads counts answers)) × Counted (counts_after counts answers)
AreTold tells Counted loads counts answers before held (Err refused) = OnlyTold tells (GotFront before held (outputs_text loads counts answers))
