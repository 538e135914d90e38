-- What the steps of lines keep to, so that a run can take them.
use Rattle.std.specs.Prelude.{⊤, ◌≤◌, ◌^◌}
use Rattle.authority_model.specs.Given.{IsStepped}
use Rattle.scenario_text.specs.declared.step.Step.{Step}
use Rattle.scenario_text.specs.declared.step.Step.TheVariants as step

-- a moment is in its range, and an event is one that the authority steps
abbrev pub IsRunnable : Step → Type 0
IsRunnable (step.At moment) = moment ≤ 2 ^ 62
IsRunnable (step.Act caller event) = IsStepped event
IsRunnable other = ⊤
