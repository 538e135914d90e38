-- Where a scenario stands, and what a line makes of it.
use Rattle.std.specs.Prelude.{ℕ, ◌∷◌, ◌++◌, List, [], Option, None, Result, Ok}
use Rattle.authority_model.specs.declared.event.Event.{Event}
use Rattle.authority_model.specs.declared.journal.Item.{Item}
use Rattle.authority_model.specs.declared.load.Loaded.{Loaded}
use Rattle.authority_model.specs.Entering.{Fullness, Reached}
use Rattle.authority_model.specs.Given.{Given, event_given, load_given}
use Rattle.scenario_text.specs.declared.fault.LineKind.{LineKind}
use Rattle.scenario_text.specs.declared.step.Step.{Step}
use Rattle.scenario_text.specs.declared.step.Step.TheVariants as step
use Rattle.scenario_text.specs.Faults.{◌>>=◌}
use Rattle.scenario_text.specs.Lines.{step_of}
use Rattle.scenario_run.specs.Drafts.{drafted}
use Rattle.scenario_run.specs.Room.{Keeping, all_entered}

-- How the journal is kept, the draft of the next load, the moment of the next event, and the items so far, the newest first.
pub record Scene : Type 0 where
  pub keeping : Keeping
  pub draft : Loaded
  pub moment : ℕ
  pub past : List Item

-- this draft, moment 0 and no item
abbrev pub start : Keeping → Loaded → Scene
start keeping draft = record { keeping = keeping; draft = draft; moment = 0; past = [] }

-- the scene with this draft
abbrev pub with_draft : Scene → Loaded → Scene
with_draft scene draft = record scene { draft = draft }

-- the scene with these items
abbrev pub with_past : Scene → List Item → Scene
with_past scene past = record scene { past = past }

-- the scene at another moment, for the events that follow
abbrev pub at_moment : Scene → ℕ → Scene
at_moment scene moment = record scene { moment = moment }

-- Where a line leads: a scene, and how full the journal was where it refused what the line hands in.
pub record Outcome : Type 0 where
  pub scene : Scene
  pub full : Option Fullness

-- nothing was refused
abbrev pub reached : Scene → Outcome
reached scene = record { scene = scene; full = None }

-- a load of the draft by connection 0
abbrev pub load_of : Scene → Given
load_of scene = load_given 0 scene.moment scene.draft

-- what is handed in before the first event: a load of the draft
abbrev pub first_load : Scene → List Item → List Given
first_load scene [] = load_of scene ∷ []
first_load scene (i ∷ past) = []

-- what is handed in for an event, which has the salt 0; the draft is loaded before the first one
abbrev pub given_for : Scene → ℕ → Event → List Given
given_for scene caller event = first_load scene scene.past ++ event_given caller scene.moment 0 event ∷ []

-- the scene with the items that were reached
abbrev pub with_reached : Scene → Reached → Outcome
with_reached scene there = record { scene = with_past scene there.past; full = there.full }

-- where a scene leads when this is handed in
abbrev pub handed_in : Scene → List Given → Outcome
handed_in scene given = with_reached scene (all_entered scene.keeping scene.past given)

-- what a step makes of a scene
abbrev pub run_step : Scene → Step → Result Outcome LineKind
run_step scene step.Blank = Ok (reached scene)
run_step scene (step.At moment) = Ok (reached (at_moment scene moment))
run_step scene step.Reload = Ok (handed_in scene (load_of scene ∷ []))
run_step scene (step.Act caller event) = Ok (handed_in scene (given_for scene caller event))
run_step scene other = drafted scene.draft other >>= (λ draft. Ok (reached (with_draft scene draft)))

-- what a line makes of a scene
abbrev pub run_line : Scene → List ℕ → Result Outcome LineKind
run_line scene line = step_of line >>= run_step scene
