-- What a line did to the items of a scenario.
use Rattle.std.specs.Prelude.{◌≡◌, ℕ, List, Some, Result, Ok, Err}
use Rattle.authority_model.specs.declared.journal.Item.{Item}
use Rattle.authority_model.specs.Legal.{Legal}
use Rattle.scenario_run.specs.declared.scenario.LineEffect.{LineEffect}
use Rattle.scenario_run.specs.declared.scenario.LineEffect.TheVariants as taken
use Rattle.scenario_run.specs.declared.scenario.LineStop.{LineStop}
use Rattle.scenario_run.specs.declared.scenario.LineStop.TheVariants as stop
use Rattle.scenario_run.specs.declared.journal.Refused.{Refused}
use Rattle.scenario_run.specs.declared.journal.Refused.TheVariants as refused
use Rattle.scenario_run.specs.Room.{IsInSegments}
use Rattle.scenario_run.specs.Scene.{Outcome, Scene}
use Rattle.scenario_run.specs.Text.{IsEntered, text_of}
use Rattle.scenario_text.specs.declared.fault.LineKind.{LineKind}
use Rattle.scenario_text.specs.Faults.{IsFaultOf}

-- the items stay, or one was entered on top
abbrev pub EffectIs : LineEffect → List Item → List Item → Type 0
EffectIs taken.Draft old new = new ≡ old
EffectIs taken.Entry old new = IsEntered old new

-- What was handed in led here, where the journal was full, and nothing that has a text was entered.
pub record IsFilled (old new : Scene) (entries bytes : ℕ) (due : Outcome) : Type 0 where
  pub led : due ≡ record { scene = new; full = Some (record { entries = entries; bytes = bytes }) }
  pub text : text_of new.past ≡ text_of old.past
  pub legal : Legal new.past

-- the journal was full, or is in segments and its file failed; want of memory is free
abbrev pub IsRefused : Scene → Scene → Outcome → Refused → Type 0
IsRefused old new due (refused.Full full) = IsFilled old new full.entries full.bytes due
IsRefused old new due refused.SegmentFault = IsInSegments old.keeping
IsRefused old new due refused.NoMemory = Unit {0}

-- the journal was full where an outcome was due
abbrev pub IsFilledLine : Scene → Scene → ℕ → ℕ → Result Outcome LineKind → Type 0
IsFilledLine old new entries bytes (Ok due) = IsFilled old new entries bytes due
IsFilledLine old new entries bytes (Err kind) = ⊥

-- a line stopped the run: by the fault that is due, since the journal was full, or since it is in segments and its file failed; want of memory is free
abbrev pub IsStop : Scene → Scene → Result Outcome LineKind → LineStop → Type 0
IsStop old new due (stop.Fault fault) = IsFaultOf fault.kind due
IsStop old new due (stop.Full full) = IsFilledLine old new full.entries full.bytes due
IsStop old new due stop.SegmentFault = IsInSegments old.keeping

-- how this stops the run at a line
abbrev pub stop_at : ℕ → Refused → LineStop
stop_at line (refused.Full full) = stop.Full full
stop_at line refused.SegmentFault = stop.SegmentFault
stop_at line refused.NoMemory = stop.Fault (record { line = line; kind = LineKind.NoMemory })

-- a fault has the number of the line
abbrev pub IsAt : ℕ → LineStop → Type 0
IsAt line (stop.Fault fault) = fault.line ≡ line
IsAt line (stop.Full full) = Unit {0}
IsAt line stop.SegmentFault = Unit {0}
