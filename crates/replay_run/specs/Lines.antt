-- What one line does to the scene and to the output.
use Rattle.std.specs.Prelude.{◌≡◌, ℕ, ◌⊎◌, Bool, List, ◌++◌, Option, Some, Result, Ok, Err}
use Rattle.pk_outside.specs.Streams.{Got, GotFront}
use Rattle.authority_model.specs.declared.journal.Item.{Item}
use Rattle.authority_model.specs.Legal.{Legal}
use Rattle.scenario_text.specs.declared.fault.LineKind.{LineKind}
use Rattle.scenario_text.specs.declared.fault.LineKind.TheVariants as kind
use Rattle.scenario_run.specs.Room.{IsInSegments}
use Rattle.scenario_run.specs.Scene.{Scene, reached, run_line}
use Rattle.scenario_run.specs.declared.scenario.LineStop.{LineStop}
use Rattle.scenario_run.specs.declared.scenario.LineStop.TheVariants as stop
use Rattle.scenario_run.specs.Text.{counts_after, last_outputs, loads_of, outputs_text, text_of}
use Rattle.replay_run.specs.Telling.{told, OnlyTold}
use Rattle.replay_run.specs.declared.ends.Stopped.{Stopped}
use Rattle.replay_run.specs.declared.ends.Stopped.TheVariants as stopped
use Rattle.replay_run.specs.declared.ends.ReplayEnd.{ReplayEnd}
use Rattle.replay_run.specs.declared.written.WriteRefused.{WriteRefused}
use Rattle.replay_run.specs.declared.written.WriteRefused.TheVariants as refused
use Rattle.replay_run.specs.declared.ends.ReplayEnd.TheVariants as end

-- the line led to the next scene, and a prefix of the text that it adds was written
pub record IsLineCutOff (old : Scene) (line : List ℕ) (before held : Option (List ℕ)) : Type 0 where
  pub next : Scene
  pub added : List ℕ
  pub ran : run_line old line ≡ Ok (reached next)
  pub legal : Legal next.past
  pub text : text_of next.past ≡ text_of old.past ++ added
  pub front : GotFront before held added

-- the line led to the new scene, and all of the text that it adds was written, where it is told
pub record IsLineAnswered (tells : Bool) (old : Scene) (line : List ℕ) (new : Scene) (before held : Option (List ℕ)) : Type 0 where
  pub added : List ℕ
  pub ran : run_line old line ≡ Ok (reached new)
  pub legal : Legal new.past
  pub text : text_of new.past ≡ text_of old.past ++ added
  pub written : Got before held (told tells added)

-- The journal was full at the line, which added no text.
pub record IsLineFull (old : Scene) (line : List ℕ) (new : Scene) (entries bytes : ℕ) : Type 0 where
  pub ran : run_line old line ≡ Ok (record { scene = new; full = Some (record { entries = entries; bytes = bytes }) })
  pub legal : Legal new.past
  pub text : text_of new.past ≡ text_of old.past

-- what is known after a line, by how it ended
abbrev pub LineDone : Bool → Scene → List ℕ → Scene → Option (List ℕ) → Option (List ℕ) → Result (Unit {0}) Stopped → Type 0
LineDone tells old line new before held (Ok done) = IsLineAnswered tells old line new before held
LineDone tells old line new before held (Err (stopped.Fault kind)) = (run_line old line ≡ Err kind) × (held ≡ before)
LineDone tells old line new before held (Err (stopped.Full full)) = IsLineFull old line new full.entries full.bytes × (held ≡ before)
LineDone tells old line new before held (Err stopped.SegmentFault) = IsInSegments old.keeping × (held ≡ before)
LineDone tells old line new before held (Err stopped.WriteFault) = OnlyTold tells (IsLineCutOff old line before held)
LineDone tells old line new before held (Err stopped.NoMemory) = (held ≡ before) ⊎ OnlyTold tells (IsLineCutOff old line before held)

-- the answers of the newest item were told, and counted; or a prefix of them
abbrev pub LastTold : Bool → ((ℕ → ℕ) → Type 0) → List Item → (ℕ → ℕ) → Option (List ℕ) → Option (List ℕ) → Result (Unit {0}) Stopped → Type 0
LastTold tells Counted past counts before held (Ok done) =
    Got before held (told tells (outputs_text (loads_of past) counts (last_outputs past))) × Counted (counts_after counts (last_outputs past))
LastTold tells Counted past counts before held (Err (stopped.Fault kind)) = ⊥
LastTold tells Counted past counts before held (Err (stopped.Full full)) = ⊥
LastTold tells Counted past counts before held (Err stopped.SegmentFault) = ⊥
LastTold tells Counted past counts before held (Err stopped.WriteFault) = OnlyTold tells (GotFront before held (outputs_text (loads_of past) counts (last_outputs past)))
LastTold tells Counted past counts before held (Err stopped.NoMemory) = OnlyTold tells (GotFront before held (outputs_text (loads_of past) counts (last_outputs past)))

-- how a faulty line stops the run
abbrev pub stop_at : LineKind → Stopped
stop_at kind.NoMemory = stopped.NoMemory
stop_at fault = stopped.Fault fault

-- how a line stops the run
abbrev pub stop_of : LineStop → Stopped
stop_of (stop.Fault fault) = stop_at fault.kind
stop_of (stop.Full full) = stopped.Full full
stop_of stop.SegmentFault = stopped.SegmentFault

-- how a run ends where what is written first is refused
abbrev pub end_of_write : WriteRefused → ReplayEnd
end_of_write refused.Failed = end.WriteFault
end_of_write refused.NoMemory = end.NoMemory

-- how a run ends at a line that stopped it
abbrev pub end_of : Stopped → ℕ → ReplayEnd
end_of (stopped.Fault kind) line = end.BadLine line kind
end_of (stopped.Full full) line = end.Full full
end_of stopped.SegmentFault line = end.SegmentFault
end_of stopped.WriteFault line = end.WriteFault
end_of stopped.NoMemory line = end.NoMemory
