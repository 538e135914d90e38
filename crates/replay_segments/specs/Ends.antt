-- What a replay over a journal in segments writes.
use Rattle.std.specs.Prelude.{ℕ, ◌≡◌, ◌≤◌, ⊤, ◌⊎◌, Bool, List, [], ◌∷◌, ◌++◌, flat_map, reverse, Option, None, Some}
use Rattle.pk_outside.specs.Causes.{Rose}
use Rattle.pk_outside.specs.Stations.{StationTold, TakesFile}
use Rattle.pk_outside.specs.Trees.{TreeTold}
use Rattle.authority_model.specs.declared.journal.Item.{Item}
use Rattle.authority_model.specs.declared.load.Loaded.{Loaded}
use Rattle.scenario_run.specs.Room.{in_segments}
use Rattle.scenario_run.specs.Scene.{Scene, start}
use Rattle.scenario_text.specs.Skipped.{skipped_lines}
use Rattle.replay_run.specs.declared.ends.ReplayEnd.{ReplayEnd}
use Rattle.replay_run.specs.declared.ends.ReplayEnd.TheVariants as end
use Rattle.replay_run.specs.Replay.{IsRun, Replays}
use Rattle.replay_run.specs.Rooted.{IsUntouched, RunsFrom}
use Rattle.scenario_run.specs.Cuts.{cut_text, segments_of}

-- how a run over a journal in segments ends, by how its lines ended: the rest may be refused, and want of memory is free
abbrev pub HasEnded : ReplayEnd → ReplayEnd → Type 0
HasEnded end.Done now = (now ≡ end.Done) ⊎ ((now ≡ end.SegmentFault) ⊎ (now ≡ end.NoMemory))
HasEnded end.SegmentFault now = (now ≡ end.SegmentFault) ⊎ (now ≡ end.NoMemory)
HasEnded lines now = now ≡ lines

-- a file came back that was made here, with these bytes and no fault, where the station tells
abbrev pub IsBack : Option StationTold → Option StationTold → Option (List ℕ) → List ℕ → Type 0
IsBack before now at bytes = TakesFile before now (λ back. (at ≡ Some back.path) × (back.written ≡ bytes) × (back.faults ≡ 0))

-- a file was made at this path, and it came back with these bytes and no fault, where the station tells
abbrev pub HasFiled : List ℕ → List ℕ → Option StationTold → Option StationTold → Type 0
HasFiled path bytes None None = ⊤
HasFiled path bytes None (Some now) = ⊥
HasFiled path bytes (Some before) None = ⊥
HasFiled path bytes (Some before) (Some now) =
    now ≡ record before { made = before.made ++ path ∷ []; filed = before.filed ++ record { path = path; written = bytes; faults = 0 } ∷ [] }

-- The whole input makes this history, and its segments, in which each of its items stands once and in order, were written so.
pub record IsFiled (begin : Scene) (left_before left : Option (List ℕ)) (ended : Bool) (per : ℕ) (Filed : List ℕ → Type 0) : Type 0 where
  pub past : List Item
  pub run : IsRun begin left_before left ended past
  pub each_once : flat_map (λ items. items) (segments_of per past) ≡ reverse past
  pub filed : Filed (cut_text per past)

-- where a run over a journal in segments begins, whose file tells this path
abbrev pub start_in : ℕ → Option (List ℕ) → Loaded → Scene
start_in per file first = start (in_segments (record { per = per; file = file })) first

-- The lines ran in a file that was made, which then came back.
pub record IsRunInFile (first : Loaded) (file : Option (List ℕ)) (per : ℕ) (left_before left : Option (List ℕ)) (ended : Bool) (held_before held : Option (List ℕ)) (before now : Option StationTold) (stop : ReplayEnd) : Type 0 where
  pub replays : Replays [] (start_in per file first) left_before left ended held_before held stop
  pub filed : stop ≡ end.Done → IsFiled (start_in per file first) left_before left ended per (IsBack before now file)

-- The lines ran, in some file where it could be made; on Done it was made at the path and came back.
pub record IsRunFrom (lead : List ℕ) (first : Loaded) (path : List ℕ) (per : ℕ) (left_before left : Option (List ℕ)) (ended : Bool) (held_before held : Option (List ℕ)) (before now : Option StationTold) (stop : ReplayEnd) : Type 0 where
  pub file : Option (List ℕ)
  pub replays : Replays lead (start_in per file first) left_before left ended held_before held stop
  pub filed : stop ≡ end.Done → IsFiled (start_in per file first) left_before left ended per (λ bytes. HasFiled path bytes before now)

-- the same once what the first load skipped was told
abbrev pub IsRunTold : Loaded → List ℕ → ℕ → Option (List ℕ) → Option (List ℕ) → Bool → Option (List ℕ) → Option (List ℕ) → Option StationTold → Option StationTold → ReplayEnd → Type 0
IsRunTold = IsRunFrom []

-- what the first load skipped was told, and the lines ran
abbrev pub IsSegmentsReplay : Loaded → List ℕ → ℕ → Option (List ℕ) → Option (List ℕ) → Bool → Option (List ℕ) → Option (List ℕ) → Option StationTold → Option StationTold → ReplayEnd → Type 0
IsSegmentsReplay first = IsRunFrom (skipped_lines first.faults) first

-- A replay from a root over a journal in segments.
abbrev pub ReplaysInSegments : Option TreeTold → Option (List ℕ) → ℕ → ℕ → List ℕ → ℕ → Option (List ℕ) → Option (List ℕ) → Bool → Option (List ℕ) → Option (List ℕ) → Option StationTold → Option StationTold → ReplayEnd → Type 0
ReplaysInSegments told root faults_before faults_now path per left_before left ended held_before held before now =
    RunsFrom told root faults_before faults_now (IsUntouched left_before left held_before held)
    (λ first. IsSegmentsReplay first path per left_before left ended held_before held before now)

-- a segment fault is told only where the station's count rose
abbrev pub StationFaults : ℕ → ℕ → ReplayEnd → Type 0
StationFaults before now end.SegmentFault = Rose before now
StationFaults before now other = before ≤ now
