-- What a replay of a scenario writes, and what ends it.
use Rattle.std.specs.Prelude.{◌≡◌, ℕ, ◌+◌, ◌⊎◌, Bool, true, IsTrue, List, [], ◌∷◌, ◌++◌, Option, None, Some, Result, Ok, Err}
use Rattle.std.specs.List.{flat_map}
use Rattle.pk_outside.specs.Streams.{Gave, Got}
use Rattle.pk_types.specs.Pieces.{Lacks, lines_of}
use Rattle.authority_model.specs.declared.journal.Item.{Item}
use Rattle.authority_model.specs.Legal.{Legal}
use Rattle.authority_model.specs.Licensed.{AllLicensed}
use Rattle.scenario_text.specs.declared.fault.LineKind.{LineKind}
use Rattle.authority_model.specs.Entering.{Fullness}
use Rattle.scenario_run.specs.Room.{IsInSegments}
use Rattle.scenario_run.specs.Scene.{Outcome, Scene, run_line}
use Rattle.scenario_run.specs.Text.{text_of}
use Rattle.replay_run.specs.Telling.{told, OnlyTold}
use Rattle.replay_run.specs.declared.ends.ReplayEnd.{ReplayEnd}
use Rattle.replay_run.specs.declared.ends.ReplayEnd.TheVariants as end

-- What stops a run: the number of a line and its fault, or a journal that is full and how full it is.
pub data Halt : Type 0 where
  Fault : ℕ → LineKind → Halt
  Full : Fullness → Halt

-- where a run of lines ends, and what stopped it
pub record Ran : Type 0 where
  pub scene : Scene
  pub halt : Option Halt

-- the run goes on after a line, unless the journal was full
abbrev pub unless_full : Scene → Option Fullness → (Scene → Ran) → Ran
unless_full scene None more = more scene
unless_full scene (Some full) more = record { scene = scene; halt = Some (Halt.Full full) }

-- what a run makes of a line, and then of the lines after it
abbrev pub after_line : ℕ → Scene → Result Outcome LineKind → (Scene → Ran) → Ran
after_line n scene (Ok outcome) more = unless_full outcome.scene outcome.full more
after_line n scene (Err kind) more = record { scene = scene; halt = Some (Halt.Fault n kind) }

-- a run of lines from a scene, the first of them with this number
abbrev pub run : List (List ℕ) → ℕ → Scene → Ran
run [] n scene = record { scene = scene; halt = None }
run (line ∷ lines) n scene = after_line n scene (run_line scene line) (run lines (n + 1))

-- the run of all lines of the bytes from where it begins
abbrev pub replayed : Scene → List ℕ → Ran
replayed begin bytes = run (lines_of bytes) 1 begin

-- the history that the bytes make, the newest item first
abbrev pub replay_history : Scene → List ℕ → List Item
replay_history begin bytes = (replayed begin bytes).scene.past

-- what stops the run of the bytes
abbrev pub halt_of : Scene → List ℕ → Option Halt
halt_of begin bytes = (replayed begin bytes).halt

-- It holds of the bytes read, which are all that there are, or else of them whatever follows.
abbrev pub Whatever : Bool → (List ℕ → Type 0) → List ℕ → Type 0
Whatever ended P read = (IsTrue ended × P read) ⊎ ((more : List ℕ) → P (read ++ more))

-- a later history has all items of an earlier one, and maybe more
abbrev pub Extends : List Item → List Item → Type 0
Extends later earlier = (more : List Item) × (later ≡ more ++ earlier)

-- a prefix of the bytes
abbrev pub IsFront : List ℕ → List ℕ → Type 0
IsFront front bytes = (rest : List ℕ) × (bytes ≡ front ++ rest)

-- the bytes end in LF, or there are none
pub record AreWholeLines (bytes : List ℕ) : Type 0 where
  pub lines : List (List ℕ)
  pub joined : bytes ≡ flat_map (λ line. line ++ 10 ∷ []) lines

-- of the bytes read the whole lines were run without a fault, and a part of a line is left
pub record IsCutOff (begin : Scene) (read : List ℕ) (past : List Item) : Type 0 where
  pub whole : List ℕ
  pub part : List ℕ
  pub read_is : read ≡ whole ++ part
  pub ends : AreWholeLines whole
  pub no_line : Lacks 10 part
  pub no_halt : halt_of begin whole ≡ None
  pub history_is : replay_history begin whole ≡ past

-- the run of the bytes is stopped by this, and the lines before it make this history
abbrev pub Halts : Scene → List Item → Halt → List ℕ → Type 0
Halts begin past halt bytes = (halt_of begin bytes ≡ Some halt) × (replay_history begin bytes ≡ past)

-- the history is that of the first lines of the bytes
abbrev pub IsBegun : Scene → List Item → List ℕ → Type 0
IsBegun begin past bytes = Extends (replay_history begin bytes) past

-- What the bytes read made, and what of its text, where this is told, was written after these first bytes, at each end of a run.
abbrev pub Played : Bool → List ℕ → Scene → Bool → List ℕ → List Item → List ℕ → ReplayEnd → Type 0
Played tells lead begin ended read past written end.Done =
    IsTrue ended × (halt_of begin read ≡ None) × (replay_history begin read ≡ past) × (written ≡ lead ++ told tells (text_of past))
Played tells lead begin ended read past written (end.BadLine line kind) = Whatever ended (Halts begin past (Halt.Fault line kind)) read × (written ≡ lead ++ told tells (text_of past))
Played tells lead begin ended read past written (end.Full full) =
    Whatever ended (Halts begin past (Halt.Full (record { entries = full.entries; bytes = full.bytes }))) read × (written ≡ lead ++ told tells (text_of past))
Played tells lead begin ended read past written end.SegmentFault = IsInSegments begin.keeping × Whatever ended (IsBegun begin past) read × (written ≡ lead ++ told tells (text_of past))
Played tells lead begin ended read past written end.ReadFault = IsCutOff begin read past × (written ≡ lead ++ told tells (text_of past))
Played tells lead begin ended read past written end.WriteFault = OnlyTold tells (Whatever ended (IsBegun begin past) read × IsFront written (lead ++ text_of past))
Played tells lead begin ended read past written end.NoMemory = Whatever ended (IsBegun begin past) read × IsFront written (lead ++ told tells (text_of past))
Played tells lead begin ended read past written other = ⊥

-- The lines run from where it begins: some bytes were read and some written, and a legal history, in which each yes is licensed and whose text, where it is told, was written after the first bytes as far as the end says, is that of the bytes read.
pub record Plays (tells : Bool) (lead : List ℕ) (begin : Scene) (left_before left : Option (List ℕ)) (ended : Bool) (held_before held : Option (List ℕ)) (stop : ReplayEnd) : Type 0 where
  pub read : List ℕ
  pub written : List ℕ
  pub past : List Item
  pub gave : Gave left_before left read
  pub got : Got held_before held written
  pub legal : Legal past
  pub licensed : AllLicensed past
  pub run : Played tells lead begin ended read past written stop

-- the same of a replay, which tells the text
abbrev pub Replays : List ℕ → Scene → Option (List ℕ) → Option (List ℕ) → Bool → Option (List ℕ) → Option (List ℕ) → ReplayEnd → Type 0
Replays = Plays true

-- the whole input was read, nothing stopped its run, and it makes this history
pub record IsRun (begin : Scene) (left_before left : Option (List ℕ)) (ended : Bool) (past : List Item) : Type 0 where
  pub read : List ℕ
  pub gave : Gave left_before left read
  pub all : IsTrue ended
  pub no_halt : halt_of begin read ≡ None
  pub history_is : replay_history begin read ≡ past
