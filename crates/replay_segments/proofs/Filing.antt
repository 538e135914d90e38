-- The run of the lines, and the file that it leaves.
use Rattle.std.proofs.Common.{◌≡◌, ◌∙◌, ◌++◌, [], ℕ, Bool, true, List, Option, None, refl, ap, sym, subst, append-nil, inl, inr}
use Rattle.pk_outside.specs.Streams.{Got, GotFront}
use Rattle.pk_outside.specs.Stations.{StationTold}
use Rattle.pk_outside.proofs.Written.{Gave-none, Got-none}
use Rattle.authority_model.specs.declared.journal.Item.{Item}
use Rattle.authority_model.specs.declared.load.Loaded.{Loaded}
use Rattle.scenario_text.specs.Skipped.{skipped_lines}
use Rattle.scenario_run.specs.Cuts.{cut_text}
use Rattle.scenario_run.specs.Room.{Cutting, IsInSegments, Keeping, in_segments}
use Rattle.scenario_run.specs.Scene.{Scene}
use Rattle.scenario_run.specs.Text.{text_of}
use Rattle.scenario_run.proofs.Cuts.{each_once}
use Rattle.replay_run.specs.declared.ends.ReplayEnd.{ReplayEnd}
use Rattle.replay_run.specs.declared.ends.ReplayEnd.TheVariants as end
use Rattle.replay_run.specs.declared.written.WriteRefused.{WriteRefused}
use Rattle.replay_run.specs.declared.written.WriteRefused.TheVariants as refused
use Rattle.replay_run.specs.Faults.{InputFaults, OutputFaults}
use Rattle.replay_run.specs.Lines.{end_of_write}
use Rattle.replay_run.specs.Promises.{MayTellOn}
use Rattle.replay_run.specs.Replay.{IsRun, Plays, Replays, replay_history}
use Rattle.replay_run.proofs.Leading.{begin_refused, lead_refused, run_after}
use Rattle.replay_segments.specs.Ends.{HasEnded, HasFiled, IsBack, IsFiled, IsRunFrom, start_in}
use Rattle.replay_segments.proofs.Ends.{plays_so}

-- what may be told behind no item
pub may_from : (Allowed : List ℕ → Type 0) (held : Option (List ℕ)) (t : Bool) (past : List Item) → past ≡ [] → MayTellOn true Allowed held [] → MayTellOn t Allowed held past
may_from Allowed held t past none may told later more legal licensed text = may refl later more legal licensed (text ∙ ap (λ (p : List Item). text_of p ++ more) none)

-- the lines ran, by how the whole run ended
pub run_ends : (begin begin' : Scene) (t : Bool) (l0 l : Option (List ℕ)) (ended : Bool) (before held : Option (List ℕ)) (e now : ReplayEnd) → t ≡ true → begin' ≡ begin → IsInSegments begin.keeping → HasEnded e now
    → Plays t [] begin' l0 l ended before held e → Replays [] begin l0 l ended before held now
run_ends begin begin' t l0 l ended before held e now told same kept so r =
    plays_so begin l0 l ended before held e now kept so (subst (λ (s : Scene). Plays true [] s l0 l ended before held e) same (subst (λ (b : Bool). Plays b [] begin' l0 l ended before held e) told r))

-- a way to cut is told by how a journal is kept
abbrev cutting_of : Cutting → Keeping → Cutting
cutting_of other (Keeping.Whole limits) = other
cutting_of other (Keeping.InSegments cutting) = cutting

cutting_same : (a b : Cutting) → in_segments a ≡ in_segments b → a ≡ b
cutting_same a b e = ap (cutting_of a) e

-- the segments of the history that the whole input makes came back in the file
pub files_so : (begin begin' : Scene) (l0 l : Option (List ℕ)) (ended : Bool) (a b : Cutting) (past past' : List Item) (before now : Option StationTold) → begin' ≡ begin → in_segments b ≡ in_segments a → past' ≡ past
    → IsRun begin' l0 l ended past → IsBack before now b.file (cut_text b.per past') → IsFiled begin l0 l ended a.per (IsBack before now a.file)
files_so begin begin' l0 l ended a b past past' before now same kept items run back = record {
  past = past;
  run = subst (λ (s : Scene). IsRun s l0 l ended past) same run;
  each_once = each_once a.per past;
  filed = subst (λ (c : Cutting). IsBack before now c.file (cut_text c.per past)) (cutting_same b a kept) (subst (λ (p : List Item). IsBack before now b.file (cut_text b.per p)) items back);
}

-- where the file holds them more is known of it
pub filed_as : (begin : Scene) (l0 l : Option (List ℕ)) (ended : Bool) (per : ℕ) (P Q : List ℕ → Type 0) → ((bytes : List ℕ) → P bytes → Q bytes) → IsFiled begin l0 l ended per P → IsFiled begin l0 l ended per Q
filed_as begin l0 l ended per P Q more f = record { past = f.past; run = f.run; each_once = f.each_once; filed = more (cut_text per f.past) f.filed }

-- a read fault is told as before
pub reads_so : {S : Type 0} (left : S → Option (List ℕ)) (faults : S → ℕ) (a b : S) (e now : ReplayEnd) → HasEnded e now → InputFaults left faults a b e → InputFaults left faults a b now
reads_so left faults a b end.Done now (inl same) r = subst (InputFaults left faults a b) (sym same) r
reads_so left faults a b end.Done now (inr (inl same)) r = subst (InputFaults left faults a b) (sym same) r
reads_so left faults a b end.Done now (inr (inr same)) r = subst (InputFaults left faults a b) (sym same) r
reads_so left faults a b end.SegmentFault now (inl same) r = subst (InputFaults left faults a b) (sym same) r
reads_so left faults a b end.SegmentFault now (inr same) r = subst (InputFaults left faults a b) (sym same) r
reads_so left faults a b (end.TreeFault count) now same r = subst (InputFaults left faults a b) (sym same) r
reads_so left faults a b (end.LoadRefused why) now same r = subst (InputFaults left faults a b) (sym same) r
reads_so left faults a b end.ReadFault now same r = subst (InputFaults left faults a b) (sym same) r
reads_so left faults a b end.WriteFault now same r = subst (InputFaults left faults a b) (sym same) r
reads_so left faults a b (end.Full full) now same r = subst (InputFaults left faults a b) (sym same) r
reads_so left faults a b (end.BadLine line kind) now same r = subst (InputFaults left faults a b) (sym same) r
reads_so left faults a b end.NoMemory now same r = subst (InputFaults left faults a b) (sym same) r

-- and a write fault
pub writes_so : {S : Type 0} (held : S → Option (List ℕ)) (faults : S → ℕ) (a b : S) (e now : ReplayEnd) → HasEnded e now → OutputFaults held faults a b e → OutputFaults held faults a b now
writes_so held faults a b end.Done now (inl same) r = subst (OutputFaults held faults a b) (sym same) r
writes_so held faults a b end.Done now (inr (inl same)) r = subst (OutputFaults held faults a b) (sym same) r
writes_so held faults a b end.Done now (inr (inr same)) r = subst (OutputFaults held faults a b) (sym same) r
writes_so held faults a b end.SegmentFault now (inl same) r = subst (OutputFaults held faults a b) (sym same) r
writes_so held faults a b end.SegmentFault now (inr same) r = subst (OutputFaults held faults a b) (sym same) r
writes_so held faults a b (end.TreeFault count) now same r = subst (OutputFaults held faults a b) (sym same) r
writes_so held faults a b (end.LoadRefused why) now same r = subst (OutputFaults held faults a b) (sym same) r
writes_so held faults a b end.ReadFault now same r = subst (OutputFaults held faults a b) (sym same) r
writes_so held faults a b end.WriteFault now same r = subst (OutputFaults held faults a b) (sym same) r
writes_so held faults a b (end.Full full) now same r = subst (OutputFaults held faults a b) (sym same) r
writes_so held faults a b (end.BadLine line kind) now same r = subst (OutputFaults held faults a b) (sym same) r
writes_so held faults a b end.NoMemory now same r = subst (OutputFaults held faults a b) (sym same) r

-- memory was refused before the run began
pub unbegun : (first : Loaded) (path : List ℕ) (per : ℕ) (left : Option (List ℕ)) (ended : Bool) (held : Option (List ℕ)) (before now : Option StationTold) → IsRunFrom [] first path per left left ended held held before now end.NoMemory
unbegun first path per left ended held before now = record {
  file = None;
  replays = begin_refused [] (start_in per None first) left ended held held (Got-none held);
  filed = λ is. absurd (cc (is));
}

-- the file could not be made
pub unmade : (first : Loaded) (path : List ℕ) (per : ℕ) (left : Option (List ℕ)) (ended : Bool) (held : Option (List ℕ)) (before now : Option StationTold) → IsRunFrom [] first path per left left ended held held before now end.SegmentFault
unmade first path per left ended held before now = record {
  file = None;
  replays = record {
    read = [];
    written = [];
    past = [];
    gave = Gave-none left;
    got = Got-none held;
    legal = tt;
    licensed = tt;
    run = (tt, inr (λ more. (replay_history (start_in per None first) more, sym (append-nil (replay_history (start_in per None first) more)))), refl);
  };
  filed = λ is. absurd (cc (is));
}

-- the run goes on once what was skipped was told
pub told_after : (first : Loaded) (path : List ℕ) (per : ℕ) (l0 l : Option (List ℕ)) (ended : Bool) (before mid held : Option (List ℕ)) (s0 s : Option StationTold) (stop : ReplayEnd) → Got before mid (skipped_lines first.faults)
    → IsRunFrom [] first path per l0 l ended mid held s0 s stop → IsRunFrom (skipped_lines first.faults) first path per l0 l ended before held s0 s stop
told_after first path per l0 l ended before mid held s0 s stop got r = record {
  file = r.file;
  replays = run_after (skipped_lines first.faults) (start_in per r.file first) l0 l ended before mid held stop got r.replays;
  filed = r.filed;
}

-- what was skipped was not told
pub untold : (first : Loaded) (path : List ℕ) (per : ℕ) (left : Option (List ℕ)) (ended : Bool) (before held : Option (List ℕ)) (s0 s : Option StationTold) (why : WriteRefused) → GotFront before held (skipped_lines first.faults)
    → IsRunFrom (skipped_lines first.faults) first path per left left ended before held s0 s (end_of_write why)
untold first path per left ended before held s0 s why front = record {
  file = None;
  replays = lead_refused (skipped_lines first.faults) (start_in per None first) left ended before held why front;
  filed = not_done why;
}
  where
    not_done : (w : WriteRefused) → end_of_write w ≡ end.Done → IsFiled (start_in per None first) left left ended per (λ bytes. HasFiled path bytes s0 s)
    not_done refused.Failed is = absurd (cc (is))
    not_done refused.NoMemory is = absurd (cc (is))
