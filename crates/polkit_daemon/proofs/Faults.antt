-- The counts of faults, from the end of a run to the status of its command.
use Rattle.std.proofs.Common.{◌≡◌, ℕ, List, Option, refl, sym, subst}
use Rattle.replay_run.specs.declared.ends.ReplayEnd.{ReplayEnd}
use Rattle.replay_run.specs.declared.ends.ReplayEnd.TheVariants as end
use Rattle.replay_run.specs.Faults as replay
use Rattle.polkit_daemon.specs.declared.status.Status.{Status}
use Rattle.polkit_daemon.specs.declared.status.Status.TheVariants as status
use Rattle.polkit_daemon.specs.Faults.{InputFaults, OutputFaults}
use Rattle.polkit_daemon.specs.Generate.{Generates}
use Rattle.replay_segments.specs.Ends as segments
use Rattle.polkit_daemon.specs.Replayed.{StationFaults, status_of}

-- a generated run reads nothing
pub generates_reads : {S : Type 0} (left : S → Option (List ℕ)) (faults : S → ℕ) (input : S) (checks : ℕ) (held held' : Option (List ℕ)) (s : Status)
    → Generates checks held held' s → InputFaults left faults input input s
generates_reads left faults input checks held held' status.ReadFault run = absurd run
generates_reads left faults input checks held held' other run = refl

-- the status of a replay says of the input what its end says
pub replay_reads : {S : Type 0} (left : S → Option (List ℕ)) (faults : S → ℕ) (before now : S) (stop : ReplayEnd) → replay.InputFaults left faults before now stop
    → InputFaults left faults before now (status_of stop)
replay_reads left faults before now end.Done reads = reads
replay_reads left faults before now (end.TreeFault count) reads = reads
replay_reads left faults before now (end.LoadRefused why) reads = reads
replay_reads left faults before now end.ReadFault reads = reads
replay_reads left faults before now end.WriteFault reads = reads
replay_reads left faults before now (end.Full full) reads = reads
replay_reads left faults before now end.SegmentFault reads = reads
replay_reads left faults before now (end.BadLine line why) reads = reads
replay_reads left faults before now end.NoMemory reads = reads

-- and of the output
pub replay_writes : {S : Type 0} (held : S → Option (List ℕ)) (faults : S → ℕ) (before now : S) (stop : ReplayEnd) → replay.OutputFaults held faults before now stop
    → OutputFaults held faults before now (status_of stop)
replay_writes held faults before now end.Done writes = writes
replay_writes held faults before now (end.TreeFault count) writes = writes
replay_writes held faults before now (end.LoadRefused why) writes = writes
replay_writes held faults before now end.ReadFault writes = writes
replay_writes held faults before now end.WriteFault writes = writes
replay_writes held faults before now (end.Full full) writes = writes
replay_writes held faults before now end.SegmentFault writes = writes
replay_writes held faults before now (end.BadLine line why) writes = writes
replay_writes held faults before now end.NoMemory writes = writes

-- the status of a replay says of the station what its end says
pub replay_counts : (before now : ℕ) (stop : ReplayEnd) → segments.StationFaults before now stop → StationFaults before now (status_of stop)
replay_counts before now end.Done counts = counts
replay_counts before now (end.TreeFault count) counts = counts
replay_counts before now (end.LoadRefused why) counts = counts
replay_counts before now end.ReadFault counts = counts
replay_counts before now end.WriteFault counts = counts
replay_counts before now (end.Full full) counts = counts
replay_counts before now end.SegmentFault counts = counts
replay_counts before now (end.BadLine line why) counts = counts
replay_counts before now end.NoMemory counts = counts
