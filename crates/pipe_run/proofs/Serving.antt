-- A run goes on by one message or by more bytes, or ends.
use Rattle.std.proofs.Common.{◌≡◌, ◌<◌, ℕ, List, [], ◌∷◌, ◌++◌, Option, ap, sym, ◌∙◌, subst, length, take, drop}
use Rattle.pk_outside.specs.Streams.{Gave}
use Rattle.pk_outside.proofs.Written.{Gave-more}
use Rattle.dbus_values.specs.Awaiting.{awaited}
use Rattle.dbus_values.specs.Next.{Partial, Seen, next_of}
use Rattle.dbus_values.specs.Streams.{IsForm}
use Rattle.dbus_values.proofs.Fewer.{below_awaited}
use Rattle.pipe_run.specs.declared.ends.PipeEnd.{PipeEnd}
use Rattle.pipe_run.specs.declared.ends.PipeEnd.TheVariants as end
use Rattle.pipe_run.specs.declared.ends.Stopped.{Stopped}
use Rattle.pipe_run.specs.declared.ends.Stopped.TheVariants as stopped
use Rattle.pipe_run.specs.Answered.{FaultIn, IsWrittenOut, Service}
use Rattle.pipe_run.specs.Faults.{InputFaults, OutputFaults, ReadsNothing}
use Rattle.pipe_run.specs.Stages.{Running, Stage, Standing, Start, standing}
use Rattle.pipe_run.specs.Stops.{end_of}
use Rattle.pipe_run.specs.Supplies.{Supply}
use Rattle.dbus_values.proofs.Following.{follow_bytes, follow_next}
use Rattle.pipe_run.proofs.Staging.{staged_out}
use Rattle.pipe_run.proofs.Written.{fails_later}

-- the message was answered
pub answered_on : (s : Start) (now new : Standing) (l0 l : Option (List ℕ)) (pending pending' : List ℕ) (used : ℕ) (m : Seen) → Running s now l0 l pending → IsForm (take used pending) m → pending' ≡ drop used pending
    → ((messages : List Seen) → Stage s now messages → Stage s new (messages ++ m ∷ [])) → Running s new l0 l pending'
answered_on s now new l0 l pending pending' used m r form is turned = subst (Running s new l0 l) (sym is) (record {
  read = r.read;
  messages = r.messages ++ m ∷ [];
  gave = r.gave;
  follow = follow_next r.read r.messages pending used m r.follow form;
  stage = turned r.messages r.stage;
})

-- what was kept was written, or the first of it
pub out_on : (s : Start) (old new : Service) (faults : ℕ) (clock salt : Supply) (held held_after : Option (List ℕ)) (l0 l : Option (List ℕ)) (pending : List ℕ) → IsWrittenOut old held new held_after → Running s (standing old faults clock salt held) l0 l pending
    → Running s (standing new faults clock salt held_after) l0 l pending
out_on s old new faults clock salt held held_after l0 l pending w r = record {
  read = r.read;
  messages = r.messages;
  gave = r.gave;
  follow = r.follow;
  stage = staged_out s old new faults clock salt held held_after r.messages w r.stage;
}

-- more bytes were read
pub more_read : (s : Start) (now : Standing) (l0 l l' : Option (List ℕ)) (pending pending' got : List ℕ) → Running s now l0 l pending → Gave l l' got → pending' ≡ pending ++ got → Running s now l0 l' pending'
more_read s now l0 l l' pending pending' got r gave is = subst (Running s now l0 l') (sym is) (record {
  read = r.read ++ got;
  messages = r.messages;
  gave = Gave-more l0 l l' r.read got r.gave gave;
  follow = follow_bytes r.read r.messages pending got r.follow;
  stage = r.stage;
})

-- fewer bytes than are awaited are less than a message
pub still_partial : (bytes pending pending' got : List ℕ) (wanted : ℕ) → bytes ≡ pending → Partial ≡ next_of bytes → wanted ≡ awaited bytes → pending' ≡ pending ++ got → length pending' < wanted → next_of pending' ≡ Partial
still_partial bytes pending pending' got wanted same partial is more fewer =
    let all : pending' ≡ bytes ++ got = more ∙ ap (λ b. b ++ got) (sym same) in
    ap next_of all ∙ below_awaited bytes got (sym partial) (subst (λ n. length (bytes ++ got) < n) is (subst (λ b. length b < wanted) all fewer))

-- what is less than a message is so under another name
pub partial_at : (bytes pending : List ℕ) → bytes ≡ pending → Partial ≡ next_of bytes → next_of pending ≡ Partial
partial_at bytes pending same partial = ap next_of (sym same) ∙ sym partial

-- an end at something that was handed in is no read fault
pub stopped_reads : {S : Type 0} (left : S → Option (List ℕ)) (faults : S → ℕ) (before now : S) (why : Stopped) → faults now ≡ faults before → InputFaults left faults before now (end_of why)
stopped_reads left faults before now (stopped.Full full) quiet = quiet
stopped_reads left faults before now stopped.WriteFault quiet = quiet
stopped_reads left faults before now stopped.NoMemory quiet = quiet

-- and has the write fault of that
pub stopped_writes : {S : Type 0} (held : S → Option (List ℕ)) (faults : S → ℕ) (first before now : S) (why : Stopped) → faults before ≡ faults first → FaultIn held faults before now why → OutputFaults held faults first now (end_of why)
stopped_writes held faults first before now (stopped.Full full) quiet writes = writes ∙ quiet
stopped_writes held faults first before now stopped.WriteFault quiet writes = fails_later held faults first before now quiet writes
stopped_writes held faults first before now stopped.NoMemory quiet writes = writes ∙ quiet

-- an end that is no read fault leaves the count of the input
pub unread_reads : {S : Type 0} (left : S → Option (List ℕ)) (faults : S → ℕ) (before now : S) (stop : PipeEnd) → ReadsNothing stop → faults now ≡ faults before → InputFaults left faults before now stop
unread_reads left faults before now end.ReadFault unread quiet = absurd unread
unread_reads left faults before now end.Done unread quiet = quiet
unread_reads left faults before now end.WriteFault unread quiet = quiet
unread_reads left faults before now (end.Full full) unread quiet = quiet
unread_reads left faults before now (end.BadBytes kind at) unread quiet = quiet
unread_reads left faults before now (end.Truncated rest) unread quiet = quiet
unread_reads left faults before now end.NoMemory unread quiet = quiet

-- the write faults of a later part of a run
pub outputs_later : {S : Type 0} (held : S → Option (List ℕ)) (faults : S → ℕ) (first before now : S) (stop : PipeEnd) → faults before ≡ faults first → OutputFaults held faults before now stop → OutputFaults held faults first now stop
outputs_later held faults first before now end.WriteFault quiet writes = fails_later held faults first before now quiet writes
outputs_later held faults first before now end.Done quiet writes = writes ∙ quiet
outputs_later held faults first before now end.ReadFault quiet writes = writes ∙ quiet
outputs_later held faults first before now (end.Full full) quiet writes = writes ∙ quiet
outputs_later held faults first before now (end.BadBytes kind at) quiet writes = writes ∙ quiet
outputs_later held faults first before now (end.Truncated rest) quiet writes = writes ∙ quiet
outputs_later held faults first before now end.NoMemory quiet writes = writes ∙ quiet
