-- What a service does, by how it ended.
use Rattle.std.proofs.Common.{◌≡◌, ◌≤◌, ◌++◌, ◌⊎◌, [], ◌∷◌, List, ℕ, Bool, true, false, Option, None, Some, Err, IfSome, inl, inr, refl, sym, ap, ◌∙◌, subst, append_assoc, append-nil, arith}
use Rattle.std.specs.Prelude.{All, length, map, ◌||◌}
use Rattle.std.specs.List.{flat_map, list_any}
use Rattle.std.proofs.lemmas.Bool.{or_parts}
use Rattle.std.proofs.lemmas.List.Elements.{All-append, All-cons, All-head, All-tail, All-nil}
use Rattle.history_lock.specs.Known.{Known}
use Rattle.history_lock.specs.declared.machine.EndCause.{EndCause}
use Rattle.history_lock.specs.declared.machine.EndCause.TheVariants as cause
use Rattle.authority_laws.proofs.Tracing.{access}
use Rattle.authority_model.specs.declared.journal.History.{History}
use Rattle.authority_model.specs.declared.journal.Limits.{Limits}
use Rattle.authority_model.specs.declared.journal.Item.{Item}
use Rattle.authority_model.specs.declared.load.Loaded.{Loaded}
use Rattle.authority_model.specs.Items.{items_of}
use Rattle.pk_outside.specs.Causes.{Rose, one_more}
use Rattle.pk_outside.specs.Stations.{StationTold}
use Rattle.pk_outside.specs.Streams.{Got, GotFront}
use Rattle.serve_words.specs.declared.plan.ServePlan.{ServePlan}
use Rattle.service_slots.specs.declared.line.Line.{Line}
use Rattle.service_slots.specs.declared.opening.ShutSlot.{ShutSlot}
use Rattle.service_slots.specs.declared.stop.SlotStop.{SlotStop}
use Rattle.service_slots.specs.declared.stop.SlotStop.TheVariants as stop
use Rattle.service_slots.specs.Stops.{HasServedAll, NoneEnded, StopTells, ended_by}
use Rattle.authority_service.specs.declared.ends.ServiceEnd.{ServiceEnd}
use Rattle.policy_load.specs.declared.refused.LoadRefused.{LoadRefused}
use Rattle.policy_load.specs.declared.refused.LoadRefused.TheVariants as load_refused
use Rattle.policy_load.specs.Causes.{FaultCause, LoadsAs}
use Rattle.policy_load.specs.Loads.{load_of}
use Rattle.authority_service.specs.declared.opening.Unbegun.{Unbegun}
use Rattle.authority_service.specs.Begun.{HasRun, IsShort, Objects}
use Rattle.authority_service.specs.Ends.{end_of_refused}
use Rattle.authority_service.specs.Lines.{closing_text, opening_text}
use Rattle.authority_service.specs.Printing.{IsSound, WasPrinted, WasUntold, WrittenAs}
use Rattle.authority_service.specs.Looks.{NeverLooked}
use Rattle.authority_service.specs.Running.{ended_slot}
use Rattle.authority_service.proofs.Unlooked.{all_unlooked, never_both, slots_unlooked, unlooked}
use Rattle.authority_service.specs.Service.{AllServed, CanAdmitAll, CountedNone, FailedOnce, HasServed, IsFirst, IsLeft, IsUnbegun, IsUntouched, IsWritten, Left, Outside, Serves, WasCutShort, WasWhole, end_of, has_failed_door, has_no_memory, printed}

-- some bytes were got, and then others
pub got_both : (h0 h1 h2 : Option (List ℕ)) (a b : List ℕ) → Got h0 h1 a → Got h1 h2 b → Got h0 h2 (a ++ b)
got_both None None None a b x y = tt
got_both None None (Some h2) a b x y = absurd y
got_both None (Some h1) h2 a b x y = absurd x
got_both (Some h0) None h2 a b x y = absurd x
got_both (Some h0) (Some h1) None a b x y = absurd y
got_both (Some h0) (Some h1) (Some h2) a b x y = y ∙ ap (λ (l : List ℕ). l ++ b) x ∙ append_assoc h0 a b

-- the whole is a front
pub got_front : (h0 h1 : Option (List ℕ)) (a : List ℕ) → Got h0 h1 a → GotFront h0 h1 a
got_front h0 h1 a x = ([], (a, sym (append-nil a), x))

-- some bytes were got, and then a front of others
pub front_both : (h0 h1 h2 : Option (List ℕ)) (a b : List ℕ) → Got h0 h1 a → GotFront h1 h2 b → GotFront h0 h2 (a ++ b)
front_both h0 h1 h2 a b x (rest, (written, is, y)) = (rest, (a ++ written, ap (λ (l : List ℕ). a ++ l) is ∙ sym (append_assoc a written rest), got_both h0 h1 h2 a written x y))

-- nothing was got behind the first bytes
pub front_only : (h0 h1 h2 : Option (List ℕ)) (a b : List ℕ) → Got h0 h1 a → h2 ≡ h1 → GotFront h0 h2 (a ++ b)
front_only h0 h1 h2 a b x same = (b, (a, refl, subst (λ (h : Option (List ℕ)). Got h0 h a) (sym same) x))

-- a slot that the lock did not stop has no line of a connection that the lock ended
told_none : (limits : Limits) (most : Option ℕ) (w : Known Item) (from now : ℕ) (lines : List Line) (why : Option SlotStop) → StopTells limits most w from now lines why → ended_slot why ≡ None → NoneEnded lines
told_none limits most w from now lines None t none = absurd t
told_none limits most w from now lines (Some stop.Closed) t none = t
told_none limits most w from now lines (Some stop.DoorFailed) t none = t.1
told_none limits most w from now lines (Some stop.NoMemory) t none = t
told_none limits most w from now lines (Some stop.Served) t none = t.1
told_none limits most w from now lines (Some (stop.Ended cause)) t none = absurd (cc (none))

-- the same of the lines of all slots
all_none : (limits : Limits) (most : Option ℕ) (w : Known Item) (from now : ℕ) (slots : List ShutSlot)
    → All (λ s. StopTells limits most w from now s.lines.items s.stop) slots → All (λ s. ended_slot s.stop ≡ None) slots → NoneEnded (flat_map (λ s. s.lines.items) slots)
all_none limits most w from now [] stops none = All-nil (λ (l : Line). ended_by l.end ≡ None)
all_none limits most w from now (s ∷ slots) stops none =
    All-append (λ (l : Line). ended_by l.end ≡ None) s.lines.items (flat_map (λ (s : ShutSlot). s.lines.items) slots)
    (told_none limits most w from now s.lines.items s.stop (All-head (λ (t : ShutSlot). StopTells limits most w from now t.lines.items t.stop) s slots stops) (All-head (λ (t : ShutSlot). ended_slot t.stop ≡ None) s slots none))
    (all_none limits most w from now slots (All-tail (λ (t : ShutSlot). StopTells limits most w from now t.lines.items t.stop) s slots stops) (All-tail (λ (t : ShutSlot). ended_slot t.stop ≡ None) s slots none))

-- a slot whose door failed tells that the count rose
told_rose : (limits : Limits) (most : Option ℕ) (w : Known Item) (from now : ℕ) (lines : List Line) (why : Option SlotStop) → StopTells limits most w from now lines why → has_failed_door why ≡ true → Rose from now
told_rose limits most w from now lines None t failed = absurd t
told_rose limits most w from now lines (Some stop.Closed) t failed = absurd (cc (failed))
told_rose limits most w from now lines (Some stop.DoorFailed) t failed = t.0
told_rose limits most w from now lines (Some stop.NoMemory) t failed = absurd (cc (failed))
told_rose limits most w from now lines (Some stop.Served) t failed = absurd (cc (failed))
told_rose limits most w from now lines (Some (stop.Ended cause)) t failed = absurd (cc (failed))

-- the same of one of all slots
any_rose : (limits : Limits) (most : Option ℕ) (w : Known Item) (from now : ℕ) (slots : List ShutSlot)
    → All (λ s. StopTells limits most w from now s.lines.items s.stop) slots → list_any (λ s. has_failed_door s.stop) slots ≡ true → Rose from now
any_rose limits most w from now [] stops failed = absurd (cc (failed))
any_rose limits most w from now (s ∷ slots) stops failed =
    one (has_failed_door s.stop) (list_any (λ (t : ShutSlot). has_failed_door t.stop) slots) failed
    (λ yes. told_rose limits most w from now s.lines.items s.stop (All-head (λ (t : ShutSlot). StopTells limits most w from now t.lines.items t.stop) s slots stops) yes)
    (λ yes. any_rose limits most w from now slots (All-tail (λ (t : ShutSlot). StopTells limits most w from now t.lines.items t.stop) s slots stops) yes)
  where
    one : (a b : Bool) → (a || b) ≡ true → (a ≡ true → Rose from now) → (b ≡ true → Rose from now) → Rose from now
    one true b e here there = here refl
    one false b e here there = there e

-- a slot that was stopped neither by the lock nor by its door nor for want of memory served all
told_all : (limits : Limits) (most : Option ℕ) (w : Known Item) (from now : ℕ) (lines : List Line) (why : Option SlotStop)
    → StopTells limits most w from now lines why → ended_slot why ≡ None → has_no_memory why ≡ false → has_failed_door why ≡ false → HasServedAll why
told_all limits most w from now lines None t none memory failed = absurd t
told_all limits most w from now lines (Some stop.Closed) t none memory failed = inl refl
told_all limits most w from now lines (Some stop.DoorFailed) t none memory failed = absurd (cc (failed))
told_all limits most w from now lines (Some stop.NoMemory) t none memory failed = absurd (cc (memory))
told_all limits most w from now lines (Some stop.Served) t none memory failed = inr refl
told_all limits most w from now lines (Some (stop.Ended cause)) t none memory failed = absurd (cc (none))

-- the same of all slots
all_served : (limits : Limits) (most : Option ℕ) (w : Known Item) (from now : ℕ) (slots : List ShutSlot)
    → All (λ s. StopTells limits most w from now s.lines.items s.stop) slots → All (λ s. ended_slot s.stop ≡ None) slots
    → list_any (λ s. has_no_memory s.stop) slots ≡ false → list_any (λ s. has_failed_door s.stop) slots ≡ false → All (λ s. HasServedAll s.stop) slots
all_served limits most w from now [] stops none memory failed = All-nil (λ (s : ShutSlot). HasServedAll s.stop)
all_served limits most w from now (s ∷ slots) stops none memory failed =
    let (memory_here, memory_there) = or_parts (has_no_memory s.stop) (list_any (λ (t : ShutSlot). has_no_memory t.stop) slots) memory in
    let (failed_here, failed_there) = or_parts (has_failed_door s.stop) (list_any (λ (t : ShutSlot). has_failed_door t.stop) slots) failed in
    let P = λ (t : ShutSlot). StopTells limits most w from now t.lines.items t.stop in
    let Q = λ (t : ShutSlot). ended_slot t.stop ≡ None in
    All-cons (λ (t : ShutSlot). HasServedAll t.stop) s slots
    (told_all limits most w from now s.lines.items s.stop (All-head P s slots stops) (All-head Q s slots none) memory_here failed_here)
    (all_served limits most w from now slots (All-tail P s slots stops) (All-tail Q s slots none) memory_there failed_there)

-- the text that was written is a front of all that is written
wrote_front : (plan : ServePlan) (first : Loaded) (left : Left) (h0 h1 h2 : Option (List ℕ)) (f0 f1 : ℕ) (written : Bool)
    → Got h0 h1 (opening_text plan.audit first) → WrittenAs h1 h2 f0 f1 (closing_text plan.audit left.journal left.lines) written → GotFront h0 h2 (printed plan first left)
wrote_front plan first left h0 h1 h2 f0 f1 true before wrote = got_front h0 h2 (printed plan first left) (got_both h0 h1 h2 (opening_text plan.audit first) (closing_text plan.audit left.journal left.lines) before wrote.0)
wrote_front plan first left h0 h1 h2 f0 f1 false before wrote = front_both h0 h1 h2 (opening_text plan.audit first) (closing_text plan.audit left.journal left.lines) before wrote.0

-- the whole text was written
wrote_whole : (plan : ServePlan) (first : Loaded) (left : Left) (h0 h1 h2 : Option (List ℕ)) (f0 f1 : ℕ)
    → Got h0 h1 (opening_text plan.audit first) → WrittenAs h1 h2 f0 f1 (closing_text plan.audit left.journal left.lines) true → Got h0 h2 (printed plan first left)
wrote_whole plan first left h0 h1 h2 f0 f1 before wrote = got_both h0 h1 h2 (opening_text plan.audit first) (closing_text plan.audit left.journal left.lines) before wrote.0

-- the output counted no fault, or one
wrote_faults : (out : Outside) (h1 : Option (List ℕ)) (faults : ℕ) (text : List ℕ) (written : Bool)
    → faults ≡ out.write_faults_before → WrittenAs h1 out.held faults out.write_faults text written → (out.write_faults ≡ out.write_faults_before) ⊎ FailedOnce out
wrote_faults out h1 faults text true same wrote = inl (wrote.1 ∙ same)
wrote_faults out h1 faults text false same wrote = inr (wrote.1 ∙ ap one_more same)

-- the text was written whole and without a fault, or a front of it was, and the output counted one fault
wrote_so : (plan : ServePlan) (first : Loaded) (left : Left) (out : Outside) (h1 : Option (List ℕ)) (faults : ℕ) (written : Bool)
    → Got out.held_before h1 (opening_text plan.audit first) → faults ≡ out.write_faults_before → WrittenAs h1 out.held faults out.write_faults (closing_text plan.audit left.journal left.lines) written → IsWritten out (printed plan first left)
wrote_so plan first left out h1 faults true before same wrote = inl (wrote_whole plan first left out.held_before h1 out.held faults out.write_faults before wrote, wrote.1 ∙ same)
wrote_so plan first left out h1 faults false before same wrote = inr (wrote_front plan first left out.held_before h1 out.held faults out.write_faults false before wrote, wrote.1 ∙ ap one_more same)

-- the tree and the station of a service
abbrev pub objects_of : Outside → Objects
objects_of out = record {
  tree = out.tree;
  station_before = out.station_before;
  station = out.station;
  station_faults_before = out.station_faults_before;
  station_faults = out.station_faults;
}

-- what was left
abbrev pub left_of : History → List ShutSlot → ℕ → Left
left_of history slots doors = record { journal = history; lines = flat_map (λ s. s.lines.items) slots; doors = doors }

-- where there are no slots there are no lines
lines_or : {P : Type 0} (slots : List ShutSlot) → (slots ≡ []) ⊎ P → (flat_map (λ s. s.lines.items) slots ≡ []) ⊎ P
lines_or slots (inl none) = inl (ap (flat_map (λ (s : ShutSlot). s.lines.items)) none)
lines_or slots (inr holds) = inr holds

-- what holds of what was left
is_left : (plan : ServePlan) (first : Loaded) (out : Outside) (history : History) (slots : List ShutSlot) (kept : Option EndCause) (run : HasRun plan first (objects_of out) history slots kept)
    → (plan.live ≡ false → All NeverLooked (flat_map (λ s. s.lines.items) slots)) → IsLeft plan out (left_of history slots run.doors)
is_left plan first out history slots kept run looks = record { legal = run.legal; within = run.within; licensed = access (items_of history) run.legal.history; slots = run.served; doors = run.back; loaded = lines_or slots run.loaded; looks = looks }

-- The same where the lines were not looked through. Unless the plan is live, each line stands there without a look: what a line says of its connection holds of this one too.
untold_left : (plan : ServePlan) (first : Loaded) (out : Outside) (history : History) (slots : List ShutSlot) (kept : Option EndCause) (run : HasRun plan first (objects_of out) history slots kept) (live : Bool)
    → plan.live ≡ live → (lines : List Line) × IsLeft plan out (record { journal = history; lines = lines; doors = run.doors })
untold_left plan first out history slots kept run true is =
    (flat_map (λ (s : ShutSlot). s.lines.items) slots, is_left plan first out history slots kept run (λ no. never_both plan.live is no))
untold_left plan first out history slots kept run false is =
    let lines = flat_map (λ (s : ShutSlot). s.lines.items) slots in
    (map unlooked lines, record { legal = run.legal; within = run.within; licensed = access (items_of history) run.legal.history; slots = (λ none. slots_unlooked _ out.station lines (run.served none)); doors = run.back; loaded = unlooked_or lines (lines_or slots run.loaded); looks = (λ no. all_unlooked lines) })
  where
    unlooked_or : {P : Type 0} (lines : List Line) → (lines ≡ []) ⊎ P → (map unlooked lines ≡ []) ⊎ P
    unlooked_or lines (inl none) = inl (ap (map unlooked) none)
    unlooked_or lines (inr holds) = inr holds

-- more slots have as many passes
admits_more : (live : Bool) (lines few many : ℕ) → few ≤ many → CanAdmitAll live lines few → CanAdmitAll live lines many
admits_more true lines few many le admits = omega (arith, le, admits)
admits_more false lines few many le admits = omega (arith, le, admits)

-- the lock was not ended
was_whole : (plan : ServePlan) (first : Loaded) (out : Outside) (history : History) (slots : List ShutSlot) (run : HasRun plan first (objects_of out) history slots None)
    → IsSound plan.live (items_of history) (flat_map (λ s. s.lines.items) slots) (length slots) None → WasWhole plan out (left_of history slots run.doors)
was_whole plan first out history slots run told =
    let whole = run.whole refl in
    record {
      doors = whole.all.0;
      none_ended = all_none plan.limits plan.stop_after whole.stopped.known out.station_faults_before out.station_faults slots whole.stopped.stops whole.stopped.none_ended;
      loads = whole.loads;
      all_loads = told.loads refl;
    }

-- and no slot was stopped by its door or for want of memory
doors_done : (plan : ServePlan) (first : Loaded) (out : Outside) (history : History) (slots : List ShutSlot) (run : HasRun plan first (objects_of out) history slots None)
    → list_any (λ s. has_no_memory s.stop) slots ≡ false → list_any (λ s. has_failed_door s.stop) slots ≡ false → AllServed plan out
doors_done plan first out history slots run memory failed =
    let stopped = (run.whole refl).stopped in
    stopped.done (all_served plan.limits plan.stop_after stopped.known out.station_faults_before out.station_faults slots stopped.stops stopped.none_ended memory failed)

-- so that the station counted no fault
doors_quiet : (plan : ServePlan) (first : Loaded) (out : Outside) (history : History) (slots : List ShutSlot) (run : HasRun plan first (objects_of out) history slots None)
    → list_any (λ s. has_no_memory s.stop) slots ≡ false → list_any (λ s. has_failed_door s.stop) slots ≡ false → CountedNone out
doors_quiet plan first out history slots run memory failed =
    let stopped = (run.whole refl).stopped in
    stopped.quiet (all_served plan.limits plan.stop_after stopped.known out.station_faults_before out.station_faults slots stopped.stops stopped.none_ended memory failed)

-- the service was served, and its text was written
served_so : (plan : ServePlan) (first : Loaded) (out : Outside) (history : History) (slots : List ShutSlot) (kept : Option EndCause) (run : HasRun plan first (objects_of out) history slots kept)
    → IsFirst plan out first → IsSound plan.live (items_of history) (flat_map (λ s. s.lines.items) slots) (length slots) kept
    → IsWritten out (printed plan first (left_of history slots run.doors)) → HasServed plan out first (left_of history slots run.doors)
served_so plan first out history slots kept run is_first told written = record {
  is_first = is_first;
  is_left = is_left plan first out history slots kept run told.looks;
  begins = run.begins;
  orderly = told.orderly;
  unlisted = told.unlisted;
  written = written;
}

-- memory was refused once the lines were looked through
cut_short : (plan : ServePlan) (first : Loaded) (out : Outside) (history : History) (slots : List ShutSlot) (kept : Option EndCause) (h1 : Option (List ℕ)) (faults : ℕ) (run : HasRun plan first (objects_of out) history slots kept)
    → IsFirst plan out first → IsSound plan.live (items_of history) (flat_map (λ s. s.lines.items) slots) (length slots) kept
    → Got out.held_before h1 (opening_text plan.audit first) → faults ≡ out.write_faults_before
    → (written : Bool) → WrittenAs h1 out.held faults out.write_faults (closing_text plan.audit history (flat_map (λ s. s.lines.items) slots)) written → WasCutShort plan out
cut_short plan first out history slots kept h1 faults run is_first told before same written wrote =
    let left = left_of history slots run.doors in
    record {
      first = first;
      is_first = is_first;
      left = left;
      is_left = is_left plan first out history slots kept run told.looks;
      begins = run.begins;
      written = wrote_front plan first left out.held_before h1 out.held faults out.write_faults written before wrote;
      faults = wrote_faults out h1 faults (closing_text plan.audit history left.lines) written same wrote;
    }

-- how the service ended, by the kept cause, by whether memory was refused to a slot, by whether a door failed, and by whether all was written
serves_by : (plan : ServePlan) (first : Loaded) (out : Outside) (history : History) (slots : List ShutSlot) (kept : Option EndCause) (h1 : Option (List ℕ)) (faults : ℕ) (run : HasRun plan first (objects_of out) history slots kept)
    → IsFirst plan out first → IsSound plan.live (items_of history) (flat_map (λ s. s.lines.items) slots) (length slots) kept
    → Got out.held_before h1 (opening_text plan.audit first) → faults ≡ out.write_faults_before
    → (no_memory failed written : Bool) → list_any (λ s. has_no_memory s.stop) slots ≡ no_memory → list_any (λ s. has_failed_door s.stop) slots ≡ failed
    → WrittenAs h1 out.held faults out.write_faults (closing_text plan.audit history (flat_map (λ s. s.lines.items) slots)) written → Serves plan out (end_of kept slots written)
serves_by plan first out history slots (Some (cause.JournalFull entries bytes)) h1 faults run is_first told before same no_memory failed written n d wrote =
    let left = left_of history slots run.doors in
    record { first = first; left = left; served = served_so plan first out history slots (Some (cause.JournalFull entries bytes)) run is_first told (wrote_so plan first left out h1 faults written before same wrote); more = run.cause }
serves_by plan first out history slots (Some (cause.Admissions admitted)) h1 faults run is_first told before same no_memory failed written n d wrote =
    let left = left_of history slots run.doors in
    let few = run.few in
    let many = told.passes admitted refl in
    record { first = first; left = left; served = served_so plan first out history slots (Some (cause.Admissions admitted)) run is_first told (wrote_so plan first left out h1 faults written before same wrote); more = (run.cause, admits_more plan.live (length left.lines) (length slots) _ few many) }
serves_by plan first out history slots (Some cause.NoMemory) h1 faults run is_first told before same no_memory failed written n d wrote =
    inr (inr (cut_short plan first out history slots (Some cause.NoMemory) h1 faults run is_first told before same written wrote))
serves_by plan first out history slots None h1 faults run is_first told before same true failed written n d wrote =
    rw n (inr (inr (cut_short plan first out history slots None h1 faults run is_first told before same written wrote)))
serves_by plan first out history slots None h1 faults run is_first told before same false true written n d wrote =
    let left = left_of history slots run.doors in
    let whole = run.whole refl in
    rw (n, d) (
      any_rose plan.limits plan.stop_after whole.stopped.known out.station_faults_before out.station_faults slots whole.stopped.stops d,
      inr (record { first = first; left = left; served = served_so plan first out history slots None run is_first told (wrote_so plan first left out h1 faults written before same wrote); more = was_whole plan first out history slots run told }),
    )
serves_by plan first out history slots None h1 faults run is_first told before same false false true n d wrote =
    let left = left_of history slots run.doors in
    rw (n, d) (
      doors_quiet plan first out history slots run n d,
      record { first = first; left = left; served = served_so plan first out history slots None run is_first told (wrote_so plan first left out h1 faults true before same wrote); more = (was_whole plan first out history slots run told, doors_done plan first out history slots run n d, (wrote_whole plan first left out.held_before h1 out.held faults out.write_faults before wrote, wrote.1 ∙ same)) },
    )
serves_by plan first out history slots None h1 faults run is_first told before same false false false n d wrote =
    let left = left_of history slots run.doors in
    rw (n, d) (
      wrote.1 ∙ ap one_more same,
      doors_quiet plan first out history slots run n d,
      inr (record { first = first; left = left; served = served_so plan first out history slots None run is_first told (wrote_so plan first left out h1 faults false before same wrote); more = (was_whole plan first out history slots run told, doors_done plan first out history slots run n d) }),
    )

-- a service whose slots ended, once its lines were printed
pub serves_told : (plan : ServePlan) (first : Loaded) (out : Outside) (history : History) (slots : List ShutSlot) (kept : Option EndCause) (h1 : Option (List ℕ)) (faults : ℕ) (e : ServiceEnd)
    → HasRun plan first (objects_of out) history slots kept → IsFirst plan out first → Got out.held_before h1 (opening_text plan.audit first) → faults ≡ out.write_faults_before
    → WasUntold h1 out.held faults out.write_faults e ⊎ WasPrinted plan.live plan.audit history (flat_map (λ s. s.lines.items) slots) kept slots h1 out.held faults out.write_faults e
    → Serves plan out e
serves_told plan first out history slots kept h1 faults e run is_first before same (inl untold) =
    let (lines, is_left) = untold_left plan first out history slots kept run plan.live refl in
    subst (λ (x : ServiceEnd). Serves plan out x) (sym untold.end_is)
    (inr (inr (record { first = first; is_first = is_first; left = record { journal = history; lines = lines; doors = run.doors }; is_left = is_left; begins = run.begins; written = front_only out.held_before h1 out.held (opening_text plan.audit first) (closing_text plan.audit history lines) before untold.same; faults = inl (untold.quiet ∙ same) })))
serves_told plan first out history slots kept h1 faults e run is_first before same (inr told) =
    subst (λ (x : ServiceEnd). Serves plan out x) (sym told.end_is)
    (serves_by plan first out history slots kept h1 faults run is_first told.sound before same (list_any (λ s. has_no_memory s.stop) slots) (list_any (λ s. has_failed_door s.stop) slots) told.written refl refl told.wrote)

-- a service that was cut short before there was a connection
pub unbegun_short : (plan : ServePlan) (first : Loaded) (out : Outside) (t0 t1 : Option StationTold) (f0 f1 : ℕ) (why : Unbegun) → t0 ≡ out.station_before → t1 ≡ out.station
    → IsShort plan t0 t1 f0 f1 why → IsFirst plan out first → IsWritten out (opening_text plan.audit first) → IsUnbegun plan out
unbegun_short plan first out t0 t1 f0 f1 why before now short is_first written = record {
  first = first;
  is_first = is_first;
  doors = short.doors;
  back = rw (sym before, sym now) short.back;
  unserved = rw (sym before, sym now) short.unserved;
  written = written;
}

-- a service whose first load is refused
pub refused_serves : (plan : ServePlan) (out : Outside) (refused : LoadRefused) → IfSome out.tree (λ tree. LoadsAs (load_of tree plan.root) (Err refused)) → FaultCause out.tree_faults_before out.tree_faults refused
    → IsUntouched out → Serves plan out (end_of_refused refused)
refused_serves plan out (load_refused.TreeFault count) loads cause same = (same, cause.0, cause.1)
refused_serves plan out (load_refused.Limit which count) loads cause same = (same, loads)
refused_serves plan out (load_refused.BadTable file why) loads cause same = (same, loads)
refused_serves plan out load_refused.NoMemory loads cause same = inl same
