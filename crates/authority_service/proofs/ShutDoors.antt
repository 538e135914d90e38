-- One more slot is shut.
use Rattle.std.proofs.Common.{◌≡◌, ◌++◌, ◌≤◌, [], ◌∷◌, List, ℕ, Option, None, Some, refl, sym, ap, ◌∙◌, subst, append_assoc, append-nil, arith}
use Rattle.std.specs.Prelude.{All, flat_map, map}
use Rattle.std.proofs.lemmas.List.{flat_map_more, map-append}
use Rattle.std.proofs.lemmas.List.Elements.{All-append, All-head, All-nil, All-pop, All-push, All-tail, All-weaker}
use Rattle.history_lock.specs.declared.machine.TheConstants.{MOST_PASSES}
use Rattle.history_lock.specs.Known.{Known}
use Rattle.pk_outside.specs.Causes.{Rose}
use Rattle.pk_outside.specs.Doors.{DoorTold}
use Rattle.pk_outside.specs.Stations.{DoorBack, StationTold}
use Rattle.authority_model.specs.declared.journal.Item.{Item}
use Rattle.authority_model.specs.declared.journal.Limits.{Limits}
use Rattle.connection_laws.specs.Knowing.{KnowsMore}
use Rattle.shared_authority.specs.Lasting.{fits_lasts}
use Rattle.service_slots.specs.declared.line.Line.{Line}
use Rattle.service_slots.specs.declared.stop.SlotStop.{SlotStop}
use Rattle.service_slots.specs.declared.stop.SlotStop.TheVariants as stop
use Rattle.service_slots.specs.declared.opening.ShutSlot.{ShutSlot}
use Rattle.service_slots.specs.Doors.{DoorsAreDone, IsDone, ShutsDoor}
use Rattle.service_slots.specs.Stops.{CountsAs, HasServedAll, StopTells}
use Rattle.service_slots.proofs.Stopping.{counts_served}
use Rattle.authority_service.specs.Shutting.{ShutsAll}

-- no slot was shut
pub shuts_none : (told : Option StationTold) → ShutsAll told told []
shuts_none told = record { where_told = (λ now e. (now, e, [], refl, sym (ap (λ (s : List DoorBack). record now { shut = s }) (append-nil now.shut)))) }

-- the next slot was shut
pub shuts_next : (t0 t1 t2 : Option StationTold) (doors : List (Option DoorTold)) (one : Option DoorTold) → ShutsAll t0 t1 doors → ShutsDoor t1 t2 one → ShutsAll t0 t2 (doors ++ one ∷ [])
shuts_next t0 t1 t2 doors one before shuts = record {
  where_told = (λ now e.
      let (t, t_is, back, one_is, now_is) = shuts.where_told now e in
      let (old, old_is, backs, doors_are, was) = before.where_told t t_is in
      let f = λ (b : DoorBack). Some b.door in
      let all : doors ++ one ∷ [] ≡ map f backs ++ Some back.door ∷ [] =
      ap (λ (m : List (Option DoorTold)). m ++ one ∷ []) doors_are ∙ ap (λ (o : Option DoorTold). map f backs ++ o ∷ []) one_is in (
        old,
        old_is,
        backs ++ back ∷ [],
        all ∙ sym (map-append f backs (back ∷ [])),
        now_is ∙ (ap (λ (s : StationTold). record s { shut = s.shut ++ back ∷ [] }) was ∙ ap (λ (s : List DoorBack). record old { shut = s }) (append_assoc old.shut backs (back ∷ []))),
      ));
}

-- no door came back
pub done_none : (most : Option ℕ) (told : Option StationTold) → DoorsAreDone most told told
done_none most told = record { where_told = (λ now e. (now, e, [], sym (append-nil now.shut), All-nil (λ (b : DoorBack). IsDone most b.door))) }

-- doors came back that are done, and then others
pub done_both : (most : Option ℕ) (t0 t1 t2 : Option StationTold) → DoorsAreDone most t0 t1 → DoorsAreDone most t1 t2 → DoorsAreDone most t0 t2
done_both most t0 t1 t2 first second = record {
  where_told = (λ now e.
      let (mid, mid_is, later, shut, later_done) = second.where_told now e in
      let (old, old_is, backs, was, done) = first.where_told mid mid_is in (
        old,
        old_is,
        backs ++ later,
        shut ∙ ap (λ (s : List DoorBack). s ++ later) was ∙ append_assoc old.shut backs later,
        All-append (λ (b : DoorBack). IsDone most b.door) backs later done later_done,
      ));
}

-- the next slot was shut, and all of them served all
pub done_next : (most : Option ℕ) (t0 t1 t2 : Option StationTold) (slots now : List ShutSlot) (one : ShutSlot) → now ≡ slots ++ one ∷ []
    → (All (λ s. HasServedAll s.stop) slots → DoorsAreDone most t0 t1) → (HasServedAll one.stop → DoorsAreDone most t1 t2) → All (λ s. HasServedAll s.stop) now → DoorsAreDone most t0 t2
done_next most t0 t1 t2 slots now one pushed before next all =
    let (these, last) = All-pop (λ (s : ShutSlot). HasServedAll s.stop) now slots (Some one) pushed all in
    done_both most t0 t1 t2 (before these) (next last)

-- the next slot was shut, and where all of them served all none counted a fault
pub counts_next : (from until later : ℕ) (slots now : List ShutSlot) (one : ShutSlot) → now ≡ slots ++ one ∷ []
    → (All (λ s. HasServedAll s.stop) slots → until ≡ from) → CountsAs until later one.stop → All (λ s. HasServedAll s.stop) now → later ≡ from
counts_next from until later slots now one pushed before next all =
    let (these, last) = All-pop (λ (s : ShutSlot). HasServedAll s.stop) now slots (Some one) pushed all in
    counts_served until later one.stop next last ∙ before these

-- what a slot's stop told goes on to hold, as the pass learns more and the station counts more
pub told_later : (limits : Limits) (most : Option ℕ) (v w : Known Item) (from until now : ℕ) (lines : List Line) (why : Option SlotStop)
    → StopTells limits most v from until lines why → KnowsMore v w → w.made ≤ MOST_PASSES → until ≤ now → StopTells limits most w from now lines why
told_later limits most v w from until now lines None t k top later = absurd t
told_later limits most v w from until now lines (Some stop.Closed) t k top later = t
told_later limits most v w from until now lines (Some stop.DoorFailed) t k top later = (let r = t.0 in omega (arith, r, later), t.1)
told_later limits most v w from until now lines (Some stop.NoMemory) t k top later = t
told_later limits most v w from until now lines (Some stop.Served) t k top later = t
told_later limits most v w from until now lines (Some (stop.Ended cause)) t k top later = (fits_lasts limits cause v.history w.history v.made w.made t.0 k.journal k.begins k.made top, t.1)

-- a count that rose, rose since any moment before it
pub rose_before : (from before now : ℕ) → from ≤ before → Rose before now → Rose from now
rose_before from before now le rose = omega (arith, le, rose)

-- the same of what a slot's stop told
pub told_before : (limits : Limits) (most : Option ℕ) (w : Known Item) (from before now : ℕ) (lines : List Line) (why : Option SlotStop)
    → StopTells limits most w before now lines why → from ≤ before → StopTells limits most w from now lines why
told_before limits most w from before now lines None t le = absurd t
told_before limits most w from before now lines (Some stop.Closed) t le = t
told_before limits most w from before now lines (Some stop.DoorFailed) t le = (rose_before from before now le t.0, t.1)
told_before limits most w from before now lines (Some stop.NoMemory) t le = t
told_before limits most w from before now lines (Some stop.Served) t le = t
told_before limits most w from before now lines (Some (stop.Ended cause)) t le = t

-- what holds of all that are left holds of the next of them, and of the others
pub next_of : {X : Type 0} (x : X) (others left : List X) (P : X → Type 0) → left ≡ x ∷ others → All P left → P x × All P others
next_of x others left P step all = let these : All P (x ∷ others) = subst (λ l. All P l) step all in (All-head P x others these, All-tail P x others these)

-- the next of those that are left goes behind the ones that came before
pub moved_on : {X Y : Type 0} (f : X → Y) (all left others : List X) (x : X) (before : List Y) → map f all ≡ before ++ map f left → left ≡ x ∷ others
    → map f all ≡ (before ++ f x ∷ []) ++ map f others
moved_on {X} f all left others x before was step = was ∙ ap (λ (l : List X). before ++ map f l) step ∙ sym (append_assoc before (f x ∷ []) (map f others))

-- the same where what came before is read off other values
pub moved_to : {X Y Z : Type 0} (f : X → Y) (h : Z → Y) (all left others : List X) (x : X) (done now : List Z) (one : Z) → map f all ≡ map h done ++ map f left → left ≡ x ∷ others
    → now ≡ done ++ one ∷ [] → h one ≡ f x → map f all ≡ map h now ++ map f others
moved_to {X} {Y} {Z} f h all left others x done now one was step pushed same =
    let front : map h now ≡ map h done ++ f x ∷ [] = ap (map h) pushed ∙ map-append h done (one ∷ []) ∙ ap (λ (y : Y). map h done ++ y ∷ []) same in
    moved_on f all left others x (map h done) was step ∙ ap (λ (l : List Y). l ++ map f others) (sym front)

-- none are left
pub moved_all : {X Y : Type 0} (f : X → Y) (all left given : List X) (before : List Y) → map f all ≡ before ++ map f left → left ≡ [] → all ≡ given → before ≡ map f given
moved_all {X} f all left given before was none all_given = sym (append-nil before) ∙ ap (λ (l : List X). before ++ map f l) (sym none) ∙ sym was ∙ ap (map f) all_given

-- the lines of the slots that were shut, with those of one more
pub lines_next : (done now : List ShutSlot) (one : ShutSlot) → now ≡ done ++ one ∷ [] → flat_map (λ s. s.lines.items) done ++ one.lines.items ≡ flat_map (λ s. s.lines.items) now
lines_next done now one pushed = flat_map_more (λ (s : ShutSlot). s.lines.items) [] done one ∙ ap (flat_map (λ (s : ShutSlot). s.lines.items)) (sym pushed)

-- what the stops of the slots that were shut told, with that of one more
pub stops_next : (limits : Limits) (most : Option ℕ) (v w : Known Item) (from until later : ℕ) (done now : List ShutSlot) (one : ShutSlot)
    → now ≡ done ++ one ∷ [] → KnowsMore v w → w.made ≤ MOST_PASSES → from ≤ until → until ≤ later
    → All (λ s. StopTells limits most v from until s.lines.items s.stop) done → StopTells limits most w until later one.lines.items one.stop
    → All (λ s. StopTells limits most w from later s.lines.items s.stop) now
stops_next limits most v w from until later done now one pushed more top before after told next =
    let P = λ (s : ShutSlot). StopTells limits most v from until s.lines.items s.stop in
    let Q = λ (s : ShutSlot). StopTells limits most w from later s.lines.items s.stop in
    let old : All Q done = All-weaker P Q (λ s t. told_later limits most v w from until later s.lines.items s.stop t more top after) done told in
    let new : Q one = told_before limits most w from until later one.lines.items one.stop next before in
    subst (λ (l : List ShutSlot). All Q l) (sym pushed) (All-push Q done one old new)
