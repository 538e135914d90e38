-- What a service knows when its journal is closed.
use Rattle.std.proofs.Common.{◌≡◌, ◌<◌, ◌≤◌, ◌++◌, [], ◌∷◌, List, ℕ, Bool, true, false, suc, Option, None, Some, Result, Ok, Err, IfSome, IfNone, refl, sym, ap, ◌∙◌, subst, arith}
use Rattle.std.specs.Option.{option_or}
use Rattle.std.specs.Result.{result_err}
use Rattle.std.specs.Prelude.{All, map, length, slice_index_or}
use Rattle.std.specs.List.{flat_map}
use Rattle.std.proofs.lemmas.List.Elements.{All-head, All-tail}
use mathlib.Core.List.{IsPrefix}
use Rattle.history_lock.specs.declared.machine.TheConstants.{MOST_PASSES}
use Rattle.history_lock.specs.Calls.{Learned}
use Rattle.history_lock.specs.Entries.{GrownByOthers}
use Rattle.history_lock.specs.Known.{Known}
use Rattle.history_lock.specs.declared.machine.EndCause.{EndCause}
use Rattle.history_lock.proofs.Growth.{others_begin, others_trans}
use Rattle.history_lock.proofs.Prefixes.{prefix_trans}
use Rattle.pk_outside.specs.Doors.{DoorTold}
use Rattle.pk_outside.specs.Links.{LinkBack}
use Rattle.pk_outside.specs.declared.sights.Sighted.{Sighted}
use Rattle.pk_outside.specs.Stations.{DoorBack, StationTold}
use Rattle.authority_model.specs.declared.journal.Item.{Item}
use Rattle.authority_model.specs.declared.journal.Limits.{Limits}
use Rattle.command_line.specs.declared.door.DoorPath.{DoorPath}
use Rattle.serve_words.specs.declared.plan.ServePlan.{ServePlan}
use Rattle.shared_authority.specs.Journals.{Fits, IsJournal, caller_of}
use Rattle.shared_authority.specs.Lasting.{fits_lasts}
use Rattle.service_slots.proofs.Backs.{slots_longer}
use Rattle.service_slots.proofs.Fresh.{learned_prefix}
use Rattle.service_slots.specs.Doors.{DoorMade, DoorsAreDone, door_made, made_of}
use Rattle.service_slots.specs.declared.line.Line.{Line}
use Rattle.service_slots.specs.Served.{Served, Slots, SlotsOf}
use Rattle.authority_model.specs.Words.{Bytes}
use Rattle.pk_outside.specs.Trees.{TreeTold}
use Rattle.serve_loader.specs.declared.ends.LoaderEnd.{LoaderEnd}
use Rattle.serve_loader.specs.declared.ends.LoaderEnd.TheVariants as loader
use Rattle.serve_loader.specs.Loads.{Loads}
use Rattle.service_slots.specs.declared.opening.ShutSlot.{ShutSlot}
use Rattle.service_slots.specs.declared.stop.SlotStop.{SlotStop}
use Rattle.service_slots.specs.declared.stop.SlotStop.TheVariants as stop
use Rattle.service_slots.specs.Ending.{StopsLoader}
use Rattle.service_slots.specs.Stops.{StopTells}
use Rattle.authority_service.specs.Causes.{FitsJournal}
use Rattle.authority_service.specs.Beginning.{HasBegun}
use Rattle.authority_service.specs.Running.{HaveClosed, LoadsAlone, LoadsAll, ended_loader, ended_slot}
use Rattle.authority_service.specs.Places.{OpensFirst, first_doors, sights_left}
use Rattle.authority_service.specs.declared.opening.Unbegun.TheVariants as unbegun
use Rattle.authority_service.specs.Begun.{IsShort}
use Rattle.authority_service.specs.Service.{DoorsBack, slots_of}
use Rattle.authority_service.specs.Shutting.{ShutsAll}

-- the two passes met, and the journal was closed by the loader's
pub have_closed : (control zero first second : Known Item) (journal : List Item) → zero.number ≡ 0 → Learned caller_of IsJournal control first → Learned caller_of IsJournal zero second
    → first.history ≡ second.history → first.made ≡ second.made → first.made ≤ MOST_PASSES → GrownByOthers caller_of second.number second.history journal → HaveClosed control zero journal
have_closed control zero first second journal is told learned same counted top closed =
    let before : GrownByOthers caller_of 0 zero.history second.history = subst (λ (n : ℕ). GrownByOthers caller_of n zero.history second.history) is learned.others in
    let behind : GrownByOthers caller_of 0 second.history journal = subst (λ (n : ℕ). GrownByOthers caller_of n second.history journal) (learned.number ∙ is) closed in
    let rest = others_trans caller_of 0 zero.history second.history journal before behind in
    let known : IsPrefix first.history journal = subst (λ (h : List Item). IsPrefix h journal) (sym same) (others_begin caller_of 0 second.history journal behind) in
    let grown = learned.made in
    record {
      control_begins = prefix_trans control.history first.history journal (learned_prefix control first told) known;
      zero_begins = others_begin caller_of 0 zero.history journal rest;
      rest = rest;
      top = omega (arith, grown, counted, top);
    }

-- the loader alone entered by its number
pub loads_alone : (start zero : Known Item) (journal : List Item) → HasBegun start → GrownByOthers caller_of 0 zero.history journal → LoadsAlone start.history zero.history journal
loads_alone start zero journal begun rest = record { first = begun.first; begun = begun.own; rest = rest }

-- a cause that fits what a pass knows fits the journal that goes on from there
pub fits_closed : (limits : Limits) (cause : EndCause) (v : Known Item) (journal : List Item) → Fits limits cause v.history v.made → IsPrefix v.history journal → IsJournal journal → v.made ≤ MOST_PASSES → FitsJournal limits cause journal
fits_closed limits cause v journal fits begins legal top = record { made = v.made; fits = fits_lasts limits cause v.history journal v.made v.made fits legal begins (omega arith) top }

-- doors that tell what they were made as, where these stand
made_same : (backs : List DoorBack) (doors : List DoorMade) → map made_of (map (λ (b : DoorBack). Some b.door) backs) ≡ map (λ (d : DoorMade). Some d) doors → map (λ (b : DoorBack). door_made b.door) backs ≡ doors
made_same [] [] e = refl
made_same [] (d ∷ doors) e = absurd (cc (e))
made_same (b ∷ backs) [] e = absurd (cc (e))
made_same (b ∷ backs) (d ∷ doors) e =
    let head : door_made b.door ≡ d = cc (e) in
    let tail : map (λ (b : DoorBack). door_made b.door) backs ≡ doors = made_same backs doors (cc (e)) in
    cc (head, tail)

-- the doors that were opened came back
pub doors_back : (plan : ServePlan) (count : ℕ) (t0 t1 t2 : Option StationTold) (made : List (Option DoorMade)) (doors : List (Option DoorTold))
    → OpensFirst plan.doors plan.slots count plan.live t0 t1 made → ShutsAll t1 t2 doors → map made_of doors ≡ made → DoorsBack plan count t0 t2
doors_back plan count t0 t1 t2 made doors opens shuts same_made = record {
  where_told = (λ now e.
      let (mid, mid_is, backs, doors_are, now_is) = shuts.where_told now e in
      let (old, old_is, first_is, behind) = opens.where_told mid mid_is in (
        old,
        old_is,
        backs,
        now_is ∙ ap (λ (s : StationTold). record s { shut = s.shut ++ backs }) behind,
        made_same backs (first_doors plan.doors plan.slots old.doors count) (sym (ap (λ (l : List (Option DoorTold)). map made_of l) doors_are) ∙ (same_made ∙ first_is)),
      ));
}

-- the doors that came back once the doors were opened are all that came back
pub opened_done : (paths : List DoorPath) (each count : ℕ) (live : Bool) (t0 t1 t2 : Option StationTold) (made : List (Option DoorMade)) (most : Option ℕ) → OpensFirst paths each count live t0 t1 made → DoorsAreDone most t1 t2 → DoorsAreDone most t0 t2
opened_done paths each count live t0 t1 t2 made most opens after = record {
  where_told = (λ now e.
      let (mid, mid_is, backs, shut, done) = after.where_told now e in
      let (old, old_is, first_is, behind) = opens.where_told mid mid_is in
      (old, old_is, backs, shut ∙ ap (λ (s : StationTold). s.shut ++ backs) behind, done));
}

-- no slot took sightings
sights_none : (live : Bool) (sights : List (List Sighted)) → sights_left live sights 0 ≡ sights
sights_none true sights = refl
sights_none false sights = refl

-- no door was made
pub doors_none : (plan : ServePlan) (told : Option StationTold) → DoorsBack plan 0 told told
doors_none plan told = record {
  where_told = (λ now e.
      (now, e, [], ap (λ (s : List DoorBack). record now { shut = s }) (none now.shut) ∙ sym (ap (λ (s : List (List Sighted)). record now { shut = now.shut ++ []; sights = s }) (sights_none plan.live now.sights)), refl));
}
  where
    none : (l : List DoorBack) → l ≡ l ++ []
    none [] = refl
    none (x ∷ xs) = ap (λ (t : List DoorBack). x ∷ t) (none xs)

-- where nothing came back before, nothing had come back once the doors were opened
pub opened_none : (paths : List DoorPath) (each count : ℕ) (live : Bool) (t0 t1 : Option StationTold) (made : List (Option DoorMade)) (H : List Item) → OpensFirst paths each count live t0 t1 made → SlotsOf [] t0 [] → SlotsOf H t1 []
opened_none paths each count live t0 t1 made H opens none = record {
  where_told = (λ now e.
      let (old, old_is, first_is, behind) = opens.where_told now e in
      subst (λ (l : List DoorBack). Slots H l []) (sym (ap (λ (s : StationTold). s.shut) behind)) (unserved old.shut (none.where_told old old_is)));
}
  where
    unserved : (backs : List DoorBack) → Slots [] backs [] → Slots H backs []
    unserved backs s = slots_longer [] H backs [] (H, refl) s

-- lists of lists that are the same make the same list
pub flat_same : {A B C : Type 0} (f : A → List C) (g : B → List C) (xs : List A) (ys : List B) → map f xs ≡ map g ys → flat_map f xs ≡ flat_map g ys
flat_same f g [] [] e = refl
flat_same f g [] (y ∷ ys) e = absurd (cc (e))
flat_same f g (x ∷ xs) [] e = absurd (cc (e))
flat_same {A} {B} {C} f g (x ∷ xs) (y ∷ ys) e =
    let head : f x ≡ g y = cc (e) in
    let tail : flat_map f xs ≡ flat_map g ys = flat_same f g xs ys (cc (e)) in
    ap (λ (p : List C). p ++ flat_map f xs) head ∙ ap (λ (q : List C). g y ++ q) tail

-- empty lists make an empty list
pub flat_none : {A C : Type 0} (f : A → List C) (xs : List A) → All (λ x. f x ≡ []) xs → flat_map f xs ≡ []
flat_none f [] none = refl
flat_none {A} {C} f (x ∷ xs) none = ap (λ (p : List C). p ++ flat_map f xs) (All-head (λ (y : A). f y ≡ []) x xs none) ∙ flat_none f xs (All-tail (λ (y : A). f y ≡ []) x xs none)

-- doors without lines served nothing, so that their slots speak of no history
pub unserved : (H : List Item) (backs : List DoorBack) → Slots H backs [] → Slots [] backs []
unserved H [] s = refl
unserved H (back ∷ backs) ([], [], is, served, rest) = ([], [], refl, nothing back.door.taken served, unserved H backs rest)
  where
    nothing : (links : List LinkBack) → Served H back.door.uid links [] back.readings back.words → Served [] back.door.uid links [] back.readings back.words
    nothing [] s = s
    nothing (link ∷ links) s = absurd s
unserved H (back ∷ backs) ([], o ∷ others, is, served, rest) = absurd (cc (is))
unserved H (back ∷ backs) (m ∷ mine, others, is, served, rest) = absurd (cc (is))

-- the same where the station tells
pub unserved_told : (H : List Item) (told : Option StationTold) (lines : List Line) → lines ≡ [] → SlotsOf H told lines → SlotsOf [] told []
unserved_told H told lines none s = record { where_told = (λ t e. unserved H t.shut (subst (λ (l : List Line). Slots H t.shut l) none (s.where_told t e))) }

-- the same of a longer history
pub slots_closed : (H more : List Item) (told : Option StationTold) (lines : List Line) → IsPrefix H more → SlotsOf H told lines → SlotsOf more told lines
slots_closed H more told lines longer s = record { where_told = (λ t e. slots_longer H more t.shut lines longer (s.where_told t e)) }

-- the same things made of two lists: the lists have one length
pub same_length : {A B C : Type 0} (f : A → C) (g : B → C) (xs : List A) (ys : List B) → map f xs ≡ map g ys → length xs ≡ length ys
same_length f g [] [] e = refl
same_length f g [] (y ∷ ys) e = absurd (cc (e))
same_length f g (x ∷ xs) [] e = absurd (cc (e))
same_length f g (x ∷ xs) (y ∷ ys) e = ap suc (same_length f g xs ys (cc (e)))

-- what doors were made as, where the slots tell the same doors
pub made_again : {A B : Type 0} (f : A → Option DoorTold) (g : B → Option DoorTold) (xs : List A) (ys : List B) → map (λ (s : A). made_of (f s)) xs ≡ map (λ (s : B). made_of (g s)) ys → map made_of (map f xs) ≡ map (λ (s : B). made_of (g s)) ys
made_again {A} {B} f g xs ys e = twice xs ∙ e
  where
    twice : (zs : List A) → map made_of (map f zs) ≡ map (λ (s : A). made_of (f s)) zs
    twice [] = refl
    twice (z ∷ zs) = ap (λ (l : List (Option DoorMade)). made_of (f z) ∷ l) (twice zs)

-- the cause by which the lock stopped a slot fits the journal
stop_closed : (limits : Limits) (most : Option ℕ) (w : Known Item) (from now : ℕ) (lines : List Line) (why : Option SlotStop) (cause : EndCause) (journal : List Item)
    → StopTells limits most w from now lines why → ended_slot why ≡ Some cause → IsPrefix w.history journal → IsJournal journal → w.made ≤ MOST_PASSES → FitsJournal limits cause journal
stop_closed limits most w from now lines None cause journal t e begins legal top = absurd t
stop_closed limits most w from now lines (Some stop.Closed) cause journal t e begins legal top = absurd (cc (e))
stop_closed limits most w from now lines (Some stop.DoorFailed) cause journal t e begins legal top = absurd (cc (e))
stop_closed limits most w from now lines (Some stop.NoMemory) cause journal t e begins legal top = absurd (cc (e))
stop_closed limits most w from now lines (Some stop.Served) cause journal t e begins legal top = absurd (cc (e))
stop_closed limits most w from now lines (Some (stop.Ended other)) cause journal t e begins legal top =
    let same : other ≡ cause = cc (e) in
    subst (λ (x : EndCause). FitsJournal limits x journal) same (fits_closed limits other w journal t.0 begins legal top)

-- the same of the first of the slots that the lock stopped
slots_fit : (limits : Limits) (most : Option ℕ) (w : Known Item) (from now : ℕ) (slots : List ShutSlot) (found : Option EndCause) (journal : List Item)
    → All (λ s. StopTells limits most w from now s.lines.items s.stop) slots
    → IfSome found (λ cause. (k : ℕ) × (k < length slots) × ((d : ShutSlot) → ended_slot (slice_index_or slots k d).stop ≡ Some cause))
    → IsPrefix w.history journal → IsJournal journal → w.made ≤ MOST_PASSES → IfSome found (λ cause. FitsJournal limits cause journal)
slots_fit limits most w from now slots None journal stops found begins legal top = tt
slots_fit limits most w from now [] (Some cause) journal stops (k, lt, at) begins legal top = absurd (omega (arith, lt))
slots_fit limits most w from now (s ∷ slots) (Some cause) journal stops (k, lt, at) begins legal top =
    let it = slice_index_or (s ∷ slots) k s in
    stop_closed limits most w from now it.lines.items it.stop cause journal (stops k s lt) (at s) begins legal top

-- the cause by which Stop was refused fits the journal
stop_fits : (limits : Limits) (v w : Known Item) (stopped : Result (Unit {0}) EndCause) (journal : List Item)
    → StopsLoader limits v w stopped → IsPrefix w.history journal → IsJournal journal → w.made ≤ MOST_PASSES → IfSome (result_err stopped) (λ cause. FitsJournal limits cause journal)
stop_fits limits v w (Ok done) journal stops begins legal top = tt
stop_fits limits v w (Err cause) journal stops begins legal top = fits_closed limits cause w journal stops begins legal top

-- the cause by which the loader ended fits the journal
loader_fits : (limits : Limits) (told : Option TreeTold) (root : Bytes) (from until : ℕ) (v w : Known Item) (end : LoaderEnd) (journal : List Item)
    → Loads limits told root from until v w end → IsPrefix w.history journal → IsJournal journal → w.made ≤ MOST_PASSES → IfSome (ended_loader end) (λ cause. FitsJournal limits cause journal)
loader_fits limits told root from until v w loader.Stopped journal l begins legal top = tt
loader_fits limits told root from until v w (loader.Ended cause) journal l begins legal top = fits_closed limits cause w journal l.ends begins legal top

-- the first of three
or_fits : (P : EndCause → Type 0) (a b c : Option EndCause) → IfSome a P → IfSome b P → IfSome c P → IfSome (option_or (option_or a b) c) P
or_fits P (Some x) b c p q r = p
or_fits P None (Some x) c p q r = q
or_fits P None None c p q r = r

-- The kept cause, as the slots, the refused Stop and the loader found it, fits the journal.
pub cause_fits : (limits : Limits) (most : Option ℕ) (w m z v : Known Item) (from now : ℕ) (slots : List ShutSlot) (told : Option TreeTold) (root : Bytes) (before until : ℕ) (start : Known Item) (found first result : Option EndCause) (stopped : Result (Unit {0}) EndCause) (end : LoaderEnd) (journal : List Item)
    → result ≡ option_or first (ended_loader end) → first ≡ option_or found (result_err stopped)
    → All (λ s. StopTells limits most w from now s.lines.items s.stop) slots
    → IfSome found (λ cause. (k : ℕ) × (k < length slots) × ((d : ShutSlot) → ended_slot (slice_index_or slots k d).stop ≡ Some cause))
    → StopsLoader limits v m stopped → Loads limits told root before until start z end → IsJournal journal
    → IsPrefix w.history journal → w.made ≤ MOST_PASSES → IsPrefix m.history journal → m.made ≤ MOST_PASSES → IsPrefix z.history journal → z.made ≤ MOST_PASSES
    → IfSome result (λ cause. FitsJournal limits cause journal)
cause_fits limits most w m z v from now slots told root before until start found first result stopped end journal is one stops at stop loads legal wb wt mb mt zb zt =
    subst (λ (x : Option EndCause). IfSome x (λ cause. FitsJournal limits cause journal)) (sym (is ∙ ap (λ (y : Option EndCause). option_or y (ended_loader end)) one))
    (or_fits (λ (cause : EndCause). FitsJournal limits cause journal) found (result_err stopped) (ended_loader end)
    (slots_fit limits most w from now slots found journal stops at wb legal wt) (stop_fits limits v m stopped journal stop mb legal mt) (loader_fits limits told root before until start z end journal loads zb legal zt))

-- Where none was found, no slot was stopped by the lock and the loader loaded to its end.
pub none_found : (limits : Limits) (z : Known Item) (slots : List ShutSlot) (told : Option TreeTold) (root : Bytes) (before until : ℕ) (start : Known Item) (found first result : Option EndCause) (stopped : Result (Unit {0}) EndCause) (end : LoaderEnd) (journal : List Item)
    → result ≡ option_or first (ended_loader end) → first ≡ option_or found (result_err stopped)
    → IfNone found (All (λ s. ended_slot s.stop ≡ None) slots) → Loads limits told root before until start z end → IsPrefix z.history journal → LoadsAlone start.history z.history journal
    → IfNone result (LoadsAll limits told root journal × All (λ s. ended_slot s.stop ≡ None) slots)
none_found limits z slots told root before until start (Some x) first result stopped end journal is one none loads begins alone = rw (is, one) tt
none_found limits z slots told root before until start None first result (Err cause) end journal is one none loads begins alone = rw (is, one) tt
none_found limits z slots told root before until start None first result (Ok done) (loader.Ended cause) journal is one none loads begins alone = rw (is, one) tt
none_found limits z slots told root before until start None first result (Ok done) loader.Stopped journal is one none loads begins alone =
    rw (is, one) (record { from = before; until = until; before = start; after = z; begins = begins; loads = loads; alone = alone }, none)

-- nothing was made
pub short_none : (plan : ServePlan) (before after : Option StationTold) (faults_before faults : ℕ) → after ≡ before → IsShort plan before after faults_before faults unbegun.NoMemory
short_none plan before after faults_before faults same = record {
  doors = 0;
  back = subst (λ (t : Option StationTold). DoorsBack plan 0 before t) (sym same) (doors_none plan before);
  unserved = (λ none. subst (λ (t : Option StationTold). SlotsOf [] t []) (sym same) none);
  cause = tt;
}

-- what holds where there is none
pub where_none : {P : Type 0} (kept : Option EndCause) → kept ≡ None → IfNone kept P → P
where_none None is p = p
where_none (Some cause) is p = absurd (cc (is))

-- what holds where there is one
pub where_some : {P : Type 0} (kept : Option EndCause) (cause : EndCause) → kept ≡ Some cause → IfSome kept (λ (c : EndCause). P) → P
where_some None cause is p = absurd (cc (is))
where_some (Some kept) cause is p = p

-- the slots of a plan are few
pub no_slots : (plan : ServePlan) → 0 ≤ slots_of plan
no_slots plan = omega arith
