-- What a service leaves that ended before its slots were served, and what it leaves when they were.
use Rattle.std.proofs.Common.{◌≡◌, ◌≤◌, [], List, ℕ, Option, None, Some, IfSome, IfNone, inl, inr, refl, sym, ◌∙◌, subst, arith}
use Rattle.std.specs.Prelude.{All, length, map, slice_index_or}
use Rattle.std.specs.List.{flat_map}
use Rattle.history_lock.specs.Known.{Known}
use Rattle.history_lock.specs.declared.machine.EndCause.{EndCause}
use Rattle.authority_laws.specs.Batches.{in_order}
use Rattle.authority_model.specs.declared.journal.History.{History}
use Rattle.authority_model.specs.declared.journal.Item.{Item}
use Rattle.authority_model.specs.declared.journal.Limits.{Limits}
use Rattle.authority_model.specs.declared.load.Loaded.{Loaded}
use Rattle.pk_outside.specs.Doors.{DoorTold}
use Rattle.pk_outside.specs.Stations.{StationTold}
use Rattle.pk_outside.specs.Trees.{TreeTold}
use Rattle.pk_outside.specs.Refusals.{StationRefusal}
use Rattle.pk_outside.specs.declared.station.StationRefused.{StationRefused}
use Rattle.pk_outside.specs.declared.station.StationRefused.TheVariants as refused
use Rattle.serve_words.specs.declared.plan.ServePlan.{ServePlan}
use Rattle.service_slots.specs.declared.opening.ShutSlot.{ShutSlot}
use Rattle.service_slots.specs.Served.{SlotsOf}
use Rattle.service_slots.specs.Stops.{HasServedAll, StopTells}
use Rattle.shared_authority.specs.Journals.{IsJournal}
use Rattle.service_slots.specs.declared.line.Line.{Line}
use Rattle.service_slots.specs.Doors.{DoorsAreDone, made_of}
use Rattle.authority_service.specs.Beginning.{BeginsWith}
use Rattle.authority_service.specs.Places.{OpensFirst}
use Rattle.authority_service.specs.Begun.{HasRun, IsShort, Objects, UnbegunCause, unbegun_by}
use Rattle.authority_service.specs.Causes.{FitsJournal}
use Rattle.authority_service.specs.Running.{HasLoaded, LoadsAll, ended_slot}
use Rattle.authority_service.specs.Service.{DoorsBack, slots_of}
use Rattle.authority_service.specs.Shutting.{ShutsAll}
use Rattle.authority_service.proofs.Closing.{doors_back, doors_none, flat_none, flat_same, made_again, opened_none, slots_closed, unserved_told, where_none}
use Rattle.authority_service.proofs.ShutDoors.{told_before}

-- the same limits allow as many entries
pub within_same : (a b : Limits) (entries : ℕ) → a ≡ b → entries ≤ b.entries → entries ≤ a.entries
within_same a b entries same within = subst (λ (l : Limits). entries ≤ l.entries) (sym same) within

-- there are no slots, and the lock had ended
pub closed_run : (plan : ServePlan) (first : Loaded) (out : Objects) (history : History) (slots : List ShutSlot) (kept : Option EndCause) (cause : EndCause)
    → IsJournal (in_order history) → length history.entries ≤ plan.limits.entries → BeginsWith first (in_order history) → out.station ≡ out.station_before → slots ≡ [] → kept ≡ Some cause → FitsJournal plan.limits cause (in_order history)
    → HasRun plan first out history slots kept
closed_run plan first out history slots kept cause legal within begins same none is fits = record {
  legal = legal;
  within = within;
  begins = begins;
  served = (λ unserved.
      rw (same, none) (slots_closed [] (in_order history) out.station_before [] (in_order history, refl) unserved));
  doors = 0;
  back = subst (λ (t : Option StationTold). DoorsBack plan 0 out.station_before t) (sym same) (doors_none plan out.station_before);
  few = rw none (omega arith);
  cause = rw is fits;
  loaded = inl none;
  whole = (λ e. absurd (cc (sym e ∙ is)));
}

-- why slots had stopped, by counts that began before
stops_before : (limits : Limits) (most : Option ℕ) (w : Known Item) (from before now : ℕ) (slots : List ShutSlot)
    → All (λ s. StopTells limits most w before now s.lines.items s.stop) slots → from ≤ before → All (λ s. StopTells limits most w from now s.lines.items s.stop) slots
stops_before limits most w from before now slots stops le = λ i d lt.
    let it = slice_index_or slots i d in
    told_before limits most w from before now it.lines.items it.stop (stops i d lt) le

-- the slots of the plan were served
pub slots_run : (plan : ServePlan) (limits : Limits) (first : Loaded) (out : Objects) (history : History) (slots : List ShutSlot) (kept : Option EndCause) (made mid : ℕ)
    → plan.limits ≡ limits → IsJournal (in_order history) → length history.entries ≤ limits.entries → BeginsWith first (in_order history)
    → (SlotsOf [] out.station_before [] → SlotsOf (in_order history) out.station (flat_map (λ s. s.lines.items) slots))
    → DoorsBack plan made out.station_before out.station → made ≡ slots_of plan → length slots ≡ made
    → IfSome kept (λ cause. FitsJournal limits cause (in_order history))
    → HasLoaded limits out.tree plan.root (in_order history)
    → IfNone kept (LoadsAll limits out.tree plan.root (in_order history) × All (λ s. ended_slot s.stop ≡ None) slots)
    → (known : Known Item) × All (λ s. StopTells limits plan.stop_after known mid out.station_faults s.lines.items s.stop) slots
    → out.station_faults_before ≤ mid → (All (λ s. HasServedAll s.stop) slots → DoorsAreDone plan.stop_after out.station_before out.station)
    → (All (λ s. HasServedAll s.stop) slots → out.station_faults ≡ out.station_faults_before)
    → HasRun plan first out history slots kept
slots_run plan limits first out history slots kept made mid same legal within begins served back all many cause loaded whole (known, stops) le done quiet = record {
  legal = legal;
  within = within_same plan.limits limits (length history.entries) same within;
  begins = begins;
  served = served;
  doors = made;
  back = back;
  few = omega (arith, all, many);
  cause = subst (λ (l : Limits). IfSome kept (λ cause. FitsJournal l cause (in_order history))) (sym same) cause;
  loaded = inr (subst (λ (l : Limits). HasLoaded l out.tree plan.root (in_order history)) (sym same) loaded);
  whole = (λ e.
      let w = where_none kept e whole in
      record {
        all = (all, many ∙ all);
        stopped = record {
          known = known;
          none_ended = w.1;
          stops = subst (λ (l : Limits). All (λ s. StopTells l plan.stop_after known out.station_faults_before out.station_faults s.lines.items s.stop) slots) (sym same) (stops_before limits plan.stop_after known out.station_faults_before mid out.station_faults slots stops le);
          done = done;
          quiet = quiet;
        };
        loads = subst (λ (l : Limits). LoadsAll l out.tree plan.root (in_order history)) (sym same) w.0;
      });
}

-- why no connection was served, by the refusal of a door
unbegun_cause : (from before mid now : ℕ) (refused : StationRefused) → from ≤ before → StationRefusal before mid refused → mid ≤ now → UnbegunCause from now (unbegun_by refused)
unbegun_cause from before mid now refused.Failed first rose last = omega (arith, first, rose, last)
unbegun_cause from before mid now refused.NoMemory first rose last = tt

-- some slots were opened, the next door was refused, and the slots were shut
pub short_opened : {X : Type 0} (plan : ServePlan) (count : ℕ) (t0 t1 t2 t3 : Option StationTold) (f0 f1 f2 f3 : ℕ) (told : X → Option DoorTold) (lines : X → List Line) (slots : List X) (shut : List ShutSlot) (v w : Known Item) (refused : StationRefused)
    → OpensFirst plan.doors plan.slots count plan.live t0 t1 (map (λ s. made_of (told s)) slots) → t2 ≡ t1 → ShutsAll t2 t3 (map told slots)
    → map (λ s. s.lines.items) shut ≡ map lines slots → All (λ s. lines s ≡ []) slots
    → ((mid : StationTold) → t2 ≡ Some mid → SlotsOf v.history t2 [] → SlotsOf w.history t3 (flat_map (λ s. s.lines.items) shut))
    → f0 ≤ f1 → StationRefusal f1 f2 refused → f2 ≤ f3 → IsShort plan t0 t3 f0 f3 (unbegun_by refused)
short_opened {X} plan count t0 t1 t2 t3 f0 f1 f2 f3 told lines slots shut v w refused before same shuts same_lines none served first rose last =
    let opens = subst (λ (t : Option StationTold). OpensFirst plan.doors plan.slots count plan.live t0 t (map (λ (s : X). made_of (told s)) slots)) (sym same) before in
    let all : flat_map (λ (s : ShutSlot). s.lines.items) shut ≡ [] = flat_same (λ (s : ShutSlot). s.lines.items) lines shut slots same_lines ∙ flat_none lines slots none in
    record {
      doors = count;
      back = doors_back plan count t0 t2 t3 (map (λ (s : X). made_of (told s)) slots) (map told slots) opens shuts (made_again told told slots slots refl);
      unserved = (λ unserved. record {
        where_told = (λ t e.
            let (mid, mid_is, backs, doors, left) = shuts.where_told t e in
            (unserved_told w.history t3 (flat_map (λ (s : ShutSlot). s.lines.items) shut) all
            (served mid mid_is (opened_none plan.doors plan.slots count plan.live t0 t2 (map (λ (s : X). made_of (told s)) slots) v.history opens unserved))).where_told t e);
      });
      cause = unbegun_cause f0 f1 f2 f3 refused first rose last;
    }

-- the same of a tree that told the same
pub run_same : (plan : ServePlan) (first : Loaded) (out : Objects) (told : Option TreeTold) (history : History) (slots : List ShutSlot) (kept : Option EndCause) → out.tree ≡ told
    → HasRun plan first out history slots kept → HasRun plan first (record out { tree = told }) history slots kept
run_same plan first out told history slots kept same run = subst (λ (t : Option TreeTold). HasRun plan first (record out { tree = t }) history slots kept) same run

-- the same limits
pub fits_same : (a b : Limits) (cause : EndCause) (journal : List Item) → a ≡ b → FitsJournal b cause journal → FitsJournal a cause journal
fits_same a b cause journal same fits = subst (λ (l : Limits). FitsJournal l cause journal) (sym same) fits
