-- Why a slot stops, as its history grows.
use Rattle.std.proofs.Common.{◌≡◌, ◌++◌, ◌<◌, ◌≤◌, inl, inr, [], ◌∷◌, List, ℕ, Option, None, Some, refl, sym, subst, arith, IfNone, IfSome}
use Rattle.std.specs.Prelude.{Bool, nat_lt, true}
use Rattle.std.proofs.lemmas.Bool.{lt-ltb}
use Rattle.std.proofs.lemmas.List.Elements.{All-append, All-cons, All-nil}
use mathlib.Core.List.{IsPrefix}
use Rattle.history_lock.specs.declared.machine.TheConstants.{MOST_PASSES}
use Rattle.history_lock.specs.Known.{Known}
use Rattle.history_lock.specs.Calls.{Learned}
use Rattle.pk_outside.specs.Causes.{Rose, RoseWhere}
use Rattle.pk_outside.specs.Doors.{DoorTold}
use Rattle.authority_model.specs.declared.journal.Item.{Item}
use Rattle.authority_model.specs.declared.journal.Limits.{Limits}
use Rattle.shared_authority.specs.Journals.{IsJournal, caller_of}
use Rattle.shared_authority.specs.Lasting.{fits_lasts}
use Rattle.connection_serve.specs.declared.ends.End.TheVariants as end
use Rattle.connection_serve.specs.declared.ends.LiveEnd.{LiveEnd}
use Rattle.connection_serve.specs.declared.ends.LiveEnd.TheVariants as live
use Rattle.connection_serve.specs.Ends.{plain_of}
use Rattle.connection_serve.specs.Headline.{Serves}
use Rattle.service_slots.specs.declared.line.Line.{Line}
use Rattle.service_slots.specs.declared.stop.SlotStop.{SlotStop}
use Rattle.service_slots.specs.declared.stop.SlotStop.TheVariants as stop
use Rattle.service_slots.proofs.Fresh.{learned_prefix}
use Rattle.service_slots.specs.Stops.{CountsAs, HasServedAll, ended_by, stop_after, NoneEnded, StopsAs, IsStopped, StopTells}

-- one more connection, which the lock did not end
none_more : (lines : List Line) (line : Line) → NoneEnded lines → ended_by line.end ≡ None → NoneEnded (lines ++ line ∷ [])
none_more lines line none one = All-append (λ (l : Line). ended_by l.end ≡ None) lines (line ∷ []) none (All-cons (λ (l : Line). ended_by l.end ≡ None) line [] one (All-nil (λ (l : Line). ended_by l.end ≡ None)))

-- What one more connection makes of its slot.
pub record AfterLine (limits : Limits) (m : Known Item) (told : Option DoorTold) (faults : ℕ) (lines : List Line) (why : Option SlotStop) : Type 0 where
  pub goes_on : IfNone why (NoneEnded lines)
  pub stops : IfSome why (λ stop. (most : Option ℕ) → StopsAs limits most m told faults lines stop)

-- the connection ended by this, and its line is the last
pub after_line : (limits : Limits) (uid : ℕ) (v w m : Known Item) (left0 left held0 held gave0 gave drawn0 drawn : Option (List ℕ)) (read_faults0 read_faults write_faults0 write_faults : ℕ)
    (told : Option DoorTold) (faults : ℕ) (lines : List Line) (number owner : ℕ) (by : Option ℕ) (end : LiveEnd)
    → Serves limits uid v w left0 left held0 held gave0 gave drawn0 drawn read_faults0 read_faults write_faults0 write_faults (plain_of end)
    → IsPrefix w.history m.history → IsJournal m.history → w.made ≤ m.made → m.made ≤ MOST_PASSES → NoneEnded lines
    → AfterLine limits m told faults (lines ++ record { number = number; uid = owner; sighter = by; end = end } ∷ []) (stop_after end)
after_line limits uid v w m left0 left held0 held gave0 gave drawn0 drawn r0 r f0 f told faults lines number owner by (live.Plain (end.Ended cause)) s longer legal made top none = record {
  goes_on = tt;
  stops = (λ most. (
    fits_lasts limits cause w.history m.history w.made m.made s.ended legal longer made top,
    inr (record { before = lines; last = record { number = number; uid = owner; sighter = by; end = live.Plain (end.Ended cause) }; lines_are = refl; by = refl; others = none }),
  ));
}
after_line limits uid v w m left0 left held0 held gave0 gave drawn0 drawn r0 r f0 f told faults lines number owner by live.SightFault s longer legal made top none = record { goes_on = none_more lines _ none refl; stops = tt }
after_line limits uid v w m left0 left held0 held gave0 gave drawn0 drawn r0 r f0 f told faults lines number owner by (live.Plain end.WriteFault) s longer legal made top none = record { goes_on = none_more lines _ none refl; stops = tt }
after_line limits uid v w m left0 left held0 held gave0 gave drawn0 drawn r0 r f0 f told faults lines number owner by (live.Plain end.ReadFault) s longer legal made top none = record { goes_on = none_more lines _ none refl; stops = tt }
after_line limits uid v w m left0 left held0 held gave0 gave drawn0 drawn r0 r f0 f told faults lines number owner by (live.Plain (end.BadShake fault)) s longer legal made top none = record { goes_on = none_more lines _ none refl; stops = tt }
after_line limits uid v w m left0 left held0 held gave0 gave drawn0 drawn r0 r f0 f told faults lines number owner by (live.Plain end.ShakeCut) s longer legal made top none = record { goes_on = none_more lines _ none refl; stops = tt }
after_line limits uid v w m left0 left held0 held gave0 gave drawn0 drawn r0 r f0 f told faults lines number owner by (live.Plain (end.BadBytes _ _)) s longer legal made top none = record { goes_on = none_more lines _ none refl; stops = tt }
after_line limits uid v w m left0 left held0 held gave0 gave drawn0 drawn r0 r f0 f told faults lines number owner by (live.Plain (end.Truncated rest)) s longer legal made top none = record { goes_on = none_more lines _ none refl; stops = tt }
after_line limits uid v w m left0 left held0 held gave0 gave drawn0 drawn r0 r f0 f told faults lines number owner by (live.Plain end.Done) s longer legal made top none = record { goes_on = none_more lines _ none refl; stops = tt }
after_line limits uid v w m left0 left held0 held gave0 gave drawn0 drawn r0 r f0 f told faults lines number owner by (live.Plain end.NoMemory) s longer legal made top none = record { goes_on = none_more lines _ none refl; stops = tt }

-- the same once the connection's pass has met the slot's
pub after_next : (limits : Limits) (uid : ℕ) (v w m n : Known Item) (left0 left held0 held gave0 gave drawn0 drawn : Option (List ℕ)) (read_faults0 read_faults write_faults0 write_faults : ℕ)
    (told : Option DoorTold) (faults : ℕ) (lines all : List Line) (number owner : ℕ) (by : Option ℕ) (end : LiveEnd) (why : Option SlotStop) {s : Known Item}
    → Serves limits uid v w left0 left held0 held gave0 gave drawn0 drawn read_faults0 read_faults write_faults0 write_faults (plain_of end)
    → Learned caller_of IsJournal s m → Learned caller_of IsJournal w n → m.history ≡ n.history → m.made ≡ n.made → m.made ≤ MOST_PASSES → NoneEnded lines
    → all ≡ lines ++ record { number = number; uid = owner; sighter = by; end = end } ∷ [] → why ≡ stop_after end
    → AfterLine limits m told faults all why
after_next limits uid v w m n left0 left held0 held gave0 gave drawn0 drawn r0 r f0 f told faults lines all number owner by end why served first second same_history same_made top none all_is why_is =
    let known : IsPrefix w.history m.history = subst (λ (h : List Item). IsPrefix w.history h) (sym same_history) (learned_prefix w n second) in
    let grown = second.made in
    let made : w.made ≤ m.made = omega (arith, grown, same_made) in
    let now = after_line limits uid v w m left0 left held0 held gave0 gave drawn0 drawn r0 r f0 f told faults lines number owner by end served known first.legal made top none in
    rw (all_is, why_is) now

-- the count of a station rose, where that of a door is above 0
risen : (before now faults : ℕ) → 0 < faults → RoseWhere (nat_lt 0 faults) before now → Rose before now
risen before now faults above where_risen =
    let yes : nat_lt 0 faults ≡ true = lt-ltb 0 faults above in
    let known = subst (λ (b : Bool). RoseWhere b before now) yes where_risen in
    known.1

-- it stayed, where that of a door is 0
stayed : (before now faults : ℕ) → faults ≡ 0 → RoseWhere (nat_lt 0 faults) before now → now ≡ before
stayed before now faults none where_risen = subst (λ (n : ℕ). RoseWhere (nat_lt 0 n) before now) none where_risen

-- a slot that was shut counts at its station as at its door
pub counts_shut : (faults before now : ℕ) (why : Option SlotStop) → CountsAs 0 faults why → RoseWhere (nat_lt 0 faults) before now → CountsAs before now why
counts_shut faults before now None counts rose = stayed before now faults counts rose
counts_shut faults before now (Some stop.Closed) counts rose = stayed before now faults counts rose
counts_shut faults before now (Some stop.DoorFailed) counts rose = risen before now faults (omega (arith, counts)) rose
counts_shut faults before now (Some stop.NoMemory) counts rose = stayed before now faults counts rose
counts_shut faults before now (Some stop.Served) counts rose = stayed before now faults counts rose
counts_shut faults before now (Some (stop.Ended cause)) counts rose = stayed before now faults counts rose

-- a slot that served all counted no fault
pub counts_served : (before now : ℕ) (why : Option SlotStop) → CountsAs before now why → HasServedAll why → now ≡ before
counts_served before now why counts (inl closed) = subst (λ (w : Option SlotStop). CountsAs before now w) closed counts
counts_served before now why counts (inr served) = subst (λ (w : Option SlotStop). CountsAs before now w) served counts

-- no end of a connection is a fault of the door
pub counts_after : (before now : ℕ) (e : LiveEnd) → now ≡ before → CountsAs before now (stop_after e)
counts_after before now (live.Plain (end.Ended cause)) same = same
counts_after before now live.SightFault same = same
counts_after before now (live.Plain end.WriteFault) same = same
counts_after before now (live.Plain end.ReadFault) same = same
counts_after before now (live.Plain (end.BadShake fault)) same = same
counts_after before now (live.Plain end.ShakeCut) same = same
counts_after before now (live.Plain (end.BadBytes _ _)) same = same
counts_after before now (live.Plain (end.Truncated rest)) same = same
counts_after before now (live.Plain end.Done) same = same
counts_after before now (live.Plain end.NoMemory) same = same

-- a slot that was shut had stopped for this, as the control pass knows since
pub stop_told : (limits : Limits) (most : Option ℕ) (v w : Known Item) (told : Option DoorTold) (faults before now : ℕ) (lines : List Line) (why : Option SlotStop)
    → IsStopped limits most v told faults lines why → RoseWhere (nat_lt 0 faults) before now
    → IsPrefix v.history w.history → IsJournal w.history → v.made ≤ w.made → w.made ≤ MOST_PASSES
    → StopTells limits most w before now lines why
stop_told limits most v w told faults before now lines None is rose longer legal made top = absurd is
stop_told limits most v w told faults before now lines (Some stop.Closed) is rose longer legal made top = is.1
stop_told limits most v w told faults before now lines (Some stop.DoorFailed) is rose longer legal made top = (risen before now faults is.0 rose, is.1)
stop_told limits most v w told faults before now lines (Some stop.NoMemory) is rose longer legal made top = is
stop_told limits most v w told faults before now lines (Some stop.Served) is rose longer legal made top = is
stop_told limits most v w told faults before now lines (Some (stop.Ended cause)) is rose longer legal made top = (fits_lasts limits cause v.history w.history v.made w.made is.0 legal longer made top, is.1)
