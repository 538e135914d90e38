-- The doors that came back, as one more is opened or shut.
use Rattle.std.proofs.Common.{◌≡◌, ◌++◌, [], ◌∷◌, List, ℕ, suc, Option, Some, inl, inr, refl, sym, ap, ◌∙◌, subst, append_assoc, append-nil}
use Rattle.std.specs.Prelude.{length}
use Rattle.std.proofs.lemmas.List.Elements.{All-cons, All-nil}
use mathlib.Core.List.{IsPrefix}
use Rattle.history_lock.specs.Known.{Known}
use Rattle.pk_outside.specs.Doors.{DoorTold}
use Rattle.pk_outside.specs.Links.{LinkBack}
use Rattle.pk_outside.specs.Sightings.{Look}
use Rattle.pk_outside.specs.declared.sights.Sighted.{Sighted}
use Rattle.pk_outside.specs.Stations.{DoorBack, StationTold, MakesDoor, MakesClock, MakesSalt, MakesSights, Shuts, first_list}
use Rattle.authority_model.specs.declared.journal.Item.{Item}
use Rattle.authority_model.specs.declared.journal.Limits.{Limits}
use Rattle.service_slots.specs.declared.line.Line.{Line}
use Rattle.service_slots.specs.declared.stop.SlotStop.{SlotStop}
use Rattle.service_slots.specs.Doors.{DoorsAreDone, IsDone}
use Rattle.service_slots.specs.Served.{Served, SlotOf, Slots, SlotsOf}
use Rattle.service_slots.specs.Stops.{HasServedAll, IsStopped}
use Rattle.service_slots.proofs.Told.{shuts_from, door_from, clock_from, salt_from, sights_from}
use Rattle.service_slots.proofs.Growing.{served_longer}

-- the same of a longer history
pub slots_longer : (H more : List Item) (backs : List DoorBack) (lines : List Line) → IsPrefix H more → Slots H backs lines → Slots more backs lines
slots_longer H more [] lines longer s = s
slots_longer H more (back ∷ backs) lines longer (mine, others, is, first, rest) =
    (mine, others, is, served_longer H more back.door.uid back.door.taken mine back.readings back.words longer first, slots_longer H more backs others longer rest)

-- one more door came back
pub slots_more : (H : List Item) (backs : List DoorBack) (lines : List Line) (back : DoorBack) (mine : List Line)
    → Slots H backs lines → Served H back.door.uid back.door.taken mine back.readings back.words → Slots H (backs ++ back ∷ []) (lines ++ mine)
slots_more H [] lines back mine s served = (mine, [], ap (λ (l : List Line). l ++ mine) s ∙ sym (append-nil mine), served, refl)
slots_more H (b ∷ backs) lines back mine (of_b, others, is, first, rest) served =
    (of_b, others ++ mine, ap (λ (l : List Line). l ++ mine) is ∙ append_assoc of_b others mine, first, slots_more H backs others back mine rest served)

-- a door was shut
pub shut_step : (H more : List Item) (before after : Option StationTold) (owner : ℕ) (door : Option DoorTold) (readings words : Option (List ℕ)) (lines mine : List Line)
    → SlotsOf H before lines → IsPrefix H more → SlotOf more owner door readings words mine → Shuts before after door readings words → SlotsOf more after (lines ++ mine)
shut_step H more before after owner door readings words lines mine all longer slot shuts = record {
  where_told = (λ t e.
      let (old, b, back, d, r, w, is) = shuts_from before after door readings words t shuts e in
      let (of, served) = slot.where_told back.door back.readings back.words d r w in
      let mine_served : Served more back.door.uid back.door.taken mine back.readings back.words = subst (λ (u : ℕ). Served more u back.door.taken mine back.readings back.words) (sym of) served in
      subst (λ (backs : List DoorBack). Slots more backs (lines ++ mine)) (sym (ap (λ (s : StationTold). s.shut) is)) (slots_more more old.shut lines back mine (slots_longer H more old.shut lines longer (all.where_told old b)) mine_served));
}

-- there is a line for each link that came back
served_length : (H : List Item) (uid : ℕ) (links : List LinkBack) (lines : List Line) (readings words : List ℕ) → Served H uid links lines readings words → length lines ≡ length links
served_length H uid [] [] readings words s = refl
served_length H uid [] (line ∷ lines) readings words s = absurd s
served_length H uid (link ∷ links) [] readings words s = absurd s
served_length H uid (link ∷ links) (line ∷ lines) readings words (used, later, drawn, others, r, w, spoke, rest) = ap suc (served_length H uid links lines later others rest)

-- the door of a slot that served all is done
door_done : (H : List Item) (limits : Limits) (most : Option ℕ) (v : Known Item) (owner faults : ℕ) (door : DoorTold) (lines : List Line) (readings words : List ℕ) (why : Option SlotStop)
    → Served H owner door.taken lines readings words → IsStopped limits most v (Some door) faults lines why → HasServedAll why → IsDone most door
door_done H limits most v owner faults door lines readings words why served stopped (inl closed) =
    inl (subst (λ (w : Option SlotStop). IsStopped limits most v (Some door) faults lines w) closed stopped).0
door_done H limits most v owner faults door lines readings words why served stopped (inr all) =
    let counted = (subst (λ (w : Option SlotStop). IsStopped limits most v (Some door) faults lines w) all stopped).0 in
    inr (counted ∙ ap (λ (n : ℕ). Some n) (served_length H owner door.taken lines readings words served))

-- the door of a slot that served all was shut
pub shut_done : (H : List Item) (limits : Limits) (most : Option ℕ) (v : Known Item) (before after : Option StationTold) (owner faults : ℕ) (told : Option DoorTold) (readings words : Option (List ℕ)) (lines : List Line) (why : Option SlotStop)
    → SlotOf H owner told readings words lines → IsStopped limits most v told faults lines why → HasServedAll why → Shuts before after told readings words → DoorsAreDone most before after
shut_done H limits most v before after owner faults told readings words lines why slot stopped all shuts = record {
  where_told = (λ now e.
      let (old, b, back, d, r, w, is) = shuts_from before after told readings words now shuts e in
      let served = (slot.where_told back.door back.readings back.words d r w).1 in
      let here : IsStopped limits most v (Some back.door) faults lines why = subst (λ (t : Option DoorTold). IsStopped limits most v t faults lines why) d stopped in
      let done = door_done H limits most v owner faults back.door lines back.readings back.words why served here all in
      (old, b, back ∷ [], ap (λ (t : StationTold). t.shut) is, All-cons (λ (x : DoorBack). IsDone most x.door) back [] done (All-nil _)));
}

-- a slot that was just opened, at a station that tells, has served nothing
pub slot_begun : (H : List Item) (uid owner : ℕ) (path : List ℕ) (slot : ℕ) (t0 t1 t2 t3 : Option StationTold) (door : Option DoorTold) (clock_left clock_gave salt_left salt_gave : Option (List ℕ)) (lines : List Line) (now : StationTold)
    → MakesDoor uid path slot t0 t1 door → MakesClock t1 t2 clock_left clock_gave → MakesSalt t2 t3 salt_left salt_gave → owner ≡ uid → lines ≡ [] → t3 ≡ Some now
    → SlotOf H owner door clock_gave salt_gave lines
slot_begun H uid owner path slot t0 t1 t2 t3 door clock_left clock_gave salt_left salt_gave lines now makes clock salt is_owner none tells =
    let (s2, is2, no_word, now_is) = salt_from t2 t3 salt_left salt_gave now salt tells in
    let (s1, is1, no_reading, s2_is) = clock_from t1 t2 clock_left clock_gave s2 clock is2 in
    let (s0, is0, door_is, s1_is) = door_from uid path slot t0 t1 door s1 makes is1 in
    record { where_told = (λ d readings words told gave drawn. begun d readings words s0 (sym told ∙ door_is) (sym gave ∙ no_reading) (sym drawn ∙ no_word)) }
  where
    begun : (d : DoorTold) (readings words : List ℕ) (s : StationTold) → Some d ≡ Some (record { uid = uid; path = path; slot = slot; taken = []; left = first_list s.doors }) → Some readings ≡ Some [] → Some words ≡ Some []
        → (d.uid ≡ owner) × Served H owner d.taken lines readings words
    begun d readings words s is r w =
        let door_is : d ≡ record { uid = uid; path = path; slot = slot; taken = []; left = first_list s.doors } = cc (is) in
        let r_is : readings ≡ [] = cc (r) in
        let w_is : words ≡ [] = cc (w) in
        (ap (λ (x : DoorTold). x.uid) door_is ∙ sym is_owner, rw (ap (λ (x : DoorTold). x.taken) door_is, none, r_is, w_is) (refl, refl))

-- the same where looks at processes were made too
pub live_slot_begun : (H : List Item) (uid owner : ℕ) (path : List ℕ) (slot : ℕ) (t0 t1 t2 t3 t4 : Option StationTold) (door : Option DoorTold) (clock_left clock_gave salt_left salt_gave : Option (List ℕ)) (sights_left : Option (List Sighted)) (sights_gave : Option (List Look)) (lines : List Line) (now : StationTold)
    → MakesDoor uid path slot t0 t1 door → MakesClock t1 t2 clock_left clock_gave → MakesSalt t2 t3 salt_left salt_gave → MakesSights t3 t4 sights_left sights_gave → owner ≡ uid → lines ≡ [] → t4 ≡ Some now
    → SlotOf H owner door clock_gave salt_gave lines
live_slot_begun H uid owner path slot t0 t1 t2 t3 t4 door clock_left clock_gave salt_left salt_gave sights_left sights_gave lines now makes clock salt sights is_owner none tells =
    let (s3, is3, now_is) = sights_from t3 t4 sights_left sights_gave now sights tells in
    slot_begun H uid owner path slot t0 t1 t2 t3 door clock_left clock_gave salt_left salt_gave lines s3 makes clock salt is_owner none is3
