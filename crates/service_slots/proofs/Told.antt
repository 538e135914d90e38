-- What an object told before a call, where it tells something after it.
use Rattle.std.proofs.Common.{◌≡◌, ◌++◌, [], ◌∷◌, List, ℕ, Option, None, Some, false, true, refl, sym, ap, ◌∙◌, subst, append_assoc}
use Rattle.std.specs.Prelude.{map}
use Rattle.std.proofs.lemmas.List.{map-append}
use Rattle.pk_outside.specs.Links.{Origin, LinkBack, EndsTell, bytes_of}
use Rattle.pk_outside.specs.Doors.{DoorTold, GivesLink, TakesBack}
use Rattle.pk_outside.specs.Sightings.{Look}
use Rattle.pk_outside.specs.declared.sights.Sighted.{Sighted}
use Rattle.pk_outside.specs.Stations.{DoorBack, StationTold, Shuts, MakesDoor, MakesClock, MakesSalt, MakesSights, first_list, other_lists}
use Rattle.pk_outside.specs.Streams.{Gave, Got, IsUsedUp}
use Rattle.service_slots.specs.Doors.{DoorMade, door_made, made_of, OpensDoor, ShutsDoor}

-- what told content was before it grew
pub got_from : (before after : Option (List ℕ)) (got now : List ℕ) → Got before after got → after ≡ Some now → (old : List ℕ) × (before ≡ Some old) × (now ≡ old ++ got)
got_from None None got now g e = absurd (cc (e))
got_from None (Some x) got now g e = absurd g
got_from (Some b) None got now g e = absurd g
got_from (Some b) (Some x) got now g e = let same : x ≡ now = cc (e) in (b, refl, sym same ∙ g)

-- what a door was before it took a link back
pub takes_from : (before after : Option DoorTold) (tells : List ℕ → LinkBack → Type 0) (door : DoorTold) → TakesBack before after tells → after ≡ Some door
    → (old : DoorTold) × (before ≡ Some old) × (path : List ℕ) × (link : LinkBack) × tells path link × (door ≡ record old { taken = old.taken ++ link ∷ [] })
takes_from None None tells door t e = absurd (cc (e))
takes_from None (Some x) tells door t e = absurd t
takes_from (Some b) None tells door t e = absurd t
takes_from (Some b) (Some x) tells door (path, link, told, is) e = let same : x ≡ door = cc (e) in (b, refl, path, link, told, sym same ∙ is)

-- what a door was before it gave a link
pub gives_from : (before after : Option DoorTold) (origin : Option Origin) (door : DoorTold) → GivesLink before after origin → after ≡ Some door
    → (old : DoorTold) × (before ≡ Some old) × (old.taken ≡ door.taken) × (old.uid ≡ door.uid)
gives_from None None origin door t e = absurd (cc (e))
gives_from None (Some x) origin door t e = absurd t
gives_from (Some b) None origin door t e = absurd t
gives_from (Some b) (Some x) origin door (given, from, is) e =
    let same : x ≡ door = cc (e) in (b, refl, ap (λ (d : DoorTold). d.taken) is ∙ ap (λ (d : DoorTold). d.taken) same, ap (λ (d : DoorTold). d.uid) is ∙ ap (λ (d : DoorTold). d.uid) same)

-- a link that was told to give these bytes gave what was read and has the rest
pub link_read : (origin : Option Origin) (left : Option (List ℕ)) (path given rest read : List ℕ) → Gave (bytes_of origin) left read → origin ≡ Some (record { path = path; bytes = given }) → left ≡ Some rest → given ≡ read ++ rest
link_read origin left path given rest read gave o l =
    subst (λ (x : Option Origin). Gave (bytes_of x) (Some rest) read) o (subst (λ (x : Option (List ℕ)). Gave (bytes_of origin) x read) l gave)

-- a link holds what was written to it, since it held nothing before
pub link_written : (before after : Option (List ℕ)) (written held : List ℕ) → Got before after written → IsUsedUp before → after ≡ Some held → held ≡ written
link_written before after written held got unused is =
    let (old, b, now) = got_from before after written held got is in
    let empty : old ≡ [] = subst (λ (x : Option (List ℕ)). IsUsedUp x) b unused in now ∙ ap (λ (x : List ℕ). x ++ written) empty

-- the links of a door that gave one and took it back
links_back : (taken : List LinkBack) (link : LinkBack) (bytes : List ℕ) (left : List (List ℕ)) → link.given ≡ bytes
    → map (λ (l : LinkBack). l.given) (taken ++ link ∷ []) ++ left ≡ map (λ (l : LinkBack). l.given) taken ++ (bytes ∷ left)
links_back taken link bytes left is =
    ap (λ (l : List (List ℕ)). l ++ left) (map-append (λ (l : LinkBack). l.given) taken (link ∷ []))
    ∙ (append_assoc (map (λ (l : LinkBack). l.given) taken) (link.given ∷ []) left ∙ ap (λ (b : List ℕ). map (λ (l : LinkBack). l.given) taken ++ (b ∷ left)) is)

-- a door that gave a link and took this link back is the one that it was
pub made_again : (told0 told1 told2 : Option DoorTold) (origin back_origin : Option Origin) (left held : Option (List ℕ)) (read_faults write_faults : ℕ)
    → GivesLink told0 told1 origin → TakesBack told1 told2 (EndsTell back_origin left held read_faults write_faults) → back_origin ≡ origin → made_of told2 ≡ made_of told0
made_again None None None origin back_origin left held r w g t same = refl
made_again None None (Some x) origin back_origin left held r w g t same = absurd t
made_again None (Some m) told2 origin back_origin left held r w g t same = absurd g
made_again (Some b) None told2 origin back_origin left held r w g t same = absurd g
made_again (Some b) (Some m) None origin back_origin left held r w g t same = absurd t
made_again (Some b) (Some m) (Some x) origin back_origin left held r w (given, from, is) (path, link, tells, now) same =
    let one : Some given ≡ Some (record { path = path; bytes = link.given }) = sym from ∙ (sym same ∙ tells.given) in
    let bytes : link.given ≡ given.bytes = ap (λ (o : Option (List ℕ)). elim o [ Some l ↦ l | None ↦ [] ]) (sym (ap bytes_of one)) in
    let after : door_made x ≡ record { uid = m.uid; path = m.path; slot = m.slot; links = map (λ (l : LinkBack). l.given) (m.taken ++ link ∷ []) ++ m.left } = ap door_made now in
    let before : door_made b ≡ record { uid = m.uid; path = m.path; slot = m.slot; links = map (λ (l : LinkBack). l.given) m.taken ++ (given.bytes ∷ m.left) } = ap door_made is in
    let links = links_back m.taken link given.bytes m.left bytes in
    let made : List (List ℕ) → DoorMade = λ l. record { uid = m.uid; path = m.path; slot = m.slot; links = l } in
    ap (λ (d : DoorMade). Some d) (after ∙ (ap made links ∙ sym before))

-- what a station was before a door was shut
pub shuts_from : (before after : Option StationTold) (door : Option DoorTold) (readings words : Option (List ℕ)) (now : StationTold) → Shuts before after door readings words → after ≡ Some now
    → (old : StationTold) × (before ≡ Some old) × (back : DoorBack) × (door ≡ Some back.door) × (readings ≡ Some back.readings) × (words ≡ Some back.words)
    × (now ≡ record old { shut = old.shut ++ back ∷ [] })
shuts_from None None door readings words now s e = absurd (cc (e))
shuts_from None (Some x) door readings words now s e = absurd s
shuts_from (Some b) None door readings words now s e = absurd s
shuts_from (Some b) (Some x) door readings words now (back, d, r, w, is) e = let same : x ≡ now = cc (e) in (b, refl, back, d, r, w, sym same ∙ is)

-- the door that came back is the one that was shut
pub shut_door : (before after : Option StationTold) (door : Option DoorTold) (readings words : Option (List ℕ)) → Shuts before after door readings words → ShutsDoor before after door
shut_door before after door readings words shuts = record {
  where_told = (λ now e.
      let (old, b, back, d, r, w, is) = shuts_from before after door readings words now shuts e in
      (old, b, back, d, is));
}

-- what a station was before it made a door
pub door_from : (uid : ℕ) (path : List ℕ) (slot : ℕ) (before after : Option StationTold) (door : Option DoorTold) (now : StationTold) → MakesDoor uid path slot before after door → after ≡ Some now
    → (old : StationTold) × (before ≡ Some old) × (door ≡ Some (record { uid = uid; path = path; slot = slot; taken = []; left = first_list old.doors })) × (now ≡ record old { doors = other_lists old.doors })
door_from uid path slot None None door now m e = absurd (cc (e))
door_from uid path slot None (Some x) door now m e = absurd m
door_from uid path slot (Some b) None door now m e = absurd m
door_from uid path slot (Some b) (Some x) door now (d, is) e = let same : x ≡ now = cc (e) in (b, refl, d, sym same ∙ is)

-- what a station was before it made a clock
pub clock_from : (before after : Option StationTold) (left gave : Option (List ℕ)) (now : StationTold) → MakesClock before after left gave → after ≡ Some now
    → (old : StationTold) × (before ≡ Some old) × (gave ≡ Some []) × (now ≡ record old { clocks = other_lists old.clocks })
clock_from None None left gave now m e = absurd (cc (e))
clock_from None (Some x) left gave now m e = absurd m
clock_from (Some b) None left gave now m e = absurd m
clock_from (Some b) (Some x) left gave now (l, g, is) e = let same : x ≡ now = cc (e) in (b, refl, g, sym same ∙ is)

-- what a station was before it made a salt
pub salt_from : (before after : Option StationTold) (left gave : Option (List ℕ)) (now : StationTold) → MakesSalt before after left gave → after ≡ Some now
    → (old : StationTold) × (before ≡ Some old) × (gave ≡ Some []) × (now ≡ record old { salts = other_lists old.salts })
salt_from None None left gave now m e = absurd (cc (e))
salt_from None (Some x) left gave now m e = absurd m
salt_from (Some b) None left gave now m e = absurd m
salt_from (Some b) (Some x) left gave now (l, g, is) e = let same : x ≡ now = cc (e) in (b, refl, g, sym same ∙ is)

-- what a station was before it made looks at processes
pub sights_from : (before after : Option StationTold) (left : Option (List Sighted)) (gave : Option (List Look)) (now : StationTold) → MakesSights before after left gave → after ≡ Some now
    → (old : StationTold) × (before ≡ Some old) × (now ≡ record old { sights = other_lists old.sights })
sights_from None None left gave now m e = absurd (cc (e))
sights_from None (Some x) left gave now m e = absurd m
sights_from (Some b) None left gave now m e = absurd m
sights_from (Some b) (Some x) left gave now (l, g, is) e = let same : x ≡ now = cc (e) in (b, refl, sym same ∙ is)

-- a door, a clock and a salt were made, one after another: this is the door
pub opens_door : (uid : ℕ) (path : List ℕ) (slot : ℕ) (t0 t1 t2 t3 : Option StationTold) (door : Option DoorTold) (clock_left clock_gave salt_left salt_gave : Option (List ℕ))
    → MakesDoor uid path slot t0 t1 door → MakesClock t1 t2 clock_left clock_gave → MakesSalt t2 t3 salt_left salt_gave → OpensDoor uid path slot false t0 t3 (made_of door)
opens_door uid path slot t0 t1 t2 t3 door clock_left clock_gave salt_left salt_gave makes clock salt = record {
  where_told = (λ now e.
      let (s2, is2, no_word, now_is) = salt_from t2 t3 salt_left salt_gave now salt e in
      let (s1, is1, no_reading, s2_is) = clock_from t1 t2 clock_left clock_gave s2 clock is2 in
      let (s0, is0, door_is, s1_is) = door_from uid path slot t0 t1 door s1 makes is1 in (
        s0,
        is0,
        ap made_of door_is,
        now_is ∙ (ap (λ (t : StationTold). record t { salts = other_lists t.salts }) s2_is ∙ ap (λ (t : StationTold). record t { clocks = other_lists t.clocks; salts = other_lists t.salts }) s1_is),
      ));
}

-- a door, a clock, a salt and looks at processes were made, one after another: this is the door
pub opens_live_door : (uid : ℕ) (path : List ℕ) (slot : ℕ) (t0 t3 t4 : Option StationTold) (made : Option DoorMade) (sights_left : Option (List Sighted)) (sights_gave : Option (List Look))
    → OpensDoor uid path slot false t0 t3 made → MakesSights t3 t4 sights_left sights_gave → OpensDoor uid path slot true t0 t4 made
opens_live_door uid path slot t0 t3 t4 made sights_left sights_gave opens sights = record {
  where_told = (λ now e.
      let (s3, is3, now_is) = sights_from t3 t4 sights_left sights_gave now sights e in
      let (s0, is0, made_is, s3_is) = opens.where_told s3 is3 in
      (s0, is0, made_is, now_is ∙ ap (λ (t : StationTold). record t { sights = other_lists t.sights }) s3_is));
}
