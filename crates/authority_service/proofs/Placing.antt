-- One more slot of a plan is opened.
use Rattle.std.proofs.Common.{◌≡◌, ◌++◌, ◌+◌, ◌/◌, ◌%◌, [], ◌∷◌, List, ℕ, Bool, true, false, suc, Option, Some, refl, sym, ap, ◌∙◌, subst, arith}
use Rattle.std.specs.Prelude.{All, map, slice_index_or}
use Rattle.std.proofs.lemmas.List.{map-append}
use Rattle.std.proofs.lemmas.List.Elements.{All-push}
use Rattle.pk_outside.specs.declared.sights.Sighted.{Sighted}
use Rattle.pk_outside.specs.Stations.{StationTold, first_list, other_lists}
use Rattle.command_line.specs.declared.door.DoorPath.{DoorPath}
use Rattle.authority_service.specs.Places.{no_path, nth_door, first_doors, opened_behind, sights_left, OpensFirst}
use Rattle.service_slots.specs.Doors.{DoorMade, OpensDoor, sights_behind}

-- no slot was opened
pub opens_none : (paths : List DoorPath) (each : ℕ) (live : Bool) (told : Option StationTold) → OpensFirst paths each 0 live told told []
opens_none paths each true told = record { where_told = (λ now e. (now, e, refl, refl)) }
opens_none paths each false told = record { where_told = (λ now e. (now, e, refl, refl)) }

-- the sightings that are left behind one slot more
sights_more : (live : Bool) (sights : List (List Sighted)) (k : ℕ) → sights_behind live (sights_left live sights k) ≡ sights_left live sights (suc k)
sights_more true sights k = refl
sights_more false sights k = refl

-- the next slot was opened
pub opens_next : (paths : List DoorPath) (each k : ℕ) (live : Bool) (t0 t1 t2 : Option StationTold) (made : List (Option DoorMade)) (place : DoorPath) (one : Option DoorMade)
    → OpensFirst paths each k live t0 t1 made → place ≡ slice_index_or paths (k / each) no_path → OpensDoor place.uid place.path (k % each) live t1 t2 one
    → OpensFirst paths each (suc k) live t0 t2 (made ++ one ∷ [])
opens_next paths each k live t0 t1 t2 made place one before here opens = record {
  where_told = (λ now e.
      let (t, t_is, one_is, now_is) = opens.where_told now e in
      let (old, old_is, made_is, left) = before.where_told t t_is in
      let door : Some (record { uid = place.uid; path = place.path; slot = k % each; links = first_list t.doors }) ≡ Some (nth_door paths each old.doors k) =
      ap (λ (p : DoorPath × StationTold). Some (record { uid = p.0.uid; path = p.0.path; slot = k % each; links = first_list p.1.doors })) (paired here left) in
      let all : made ++ one ∷ [] ≡ map (λ (d : DoorMade). Some d) (first_doors paths each old.doors k) ++ Some (nth_door paths each old.doors k) ∷ [] =
      ap (λ (m : List (Option DoorMade)). m ++ one ∷ []) made_is ∙ ap (λ (o : Option DoorMade). map (λ (d : DoorMade). Some d) (first_doors paths each old.doors k) ++ o ∷ []) (one_is ∙ door) in
      (old, old_is, all ∙ sym (map-append (λ (d : DoorMade). Some d) (first_doors paths each old.doors k) (nth_door paths each old.doors k ∷ [])), now_is ∙ (ap (λ (s : StationTold). record s { doors = other_lists s.doors; clocks = other_lists s.clocks; salts = other_lists s.salts; sights = sights_behind live s.sights }) left ∙ ap (λ (l : List (List Sighted)). record (opened_behind live old (suc k)) { sights = l }) (sights_more live old.sights k))));
}
  where
    paired : {was now : StationTold} → place ≡ slice_index_or paths (k / each) no_path → now ≡ was → (let p : DoorPath × StationTold = (place, now) in p) ≡ (slice_index_or paths (k / each) no_path, was)
    paired a b = cc (a, b)

-- the same of a list whose last slot is the one that was opened
pub opens_more : {X : Type 0} (paths : List DoorPath) (each k : ℕ) (live : Bool) (t0 t1 t2 : Option StationTold) (made : X → Option DoorMade) (slots now : List X) (slot : X) (place : DoorPath)
    → OpensFirst paths each k live t0 t1 (map made slots) → now ≡ slots ++ slot ∷ [] → place ≡ slice_index_or paths (k / each) no_path → OpensDoor place.uid place.path (k % each) live t1 t2 (made slot)
    → OpensFirst paths each (k + 1) live t0 t2 (map made now)
opens_more {X} paths each k live t0 t1 t2 made slots now slot place before pushed here opens =
    let all : map made slots ++ made slot ∷ [] ≡ map made now = sym (ap (map made) pushed ∙ map-append made slots (slot ∷ [])) in
    let next : suc k ≡ k + 1 = omega arith in
    let more : OpensFirst paths each (suc k) live t0 t2 (map made slots ++ made slot ∷ []) = opens_next paths each k live t0 t1 t2 (map made slots) place (made slot) before here opens in
    subst (λ (n : ℕ). OpensFirst paths each n live t0 t2 (map made now)) next (subst (λ (m : List (Option DoorMade)). OpensFirst paths each (suc k) live t0 t2 m) all more)

-- a fact of all slots holds with one slot more
pub all_more : {X : Type 0} (slots now : List X) (slot : X) (P : X → Type 0) → now ≡ slots ++ slot ∷ [] → All P slots → P slot → All P now
all_more {X} slots now slot P pushed all one = subst (λ (l : List X). All P l) (sym pushed) (All-push P slots slot all one)
