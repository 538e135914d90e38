-- The table of a history with one entry more.
use Rattle.std.proofs.Common.{◌≡◌, ℕ, ◌+◌, ◌<◌, ◌≤◌, ◌^◌, ◌==◌, List, [], ◌∷◌, ◌++◌, refl, ap, ◌∙◌, subst, Option, Some, length, arith}
use Rattle.std.specs.Prelude.{if◌then◌else◌}
use Rattle.std.proofs.lemmas.List.{length-append}
use Rattle.authority_model.specs.declared.journal.Entry.{Entry}
use Rattle.authority_model.specs.declared.message.Output.{Output}
use Rattle.authority_model.specs.declared.world.World.{World}
use Rattle.authority_model.specs.declared.journal.Item.{Item}
use Rattle.authority_model.specs.Items.{count_to, world_of}
use Rattle.authority_model.specs.Legal.{Legal}
use Rattle.peer_book.specs.Rows.{CarriesRows, IsLiveOf}
use Rattle.peer_book.specs.Places.{PlaceRows, count_in, places_in, places_of, places_to, room_in}
use Rattle.peer_book.specs.Counts.{CarriesCounts}
use Rattle.peer_book.specs.Book.{HasRoomFor, IsPeersOf, IsReady, Peers, receivers}
use Rattle.peer_book.proofs.Collecting.{counts_next}
use Rattle.peer_book.proofs.Living.{live_are}
use Rattle.peer_book.proofs.Placing.{length-places, located_count, located_next}
use Rattle.peer_book.proofs.Stepping.{rows_next}

-- receivers are counted as their outputs are
pub count_receivers : (c : ℕ) (outputs : List Output) → count_in c (receivers outputs) ≡ count_to c outputs
count_receivers c [] = refl
count_receivers c (o ∷ outputs) = ap (λ n. (if o.to == c then 1 else 0) + n) (count_receivers c outputs)

-- what is staged for the outputs has its room
pub ready_for : (rows : ℕ) (places : PlaceRows) (counts entries : ℕ) (staged : Option (List ℕ)) (outputs : List Output) → staged ≡ Some (receivers outputs) → IsReady rows places counts entries staged → HasRoomFor rows places counts entries (receivers outputs)
ready_for rows places counts entries staged outputs is ready = subst (λ o. IsReady rows places counts entries o) is ready

-- the places of the outputs have room
pub room_for : (rows : ℕ) (places : PlaceRows) (counts entries : ℕ) (outputs : List Output) → HasRoomFor rows places counts entries (receivers outputs) → (c : ℕ) → count_to c outputs ≤ room_in places c
room_for rows places counts entries outputs ready c = let same = count_receivers c outputs in let can = ready.can c in omega (arith, same, can.room)

-- 32 bits count the outputs to each connection with those of an entry that is staged
pub few_next : (rows : ℕ) (places later : PlaceRows) (counts entries : ℕ) (outputs : List Output) → HasRoomFor rows places counts entries (receivers outputs)
    → ((c : ℕ) → places_in later c ≡ places_in places c ++ places_to c entries 0 outputs) → (c : ℕ) → length (places_in later c) < 2 ^ 32
few_next rows places later counts entries outputs ready put c =
    let all = ap length (put c) ∙ length-append (places_in places c) (places_to c entries 0 outputs) in
    let can = ready.can c in
    omega (arith, all, length-places c entries 0 outputs, count_receivers c outputs, can.few)

-- the table of a history, carried on by an entry, is that of the history with that entry
pub peers_next : (old new : Peers) (past : List Item) (i : Item) (entry : Entry) (world : World) → i.entry ≡ entry → world ≡ world_of (i ∷ past) → Legal (i ∷ past) → IsPeersOf past old
    → CarriesRows entry world old.rows new.rows → IsLiveOf new.rows new.live → ((c : ℕ) → places_of new.places c ≡ places_of old.places c ++ places_to c old.entries 0 entry.outputs)
    → CarriesCounts entry (λ c. length (places_of old.places c)) old.counts new.counts → new.entries ≡ old.entries + 1 → IsPeersOf (i ∷ past) new
peers_next old new past i entry world is in_force legal was carries lives put counted more =
    let rows = rows_next old.rows new.rows past i entry world is in_force legal.0.numbered was.rows_are carries in
    let places = λ (c : ℕ). located_next (places_of old.places c) (places_of new.places c) past i c old.entries entry.outputs (was.places_are c) was.entries_are (ap (λ (e : Entry). e.outputs) is) (put c) in
    let before = was.entries_are in
    record {
      rows_are = rows;
      live_are = live_are new.rows new.live (i ∷ past) lives rows;
      places_are = places;
      sent_are = λ c. located_count (places_of new.places c) (i ∷ past) c (places c);
      collected_are = counts_next old.counts new.counts (λ c. length (places_of old.places c)) past i entry is was.sent_are was.collected_are counted;
      entries_are = omega (arith, more, before);
    }
