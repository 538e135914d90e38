-- What a slot leaves: the links that its door took back, each with the line of its connection.
use Rattle.std.specs.Prelude.{◌≡◌, ◌++◌, [], ◌∷◌, ℕ, List, Option, Some, IfSome}
use mathlib.Core.List.{IsPrefix}
use Rattle.pk_outside.specs.Links.{LinkBack}
use Rattle.pk_outside.specs.Doors.{DoorTold}
use Rattle.pk_outside.specs.Stations.{DoorBack, StationTold}
use Rattle.authority_model.specs.declared.journal.Item.{Item}
use Rattle.connection_lookout.specs.Watching.{Watch}
use Rattle.connection_serve.specs.Ends.{OnSightFault, plain_of}
use Rattle.connection_serve.specs.Headline.{Connection, sent_texts}
use Rattle.connection_serve.specs.Live.{HasLooked}
use Rattle.shared_authority.specs.Journals.{past_of}
use Rattle.service_slots.specs.declared.line.Line.{Line}

-- The sighter n looked beside the connection of this number and this user, which knows this history: before which of its events, what it saw, and what it entered for it.
pub record HasWatched (n number uid : ℕ) (H : List Item) : Type 0 where
  -- where the sighter stood before and stands now
  pub before : Watch
  pub now : Watch
  pub sighter : before.pass.number ≡ n
  pub knows : now.pass.history ≡ H
  pub looked : HasLooked uid number H (Some before) (Some now)

-- A link that came back was served to a user, and its line says how. The connection used these readings and words, and its history begins H.
pub record Spoke (H : List Item) (uid : ℕ) (link : LinkBack) (line : Line) (readings words : List ℕ) : Type 0 where
  -- what the connection knew at its end
  pub history : List Item
  pub begins : IsPrefix history H
  -- the bytes that it read, which are all but those that are left
  pub read : List ℕ
  pub given : link.given ≡ read ++ link.left
  pub of_owner : line.uid ≡ uid
  pub connection : Connection history line.number uid (plain_of line.end) read (Some link.left) link.written readings words link.read_faults link.write_faults
  -- what its sighter saw and entered, if it looked at processes
  pub watched : IfSome line.sighter (λ n. HasWatched n line.number uid history)
  -- where a look failed, all that was sent was written
  pub wrote : OnSightFault line.end ((replies : List ℕ) × (link.written ≡ replies ++ sent_texts (past_of history) line.number))

-- Each link that came back has its line, in order, and the readings and the words are those that these connections used, in order.
abbrev pub Served : List Item → ℕ → List LinkBack → List Line → List ℕ → List ℕ → Type 0
Served H uid [] [] readings words = (readings ≡ []) × (words ≡ [])
Served H uid [] (line ∷ lines) readings words = ⊥
Served H uid (link ∷ links) [] readings words = ⊥
Served H uid (link ∷ links) (line ∷ lines) readings words =
    (used : List ℕ) × (later : List ℕ) × (drawn : List ℕ) × (others : List ℕ)
    × (readings ≡ used ++ later) × (words ≡ drawn ++ others)
    × Spoke H uid link line used drawn × Served H uid links lines later others

-- A slot's lines speak of the links that its door took back, where the door, the clock and the salt all tell. The door is of this user.
pub record SlotOf (H : List Item) (owner : ℕ) (told : Option DoorTold) (gave drawn : Option (List ℕ)) (lines : List Line) : Type 0 where
  pub where_told : (door : DoorTold) (readings words : List ℕ) → told ≡ Some door → gave ≡ Some readings → drawn ≡ Some words
      → (door.uid ≡ owner) × Served H owner door.taken lines readings words

-- The lines of all slots, slot after slot: as many as the first door took back links speak of these, and the others of the other doors.
abbrev pub Slots : List Item → List DoorBack → List Line → Type 0
Slots H [] lines = lines ≡ []
Slots H (back ∷ backs) lines =
    (mine : List Line) × (others : List Line) × (lines ≡ mine ++ others)
    × Served H back.door.uid back.door.taken mine back.readings back.words × Slots H backs others

-- The lines speak of the doors that were shut, where the station tells them.
pub record SlotsOf (H : List Item) (told : Option StationTold) (lines : List Line) : Type 0 where
  pub where_told : (t : StationTold) → told ≡ Some t → Slots H t.shut lines
