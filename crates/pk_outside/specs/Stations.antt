-- What a station tells: what it will give, and what came back to it.
use Rattle.std.specs.Prelude.{◌≡◌, ◌+◌, ◌++◌, [], ◌∷◌, List, ℕ, Option, None, Some, Bool, nat_lt}
use Rattle.pk_outside.specs.Links.{Origin, LinkBack, Hung}
use Rattle.pk_outside.specs.Doors.{DoorTold}
use Rattle.pk_outside.specs.Files.{FileBack}
use Rattle.pk_outside.specs.Sightings.{Look}
use Rattle.pk_outside.specs.declared.sights.Sighted.{Sighted}

-- A door that was shut, with the readings and the words that its clock and its salt gave.
pub record DoorBack : Type 0 where
  pub door : DoorTold
  pub readings : List ℕ
  pub words : List ℕ

-- For each door that it will make the links that this door gives, each as its bytes; the links that
-- it will dial, each as its bytes; the readings of each clock, the words of each salt and the
-- sightings of all looks at processes that it will make; the doors that were shut and the links that
-- were hung up, in this order; the paths of the files that it made, and the files that came back, in
-- this order.
pub record StationTold : Type 0 where
  pub doors : List (List (List ℕ))
  pub links : List (List ℕ)
  pub clocks : List (List ℕ)
  pub salts : List (List ℕ)
  pub shut : List DoorBack
  pub hung : List Hung
  pub sights : List (List Sighted)
  pub made : List (List ℕ)
  pub filed : List FileBack

-- The first of the lists, or an empty one where there is none.
abbrev pub first_list : {A : Type 0} → List (List A) → List A
first_list [] = []
first_list (first ∷ rest) = first

-- The lists behind the first.
abbrev pub other_lists : {A : Type 0} → List (List A) → List (List A)
other_lists [] = []
other_lists (first ∷ rest) = rest

-- A door was made: it has these arguments, took back nothing, and has the next of the links to give.
-- Where the station has no links for it, it has none.
abbrev pub MakesDoor : ℕ → List ℕ → ℕ → Option StationTold → Option StationTold → Option DoorTold → Type 0
MakesDoor uid path slot None None door = Unit {0}
MakesDoor uid path slot None (Some after) door = ⊥
MakesDoor uid path slot (Some before) None door = ⊥
MakesDoor uid path slot (Some before) (Some after) door =
    (door ≡ Some (record { uid = uid; path = path; slot = slot; taken = []; left = first_list before.doors }))
    × (after ≡ record before { doors = other_lists before.doors })

-- A link was dialled: the next of those that the station has.
abbrev pub Dials : List ℕ → Option StationTold → Option StationTold → Option Origin → Type 0
Dials path None None link = Unit {0}
Dials path None (Some after) link = ⊥
Dials path (Some before) None link = ⊥
Dials path (Some before) (Some after) link =
    (bytes : List ℕ) × (before ≡ record after { links = bytes ∷ after.links }) × (link ≡ Some (record { path = path; bytes = bytes }))

-- A clock was made, with the next readings, of which it gave none.
abbrev pub MakesClock : Option StationTold → Option StationTold → Option (List ℕ) → Option (List ℕ) → Type 0
MakesClock None None left gave = Unit {0}
MakesClock None (Some after) left gave = ⊥
MakesClock (Some before) None left gave = ⊥
MakesClock (Some before) (Some after) left gave =
    (left ≡ Some (first_list before.clocks)) × (gave ≡ Some []) × (after ≡ record before { clocks = other_lists before.clocks })

-- A salt was made, with the next words, of which it gave none.
abbrev pub MakesSalt : Option StationTold → Option StationTold → Option (List ℕ) → Option (List ℕ) → Type 0
MakesSalt None None left gave = Unit {0}
MakesSalt None (Some after) left gave = ⊥
MakesSalt (Some before) None left gave = ⊥
MakesSalt (Some before) (Some after) left gave =
    (left ≡ Some (first_list before.salts)) × (gave ≡ Some []) × (after ≡ record before { salts = other_lists before.salts })

-- Looks at processes were made, with the next sightings, of which none was given.
abbrev pub MakesSights : Option StationTold → Option StationTold → Option (List Sighted) → Option (List Look) → Type 0
MakesSights None None left gave = Unit {0}
MakesSights None (Some after) left gave = ⊥
MakesSights (Some before) None left gave = ⊥
MakesSights (Some before) (Some after) left gave =
    (left ≡ Some (first_list before.sights)) × (gave ≡ Some []) × (after ≡ record before { sights = other_lists before.sights })

-- A file was made at this path, after those before. It tells the path, and that it holds nothing.
abbrev pub MakesFile : List ℕ → Option StationTold → Option StationTold → Option (List ℕ) → Option (List ℕ) → Type 0
MakesFile path None None at held = Unit {0}
MakesFile path None (Some after) at held = ⊥
MakesFile path (Some before) None at held = ⊥
MakesFile path (Some before) (Some after) at held =
    (at ≡ Some path) × (held ≡ Some []) × (after ≡ record before { made = before.made ++ path ∷ [] })

-- A file came back, after those before.
abbrev pub TakesFile : Option StationTold → Option StationTold → (FileBack → Type 0) → Type 0
TakesFile None None tells = Unit {0}
TakesFile None (Some after) tells = ⊥
TakesFile (Some before) None tells = ⊥
TakesFile (Some before) (Some after) tells = (back : FileBack) × tells back × (after ≡ record before { filed = before.filed ++ back ∷ [] })

-- A door was shut, behind those before, with what it, its clock and its salt tell.
abbrev pub Shuts : Option StationTold → Option StationTold → Option DoorTold → Option (List ℕ) → Option (List ℕ) → Type 0
Shuts None None door readings words = Unit {0}
Shuts None (Some after) door readings words = ⊥
Shuts (Some before) None door readings words = ⊥
Shuts (Some before) (Some after) door readings words =
    (back : DoorBack) × (door ≡ Some back.door) × (readings ≡ Some back.readings) × (words ≡ Some back.words)
    × (after ≡ record before { shut = before.shut ++ back ∷ [] })

-- A link was hung up, behind those before.
abbrev pub Hangs : Option StationTold → Option StationTold → (List ℕ → LinkBack → Type 0) → Type 0
Hangs None None tells = Unit {0}
Hangs None (Some after) tells = ⊥
Hangs (Some before) None tells = ⊥
Hangs (Some before) (Some after) tells =
    (back : Hung) × tells back.path back.link × (after ≡ record before { hung = before.hung ++ back ∷ [] })

-- One of these counts is above 0.
abbrev pub has_fault : ℕ → ℕ → Bool
has_fault read_faults write_faults = nat_lt 0 (read_faults + write_faults)
