-- "Type Signatures" and "Valid Signatures": a signature is a row of complete types of at most 255 bytes,
-- in which at most 32 arrays and at most 32 structures stand inside each other.
use Rattle.std.specs.Prelude.{ℕ, zero, suc, ◌-◌, ◌==◌, ◌&&◌, nat_le, Bool, true, false, if◌then◌else◌, List, [], ◌∷◌, length, Option, Some, None}
use Rattle.std.specs.Option.{option_and_then}
use Rattle.dbus_values.specs.declared.class.Class.{Class}
use Rattle.dbus_values.specs.declared.class.Class.TheVariants as class
use Rattle.dbus_values.specs.Types.{class_of, align_of, is_basic}

-- what follows this letter
abbrev pub behind : ℕ → List ℕ → Option (List ℕ)
behind letter [] = None
behind letter (c ∷ sig) = if c == letter then Some sig else None

-- a structure that is closed here, or that has one more member
abbrev pub members_on : (List ℕ → Option (List ℕ)) → List ℕ → Option (List ℕ)
members_on again [] = None
members_on again (c ∷ sig) = if c == 41 then Some sig else again (c ∷ sig)

-- What follows the members of a structure, at least one, and its closing letter. The steps count down.
unfoldable pub members_end : (List ℕ → Option (List ℕ)) → ℕ → List ℕ → Option (List ℕ)
members_end step zero sig = None
members_end step (suc n) sig = option_and_then (λ rest. members_on (members_end step n) rest) (step sig)

-- what follows the key, a basic type, the value, a complete type, and the closing letter of a dict entry
abbrev pub entry_end : (List ℕ → Option (List ℕ)) → List ℕ → Option (List ℕ)
entry_end step [] = None
entry_end step (key ∷ sig) = if is_basic (class_of key) then option_and_then (λ rest. behind 125 rest) (step sig) else None

-- what follows the item of an array, a complete type or a dict entry
abbrev pub item_end : (List ℕ → Option (List ℕ)) → List ℕ → Option (List ℕ)
item_end step [] = None
item_end step (c ∷ sig) = if c == 123 then entry_end step sig else step (c ∷ sig)

-- what follows a complete type that begins with a letter of this class
abbrev pub type_by : Class → (ℕ → ℕ → List ℕ → Option (List ℕ)) → ℕ → ℕ → List ℕ → Option (List ℕ)
type_by class.Array inner arrays structs sig = if arrays == 0 then None else item_end (inner (arrays - 1) structs) sig
type_by class.Struct inner arrays structs sig = if structs == 0 then None else members_end (inner arrays (structs - 1)) (length sig) sig
type_by class.Entry inner arrays structs sig = None
type_by class.Other inner arrays structs sig = None
type_by _ inner arrays structs sig = Some sig

-- what follows the complete type at the front, inside which so many arrays and structures may stand
unfoldable pub type_end : ℕ → ℕ → ℕ → List ℕ → Option (List ℕ)
type_end zero arrays structs sig = None
type_end (suc level) arrays structs [] = None
type_end (suc level) arrays structs (c ∷ sig) = type_by (class_of c) (type_end level) arrays structs sig

-- what follows the complete type at the front
abbrev pub after_type : List ℕ → Option (List ℕ)
after_type sig = type_end 65 32 32 sig

-- what follows the item of an array
abbrev pub after_item : List ℕ → Option (List ℕ)
after_item sig = item_end (type_end 65 32 32) sig

abbrev pub types_on : (List ℕ → Bool) → Option (List ℕ) → Bool
types_on again None = false
types_on again (Some rest) = again rest

-- a row of complete types; the steps count down
unfoldable pub are_types : ℕ → List ℕ → Bool
are_types zero sig = length sig == 0
are_types (suc n) sig = if length sig == 0 then true else types_on (are_types n) (after_type sig)

abbrev pub is_signature : List ℕ → Bool
is_signature sig = nat_le (length sig) 255 && are_types (length sig) sig

-- the alignment of the items of an array
abbrev pub item_align : List ℕ → ℕ
item_align [] = 1
item_align (c ∷ sig) = align_of (class_of c)
