-- The containers that are open at a place.
use Rattle.std.specs.Prelude.{◌≡◌, ℕ, zero, suc, ◌+◌, ◌<◌, ◌≤◌, Bool, true, false, List, [], ◌∷◌, length, map, reverse, take, slice_index_or, Option, Some, None}
use Rattle.dbus_values.specs.declared.codes.TheConstants.{MAX_MESSAGE}
use Rattle.dbus_values.specs.declared.frames.Frame.{Frame}
use Rattle.dbus_values.specs.declared.frames.Frame.TheVariants as frame

-- An array, with the signature of its items, the types behind it, and the place and the bytes behind it; a
-- structure; a dict entry, of which the key, the value or the end comes next; a variant, with the types
-- behind it.
pub data Open : Type 0 where
  Items : List ℕ → List ℕ → ℕ → List ℕ → Open
  Members : Open
  Key : Open
  Value : Open
  Closing : Open
  Inner : List ℕ → Open

abbrev pub opened : Frame → Open
opened (frame.Items item types behind outside) = Items item.now types.now behind outside.now
opened frame.Members = Members
opened frame.Key = Key
opened frame.Value = Value
opened frame.Closing = Closing
opened (frame.Inner types) = Inner types.now

-- the bytes behind an array lie within the longest message
abbrev pub IsWithin : Frame → Type 0
IsWithin (frame.Items item types behind outside) = behind + length outside.now ≤ MAX_MESSAGE
IsWithin frame.Members = Unit {0}
IsWithin frame.Key = Unit {0}
IsWithin frame.Value = Unit {0}
IsWithin frame.Closing = Unit {0}
IsWithin (frame.Inner types) = Unit {0}

abbrev pub innermost : List Open → Option Open
innermost [] = None
innermost (f ∷ fs) = Some f

abbrev pub outer : List Open → List Open
outer [] = []
outer (f ∷ fs) = fs

abbrev pub AllWithin : List Frame → Type 0
AllWithin frames = (i : ℕ) (d : Frame) → i < length frames → IsWithin (slice_index_or frames i d)

abbrev pub is_variant : Option Open → Bool
is_variant (Some (Inner types)) = true
is_variant _ = false

abbrev pub is_structure : Option Open → Bool
is_structure (Some Members) = true
is_structure _ = false

abbrev pub is_array : Option Open → Bool
is_array (Some (Items item types behind outside)) = true
is_array _ = false

-- so many more structures inside each other
unfoldable pub with_members : ℕ → List Open → List Open
with_members zero fs = fs
with_members (suc n) fs = with_members n (Members ∷ fs)

-- the containers in so many places, the innermost first
abbrev pub seen : ℕ → List Frame → List Open
seen n frames = map opened (reverse (take n frames))

-- these places hold structures alone
abbrev pub AllMembers : ℕ → ℕ → List Frame → Type 0
AllMembers from to frames = (i : ℕ) (d : Frame) → from ≤ i → i < to → opened (slice_index_or frames i d) ≡ Members
