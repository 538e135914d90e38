-- A walk over values: where they end, which parts they have, and which fault is the first. It stands at a
-- place with the containers that are open there, the innermost first, the types that are left of the
-- innermost, and the bytes from there on. A walk goes part by part.
use Rattle.std.specs.Prelude.{ℕ, zero, suc, ◌+◌, ◌-◌, ◌==◌, ◌&&◌, nat_lt, Bool, if◌then◌else◌, List, [], ◌∷◌, length, take, drop, Option, Some, None, Result, Ok, Err}
use Rattle.std.specs.Int.{w32}
use Rattle.dbus_values.specs.declared.class.Class.{Class}
use Rattle.dbus_values.specs.declared.class.Class.TheVariants as class
use Rattle.dbus_values.specs.declared.fault.Fault.{Fault}
use Rattle.dbus_values.specs.declared.fault.FaultKind.TheVariants as fault
use Rattle.dbus_values.specs.Reading.{◌>>=◌, bad, Spot}
use Rattle.dbus_values.specs.Parts.{Piece}
use Rattle.dbus_values.specs.Parts as part
use Rattle.dbus_values.specs.Opened.{Open}
use Rattle.dbus_values.specs.Opened as open_part
use Rattle.dbus_values.specs.Types.{class_of, align_of, is_basic}
use Rattle.dbus_values.specs.Signatures.{after_item, after_type, item_align}
use Rattle.dbus_values.specs.Basics.{gap, pad, number_at, signature_at, leaf_at}

pub record State : Type 0 where
  pub open_parts : List Open
  pub types : List ℕ
  pub at : ℕ
  pub rest : List ℕ

abbrev pub state : List Open → List ℕ → ℕ → List ℕ → State
state fs types at rest = record { open_parts = fs; types = types; at = at; rest = rest }

-- the rest of a signature, or a fault where it has no complete type
abbrev pub rest_of : Option (List ℕ) → ℕ → Result (List ℕ) Fault
rest_of (Some sig) at = Ok sig
rest_of None at = bad fault.Text at

-- Behind a value: variants whose value ends there end with it.
unfoldable pub resume : List Open → List ℕ → ℕ → Result (List Open × List ℕ) Fault
resume [] types at = Ok ([], types)
resume (open_part.Inner behind ∷ fs) [] at = resume fs behind at
resume (open_part.Inner behind ∷ fs) (c ∷ types) at = bad fault.Text at
resume (open_part.Items a b c d ∷ fs) types at = Ok (open_part.Items a b c d ∷ fs, types)
resume (open_part.Members ∷ fs) types at = Ok (open_part.Members ∷ fs, types)
resume (open_part.Key ∷ fs) types at = Ok (open_part.Key ∷ fs, types)
resume (open_part.Value ∷ fs) types at = Ok (open_part.Value ∷ fs, types)
resume (open_part.Closing ∷ fs) types at = Ok (open_part.Closing ∷ fs, types)

-- a part, and the walk behind the value that it ends
unfoldable pub resumed : Piece → List Open → List ℕ → ℕ → List ℕ → Result (Piece × State) Fault
resumed p fs types at rest = resume fs types at >>= λ (left, behind). Ok (p, state left behind at rest)

-- The beginning of an array. Its length is judged before the padding behind it, which it doesn't count.
-- The bytes of its items are apart from those behind it.
unfoldable pub enter_array : Bool → List Open → List ℕ → ℕ → List ℕ → Result (Piece × State) Fault
enter_array big fs sig at bytes = do
  end ← rest_of (after_item sig) at
  (n, begin) ← number_at big w32 at bytes
  if nat_lt (length begin.rest) (gap (item_align sig) begin.at + n) then bad fault.Length at else (do
    p ← pad (item_align sig) begin.at begin.rest
    Ok (part.Enter 97, state (open_part.Items (take (length sig - length end) sig) end (p.at + n) (drop n p.rest) ∷ fs) [] p.at (take n p.rest)))

-- the beginning of a structure, which has at least one member
unfoldable pub enter_struct : List Open → List ℕ → ℕ → List ℕ → Result (Piece × State) Fault
enter_struct fs [] at bytes = bad fault.Text at
enter_struct fs (c ∷ sig) at bytes = if c == 41 then bad fault.Text at else Ok (part.Enter 40, state (open_part.Members ∷ fs) (c ∷ sig) at bytes)

-- the signature of a variant, which is one complete type
unfoldable pub enter_variant : List Open → List ℕ → ℕ → List ℕ → Result (Piece × State) Fault
enter_variant fs sig at bytes = do
  (inner, value) ← signature_at at bytes
  end ← rest_of (after_type inner) at
  if length end == 0 then Ok (part.Variant inner, state (open_part.Inner sig ∷ fs) inner value.at value.rest) else bad fault.Text at

-- a value of a basic type, from its first byte
abbrev pub enter_leaf : Class → Bool → List Open → ℕ → List ℕ → ℕ → List ℕ → Result (Piece × State) Fault
enter_leaf k big fs c sig at bytes = leaf_at k big c at bytes >>= λ (leaf, behind). resumed leaf fs sig behind.at behind.rest

-- the first part of a value from its first byte, by the class of its type code
abbrev pub enter_by : Class → ℕ → Bool → List Open → ℕ → List ℕ → ℕ → List ℕ → Result (Piece × State) Fault
enter_by class.Array limit big fs c sig at bytes = if nat_lt (length fs) limit then enter_array big fs sig at bytes else bad fault.Depth at
enter_by class.Struct limit big fs c sig at bytes = if nat_lt (length fs) limit then enter_struct fs sig at bytes else bad fault.Depth at
enter_by class.Variant limit big fs c sig at bytes = if nat_lt (length fs) limit then enter_variant fs sig at bytes else bad fault.Depth at
enter_by class.Entry limit big fs c sig at bytes = bad fault.Text at
enter_by class.Other limit big fs c sig at bytes = bad fault.Text at
enter_by k limit big fs c sig at bytes = enter_leaf k big fs c sig at bytes

-- the first part of a value of any class, with the padding before it
abbrev pub enter_any : Class → ℕ → Bool → List Open → ℕ → List ℕ → ℕ → List ℕ → Result (Piece × State) Fault
enter_any k limit big fs c sig at bytes = pad (align_of k) at bytes >>= λ p. enter_by k limit big fs c sig p.at p.rest

-- the first part of the value of the first type, with the padding before it
unfoldable pub enter : ℕ → Bool → List Open → List ℕ → ℕ → List ℕ → Result (Piece × State) Fault
enter limit big fs [] at bytes = bad fault.Text at
enter limit big fs (c ∷ sig) at bytes = enter_any (class_of c) limit big fs c sig at bytes

-- the beginning of a dict entry, with the padding before it
unfoldable pub enter_entry : ℕ → List Open → List ℕ → ℕ → List ℕ → Result (Piece × State) Fault
enter_entry limit fs sig at bytes = pad 8 at bytes >>= λ p. if nat_lt (length fs) limit then Ok (part.Enter 123, state (open_part.Key ∷ fs) sig p.at p.rest) else bad fault.Depth p.at

-- the first part of an item of an array
abbrev pub enter_item : ℕ → Bool → List Open → List ℕ → ℕ → List ℕ → Result (Piece × State) Fault
enter_item limit big fs [] at bytes = bad fault.Text at
enter_item limit big fs (c ∷ sig) at bytes = if c == 123 then enter_entry limit fs sig at bytes else enter limit big fs (c ∷ sig) at bytes

-- the next item of an array, or its end
unfoldable pub in_items : ℕ → Bool → List Open → List ℕ → List ℕ → ℕ → List ℕ → List ℕ → ℕ → List ℕ → Result (Piece × State) Fault
in_items limit big fs item behind place outside types at bytes =
    if length types == 0 then
    (if length bytes == 0 then resumed (part.Leave 97) fs behind place outside
    else enter_item limit big (open_part.Items item behind place outside ∷ fs) item at bytes)
    else bad fault.Text at

-- the next member of a structure, or its end
unfoldable pub in_members : ℕ → Bool → List Open → List ℕ → ℕ → List ℕ → Result (Piece × State) Fault
in_members limit big fs [] at bytes = bad fault.Text at
in_members limit big fs (c ∷ sig) at bytes =
    if c == 41 then resumed (part.Leave 40) fs sig at bytes else enter limit big (open_part.Members ∷ fs) (c ∷ sig) at bytes

-- the key of a dict entry, which has a basic type
unfoldable pub in_key : ℕ → Bool → List Open → List ℕ → ℕ → List ℕ → Result (Piece × State) Fault
in_key limit big fs [] at bytes = bad fault.Text at
in_key limit big fs (c ∷ sig) at bytes =
    if is_basic (class_of c) then enter limit big (open_part.Value ∷ fs) (c ∷ sig) at bytes else bad fault.Text at

-- the end of a dict entry
unfoldable pub in_closing : List Open → List ℕ → ℕ → List ℕ → Result (Piece × State) Fault
in_closing fs [] at bytes = bad fault.Text at
in_closing fs (c ∷ sig) at bytes = if c == 125 then resumed (part.Leave 123) fs sig at bytes else bad fault.Text at

-- the next part
abbrev pub next_in : ℕ → Bool → List Open → List ℕ → ℕ → List ℕ → Result (Piece × State) Fault
next_in limit big [] sig at bytes = enter limit big [] sig at bytes
next_in limit big (open_part.Items item behind place outside ∷ fs) sig at bytes = in_items limit big fs item behind place outside sig at bytes
next_in limit big (open_part.Members ∷ fs) sig at bytes = in_members limit big fs sig at bytes
next_in limit big (open_part.Key ∷ fs) sig at bytes = in_key limit big fs sig at bytes
next_in limit big (open_part.Value ∷ fs) sig at bytes = enter limit big (open_part.Closing ∷ fs) sig at bytes
next_in limit big (open_part.Closing ∷ fs) sig at bytes = in_closing fs sig at bytes
next_in limit big (open_part.Inner types ∷ fs) sig at bytes = enter limit big (open_part.Inner types ∷ fs) sig at bytes

abbrev pub step : ℕ → Bool → State → Result (Piece × State) Fault
step limit big s = next_in limit big s.open_parts s.types s.at s.rest

-- nothing is open, and no type is left
abbrev pub is_done : State → Bool
is_done s = (length s.open_parts == 0) && (length s.types == 0)

-- how many parts the values have, and what follows them
pub record Walked : Type 0 where
  pub parts : ℕ
  pub at : ℕ
  pub rest : List ℕ

abbrev pub walked : ℕ → Spot → Walked
walked n s = record { parts = n; at = s.at; rest = s.rest }

-- The walk to its end, of at most n more parts.
unfoldable pub walk : ℕ → ℕ → ℕ → Bool → State → Result Walked Fault
walk zero so_far limit big s = bad fault.Length s.at
walk (suc n) so_far limit big s =
    if is_done s then Ok (record { parts = so_far; at = s.at; rest = s.rest })
    else step limit big s >>= λ (_, next). walk n (so_far + 1) limit big next

-- A message has fewer parts than this.
abbrev pub most_parts : ℕ
most_parts = 4294967296

-- the values of a signature, inside which containers stand at most so deep
abbrev pub values_at : ℕ → Bool → List ℕ → ℕ → List ℕ → Result Walked Fault
values_at limit big sig at bytes = walk most_parts 0 limit big (state [] sig at bytes)

abbrev pub go_on : (State → List Piece) → Result (Piece × State) Fault → List Piece
go_on again (Ok (part, next)) = part ∷ again next
go_on again (Err e) = []

-- so many parts from here
unfoldable pub parts : ℕ → ℕ → Bool → State → List Piece
parts zero limit big s = []
parts (suc n) limit big s = go_on (parts n limit big) (step limit big s)

abbrev pub steps_on : (State → Type 0) → Result (Piece × State) Fault → Type 0
steps_on again (Ok (_, next)) = again next
steps_on again (Err e) = ⊥

-- there are so many parts from here
unfoldable pub Lasts : ℕ → ℕ → Bool → State → Type 0
Lasts zero limit big s = Unit {0}
Lasts (suc n) limit big s = steps_on (Lasts n limit big) (step limit big s)
