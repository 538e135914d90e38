-- Values of the D-Bus type system as trees, apart from any reading: their types, how they are marshalled
-- ("Marshaling (Wire Format)"), which of them have a form, and the parts that they are shown as.
use Rattle.std.specs.Prelude.{◌≡◌, ℕ, zero, suc, ◌+◌, ◌<◌, ◌^◌, Bool, true, false, if◌then◌else◌, List, [], ◌∷◌, ◌++◌, length, Some}
use Rattle.std.specs.Int.{Width, w16, w32, w64, to_be_bytes, to_le_bytes}
use Rattle.dbus_values.specs.declared.class.Class.{Class}
use Rattle.dbus_values.specs.declared.class.Class.TheVariants as class
use Rattle.dbus_values.specs.Types.{class_of, align_of}
use Rattle.dbus_values.specs.Signatures.{after_item, after_type, is_signature, item_align}
use Rattle.dbus_values.specs.Basics.{gap, is_text, is_path}
use Rattle.dbus_values.specs.Parts.{Piece}
use Rattle.dbus_values.specs.Parts as part

-- A value: a number under its type code, as an unsigned one; a text, an object path or a signature under
-- its type code; an array with the signature of its items; a structure; a dict entry; a variant.
mutual
  pub data Tree : Type 0 where
    Number : ℕ → ℕ → Tree
    Text : ℕ → List ℕ → Tree
    Array : List ℕ → Trees → Tree
    Struct : Trees → Tree
    Entry : Tree → Tree → Tree
    Variant : Tree → Tree

  pub data Trees : Type 0 where
    none : Trees
    more : Tree → Trees → Trees

-- the type of a value, and the signature of a row of values
abbrev mutual
  pub type_of : Tree → List ℕ
  type_of (Number c n) = c ∷ []
  type_of (Text c t) = c ∷ []
  type_of (Array item ts) = 97 ∷ item
  type_of (Struct ts) = 40 ∷ (types_of ts ++ 41 ∷ [])
  type_of (Entry k v) = 123 ∷ (type_of k ++ (type_of v ++ 125 ∷ []))
  type_of (Variant t) = 118 ∷ []

  pub types_of : Trees → List ℕ
  types_of none = []
  types_of (more t ts) = type_of t ++ types_of ts

-- a number in the byte order of the message
abbrev pub bytes_of : Bool → Width → ℕ → List ℕ
bytes_of big w n = if big then to_be_bytes w n else to_le_bytes w n

-- so many bytes 0
unfoldable pub padding : ℕ → List ℕ
padding zero = []
padding (suc n) = 0 ∷ padding n

-- the bytes of a number of this class
abbrev pub number_bytes : Bool → Class → ℕ → List ℕ
number_bytes big class.Byte n = n ∷ []
number_bytes big class.Half n = bytes_of big w16 n
number_bytes big class.Long n = bytes_of big w64 n
number_bytes big _ n = bytes_of big w32 n

-- the bytes of a text of this class: its length, which has one byte for a signature, the text and a byte 0
abbrev pub text_bytes : Bool → Class → List ℕ → List ℕ
text_bytes big class.Signature t = length t ∷ (t ++ 0 ∷ [])
text_bytes big _ t = bytes_of big w32 (length t) ++ (t ++ 0 ∷ [])

-- The bytes of a value that stands at this place of the message, with the padding before it. The length of
-- an array counts its items, and not the padding before the first.
abbrev mutual
  pub marshalled : Bool → ℕ → Tree → List ℕ
  marshalled big at (Number c n) = padding (gap (align_of (class_of c)) at) ++ number_bytes big (class_of c) n
  marshalled big at (Text c t) = padding (gap (align_of (class_of c)) at) ++ text_bytes big (class_of c) t
  marshalled big at (Array item ts) =
      let inside = all_marshalled big (at + gap 4 at + 4 + gap (item_align item) (at + gap 4 at + 4)) ts in
      padding (gap 4 at) ++ (bytes_of big w32 (length inside) ++ (padding (gap (item_align item) (at + gap 4 at + 4)) ++ inside))
  marshalled big at (Struct ts) = padding (gap 8 at) ++ all_marshalled big (at + gap 8 at) ts
  marshalled big at (Entry k v) =
      padding (gap 8 at) ++ (marshalled big (at + gap 8 at) k ++ marshalled big (at + gap 8 at + length (marshalled big (at + gap 8 at) k)) v)
  marshalled big at (Variant t) = length (type_of t) ∷ (type_of t ++ (0 ∷ marshalled big (at + length (type_of t) + 2) t))

  pub all_marshalled : Bool → ℕ → Trees → List ℕ
  all_marshalled big at none = []
  all_marshalled big at (more t ts) = marshalled big at t ++ all_marshalled big (at + length (marshalled big at t)) ts

-- the numbers of a class
abbrev pub IsNumber : Class → ℕ → Type 0
IsNumber class.Byte n = n < 256
IsNumber class.Half n = n < 2 ^ 16
IsNumber class.Boolean n = n < 2
IsNumber class.Word n = n < 2 ^ 32
IsNumber class.Long n = n < 2 ^ 64
IsNumber _ n = ⊥

-- the texts of a class
abbrev pub IsString : Class → List ℕ → Type 0
IsString class.Text t = is_text t ≡ true
IsString class.Path t = (is_text t ≡ true) × (is_path t ≡ true)
IsString class.Signature t = is_signature t ≡ true
IsString _ t = ⊥

-- the signature of the items of an array: a complete type or a dict entry, whatever types stand behind it
abbrev pub IsItem : List ℕ → Type 0
IsItem sig = (types : List ℕ) → after_item (sig ++ types) ≡ Some types

-- what holds of each value of a row
abbrev pub Each : (Tree → Type 0) → Trees → Type 0
Each P none = Unit {0}
Each P (more t ts) = P t × Each P ts

abbrev pub HasOne : Trees → Type 0
HasOne none = ⊥
HasOne (more t ts) = Unit {0}

-- the values of a basic type
abbrev pub IsBasic : Tree → Type 0
IsBasic (Number c n) = Unit {0}
IsBasic (Text c t) = Unit {0}
IsBasic _ = ⊥

-- What has a form, inside which containers stand at most so deep; only the item of an array may be a dict
-- entry. The items of an array have the array's type.
unfoldable pub FitsAs : Bool → ℕ → Tree → Type 0
FitsAs item d (Number c n) = IsNumber (class_of c) n
FitsAs item d (Text c t) = IsString (class_of c) t
FitsAs item zero (Array sig ts) = ⊥
FitsAs item (suc d) (Array sig ts) = IsItem sig × Each (λ t. (type_of t ≡ sig) × FitsAs true d t) ts
FitsAs item zero (Struct ts) = ⊥
FitsAs item (suc d) (Struct ts) = HasOne ts × Each (FitsAs false d) ts
FitsAs false d (Entry k v) = ⊥
FitsAs true zero (Entry k v) = ⊥
FitsAs true (suc d) (Entry k v) = IsBasic k × FitsAs false d k × FitsAs false d v
FitsAs item zero (Variant t) = ⊥
FitsAs item (suc d) (Variant t) = (is_signature (type_of t) ≡ true) × (after_type (type_of t) ≡ Some []) × FitsAs false d t

abbrev pub Fits : ℕ → Tree → Type 0
Fits d t = FitsAs false d t

abbrev pub AllFit : ℕ → Trees → Type 0
AllFit d ts = Each (FitsAs false d) ts

-- the parts of a value
abbrev mutual
  pub pieces : Tree → List Piece
  pieces (Number c n) = part.Number c n ∷ []
  pieces (Text c t) = part.Text c t ∷ []
  pieces (Array item ts) = part.Enter 97 ∷ (all_pieces ts ++ part.Leave 97 ∷ [])
  pieces (Struct ts) = part.Enter 40 ∷ (all_pieces ts ++ part.Leave 40 ∷ [])
  pieces (Entry k v) = part.Enter 123 ∷ (pieces k ++ (pieces v ++ part.Leave 123 ∷ []))
  pieces (Variant t) = part.Variant (type_of t) ∷ pieces t

  pub all_pieces : Trees → List Piece
  all_pieces none = []
  all_pieces (more t ts) = pieces t ++ all_pieces ts
