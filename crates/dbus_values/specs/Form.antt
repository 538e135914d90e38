-- Messages, apart from any reading: "Message Format" and "Header Fields".
use Rattle.std.specs.Prelude.{◌≡◌, ℕ, ◌+◌, ◌<◌, ◌≤◌, ◌^◌, nat_lt, Bool, false, if◌then◌else◌, List, [], ◌∷◌, ◌++◌, length, ◌⊎◌}
use Rattle.std.specs.Int.{w32}
use Rattle.dbus_values.specs.declared.codes.TheConstants.{MAX_MESSAGE}
use Rattle.dbus_values.specs.Types.{class_of}
use Rattle.dbus_values.specs.Basics.{gap}
use Rattle.dbus_values.specs.Header.{Header, no_fields, has, put_text, put_number, type_code, lacks}
use Rattle.dbus_values.specs.Messages.{signature_of}
use Rattle.dbus_values.specs.Next.{Seen}
use Rattle.dbus_values.specs.Trees.{Tree, Trees, types_of, bytes_of, padding, marshalled, all_marshalled, all_pieces, IsString, FitsAs, Each, Number, Text, Variant}

-- a header field: its code, and the value of its variant
pub record Field : Type 0 where
  pub code : ℕ
  pub value : Tree

-- a message: its type, flags and serial, its header fields, unknown ones too, and the values of its body
pub record Message : Type 0 where
  pub kind : ℕ
  pub flags : ℕ
  pub serial : ℕ
  pub fields : List Field
  pub body : Trees

-- a field is a structure of the code and a variant
abbrev pub field_bytes : Bool → ℕ → Field → List ℕ
field_bytes big at f = padding (gap 8 at) ++ (f.code ∷ marshalled big (at + gap 8 at + 1) (Variant f.value))

abbrev pub fields_bytes : Bool → ℕ → List Field → List ℕ
fields_bytes big at [] = []
fields_bytes big at (f ∷ fs) = field_bytes big at f ++ fields_bytes big (at + length (field_bytes big at f)) fs

-- `l` for little-endian, `B` for big-endian
abbrev pub order_byte : Bool → ℕ
order_byte big = if big then 66 else 108

-- The bytes of a message: the byte order, the type, the flags, the protocol version 1, the length of the
-- body, the serial, the array of header fields, padding to a multiple of 8, and the body.
abbrev pub message_bytes : Bool → Message → List ℕ
message_bytes big m =
    let fields = fields_bytes big 16 m.fields in
    let body = all_marshalled big (16 + length fields + gap 8 (16 + length fields)) m.body in
    order_byte big ∷ m.kind ∷ m.flags ∷ 1 ∷ (bytes_of big w32 (length body) ++ (bytes_of big w32 m.serial ++ (bytes_of big w32 (length fields) ++ (fields ++ (padding (gap 8 (16 + length fields)) ++ body)))))

-- the value of a known field: of the field's type; a REPLY_SERIAL is not 0
abbrev pub IsKnown : ℕ → Tree → Type 0
IsKnown code (Number c n) = (c ≡ 117) × (type_code code ≡ 117) × (n < 2 ^ 32) × (code ≡ 5 → 0 < n)
IsKnown code (Text c t) = (c ≡ type_code code) × IsString (class_of c) t
IsKnown code _ = ⊥

-- the value of an unknown field: that of any variant, which stands in an array and a structure
abbrev pub IsUnknown : Tree → Type 0
IsUnknown t = FitsAs false 62 (Variant t)

-- the header with one more field
abbrev pub put_value : Header → ℕ → Tree → Header
put_value h code (Number c n) = put_number h code n
put_value h code (Text c t) = put_text h code t
put_value h code _ = h

abbrev pub put : Header → Field → Header
put h f = if nat_lt f.code 10 then put_value h f.code f.value else h

-- no code is 0, and no known code comes twice
pub record IsField (h : Header) (f : Field) : Type 0 where
  pub low : 0 < f.code
  pub high : f.code < 256
  pub once : has h f.code ≡ false
  pub value : ((f.code < 10) × IsKnown f.code f.value) ⊎ ((10 ≤ f.code) × IsUnknown f.value)

abbrev pub AreFields : Header → List Field → Type 0
AreFields h [] = Unit {0}
AreFields h (f ∷ fs) = IsField h f × AreFields (put h f) fs

-- the header that these fields make
abbrev pub header_from : Header → List Field → Header
header_from h [] = h
header_from h (f ∷ fs) = header_from (put h f) fs

abbrev pub header_of : Message → Header
header_of m = header_from no_fields m.fields

-- What a message is: no type or serial of 0, the fields that its type needs, a body of the values that
-- SIGNATURE says, inside which 64 containers may stand, and at most 16,777,216 bytes.
pub record IsMessage (big : Bool) (m : Message) : Type 0 where
  pub kind : (0 < m.kind) × (m.kind < 256)
  pub flags : m.flags < 256
  pub serial : (0 < m.serial) × (m.serial < 2 ^ 32)
  pub fields : AreFields no_fields m.fields
  pub needs : lacks m.kind (header_of m) ≡ false
  pub signature : signature_of (header_of m) ≡ types_of m.body
  pub body : Each (FitsAs false 64) m.body
  pub short : length (message_bytes big m) ≤ MAX_MESSAGE

-- the bytes are this message, in one of the two byte orders
pub record WireForm (bytes : List ℕ) (m : Message) : Type 0 where
  pub big : Bool
  pub is : IsMessage big m
  pub bytes_are : bytes ≡ message_bytes big m

-- a message as it is shown: its header values and the flat list of the parts of its body
abbrev pub shown_of : Message → Seen
shown_of m = record {
  kind = m.kind;
  flags = m.flags;
  serial = m.serial;
  path = (header_of m).path;
  interface = (header_of m).interface;
  member = (header_of m).member;
  error_name = (header_of m).error_name;
  reply_serial = (header_of m).reply_serial;
  signature = types_of m.body;
  parts = all_pieces m.body;
}
