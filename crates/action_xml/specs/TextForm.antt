-- The text of an element, apart from any reading: what it is made of, its bytes, and what it says.
use Rattle.std.specs.Prelude.{◌≡◌, ◌≢◌, ℕ, Bool, true, List, [], ◌∷◌, ◌++◌, is_some, unwrap_or, codes}
use Rattle.xml_pieces.specs.Bytes.{is_space, is_name_start, is_name_byte}
use Rattle.xml_pieces.specs.References.{is_body, referred}

-- bytes that all pass a test
abbrev pub Each : (ℕ → Bool) → List ℕ → Type 0
Each test [] = Unit {0}
Each test (b ∷ bytes) = (test b ≡ true) × Each test bytes

-- white space: spaces, tabs, LFs and CRs
abbrev pub IsWhite : List ℕ → Type 0
IsWhite bytes = Each is_space bytes

abbrev pub IsName : List ℕ → Type 0
IsName [] = ⊥
IsName (b ∷ bytes) = (is_name_start b ≡ true) × Each is_name_byte bytes

-- no `--`, also with what follows: it doesn't end with `-`
abbrev pub NoDashes : List ℕ → Type 0
NoDashes [] = Unit {0}
NoDashes (b ∷ []) = b ≢ 45
NoDashes (b ∷ c ∷ inside) = (b ≡ 45 → c ≢ 45) × NoDashes (c ∷ inside)

abbrev pub comment_bytes : List ℕ → List ℕ
comment_bytes inside = codes "<!--" ++ (inside ++ codes "-->")

-- a piece of a text: a byte that stands for itself, CR LF, a CR that no LF follows, a reference, a comment
pub data Bit : Type 0 where
  Byte : (b : ℕ) → Bit
  CrLf : Bit
  Cr : Bit
  Refer : (body : List ℕ) → Bit
  Note : (inside : List ℕ) → Bit

abbrev pub bit_bytes : Bit → List ℕ
bit_bytes (Byte b) = b ∷ []
bit_bytes CrLf = 13 ∷ 10 ∷ []
bit_bytes Cr = 13 ∷ []
bit_bytes (Refer body) = 38 ∷ (body ++ 59 ∷ [])
bit_bytes (Note inside) = comment_bytes inside

abbrev pub bits_bytes : List Bit → List ℕ
bits_bytes [] = []
bits_bytes (b ∷ bits) = bit_bytes b ++ bits_bytes bits

-- the text that a piece stands for
abbrev pub bit_text : Bit → List ℕ
bit_text (Byte b) = b ∷ []
bit_text CrLf = 10 ∷ []
bit_text Cr = 10 ∷ []
bit_text (Refer body) = unwrap_or (referred body) []
bit_text (Note inside) = []

abbrev pub bits_text : List Bit → List ℕ
bits_text [] = []
bits_text (b ∷ bits) = bit_text b ++ bits_text bits

-- the bytes don't begin with a LF
abbrev pub NoLf : List ℕ → Type 0
NoLf [] = Unit {0}
NoLf (b ∷ bytes) = b ≢ 10

-- a reference: the name of one of five characters, or the number of a scalar other than 0
pub record IsReference (body : List ℕ) : Type 0 where
  pub chars : Each is_body body
  pub stands : is_some (referred body) ≡ true

-- a piece in the text of an element, before these bytes
abbrev pub IsBit : Bit → List ℕ → Type 0
IsBit (Byte b) rest = (b ≢ 60) × (b ≢ 38) × (b ≢ 13)
IsBit CrLf rest = Unit {0}
IsBit Cr rest = NoLf rest
IsBit (Refer body) rest = IsReference body
IsBit (Note inside) rest = NoDashes inside

abbrev pub AreBits : List Bit → List ℕ → Type 0
AreBits [] rest = Unit {0}
AreBits (b ∷ bits) rest = IsBit b (bits_bytes bits ++ rest) × AreBits bits rest

-- a piece in a value: no comment, and not its quote
abbrev pub IsValueBit : ℕ → Bit → List ℕ → Type 0
IsValueBit quote (Byte b) rest = (b ≢ quote) × IsBit (Byte b) rest
IsValueBit quote (Note inside) rest = ⊥
IsValueBit quote b rest = IsBit b rest

abbrev pub AreValueBits : ℕ → List Bit → List ℕ → Type 0
AreValueBits quote [] rest = Unit {0}
AreValueBits quote (b ∷ bits) rest = IsValueBit quote b (bits_bytes bits ++ rest) × AreValueBits quote bits rest
