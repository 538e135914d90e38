-- What stands before the root element and behind it, apart from any reading.
use Rattle.std.specs.Prelude.{◌≡◌, ◌≢◌, ◌⊎◌, ℕ, true, List, [], ◌∷◌, ◌++◌, Option, Some, None, codes}
use Rattle.std.specs.List.{flat_map}
use Rattle.xml_pieces.specs.Bytes.{is_space}
use Rattle.action_xml.specs.TextForm.{NoDashes, comment_bytes}

-- no `?>`
abbrev pub NoClose : List ℕ → Type 0
NoClose [] = Unit {0}
NoClose (b ∷ []) = Unit {0}
NoClose (b ∷ c ∷ inside) = (b ≡ 63 → c ≢ 62) × NoClose (c ∷ inside)

-- the word `xml`, alone or before white space or `?`: an XML declaration begins so, and no other instruction
abbrev pub EndsWord : List ℕ → Type 0
EndsWord [] = Unit {0}
EndsWord (b ∷ more) = (is_space b ≡ true) ⊎ (b ≡ 63)

pub record IsXml (inside : List ℕ) : Type 0 where
  pub more : List ℕ
  pub inside_is : inside ≡ codes "xml" ++ more
  pub ends : EndsWord more

abbrev pub instruction_bytes : List ℕ → List ℕ
instruction_bytes inside = codes "<?" ++ (inside ++ codes "?>")

-- the XML declaration, which may be absent
abbrev pub declaration_bytes : Option (List ℕ) → List ℕ
declaration_bytes None = []
declaration_bytes (Some inside) = instruction_bytes inside

abbrev pub IsDeclaration : Option (List ℕ) → Type 0
IsDeclaration None = Unit {0}
IsDeclaration (Some inside) = NoClose inside × IsXml inside

-- outside the root: a byte of white space, a comment, or a processing instruction
pub data Misc : Type 0 where
  Blank : (b : ℕ) → Misc
  Remark : (inside : List ℕ) → Misc
  Instruction : (inside : List ℕ) → Misc

abbrev pub misc_bytes : Misc → List ℕ
misc_bytes (Blank b) = b ∷ []
misc_bytes (Remark inside) = comment_bytes inside
misc_bytes (Instruction inside) = instruction_bytes inside

abbrev pub IsMisc : Misc → Type 0
IsMisc (Blank b) = is_space b ≡ true
IsMisc (Remark inside) = NoDashes inside
IsMisc (Instruction inside) = NoClose inside × ¬ (IsXml inside)

abbrev pub miscs_bytes : List Misc → List ℕ
miscs_bytes miscs = flat_map misc_bytes miscs

abbrev pub AreMiscs : List Misc → Type 0
AreMiscs [] = Unit {0}
AreMiscs (m ∷ miscs) = IsMisc m × AreMiscs miscs

-- a piece of a DOCTYPE: a byte, or a string in quotes
pub data DoctypeBit : Type 0 where
  Bare : (b : ℕ) → DoctypeBit
  Quoted : (quote : ℕ) → (inside : List ℕ) → DoctypeBit

abbrev pub doctype_bit_bytes : DoctypeBit → List ℕ
doctype_bit_bytes (Bare b) = b ∷ []
doctype_bit_bytes (Quoted quote inside) = quote ∷ (inside ++ quote ∷ [])

-- neither the quote nor `[`
abbrev pub NoQuote : ℕ → List ℕ → Type 0
NoQuote quote [] = Unit {0}
NoQuote quote (b ∷ inside) = (b ≢ quote) × (b ≢ 91) × NoQuote quote inside

-- outside quotes no `>`, `[`, `"` or `'`
abbrev pub IsDoctypeBit : DoctypeBit → Type 0
IsDoctypeBit (Bare b) = (b ≢ 62) × (b ≢ 91) × (b ≢ 34) × (b ≢ 39)
IsDoctypeBit (Quoted quote inside) = ((quote ≡ 34) ⊎ (quote ≡ 39)) × NoQuote quote inside

abbrev pub AreDoctypeBits : List DoctypeBit → Type 0
AreDoctypeBits [] = Unit {0}
AreDoctypeBits (b ∷ bits) = IsDoctypeBit b × AreDoctypeBits bits

-- a DOCTYPE, and what stands between it and the root
pub record Doctype : Type 0 where
  pub bits : List DoctypeBit
  pub behind : List Misc

-- the DOCTYPE, which may be absent
abbrev pub doctype_bytes : Option Doctype → List ℕ
doctype_bytes None = []
doctype_bytes (Some d) = codes "<!DOCTYPE" ++ (flat_map doctype_bit_bytes d.bits ++ 62 ∷ miscs_bytes d.behind)

abbrev pub IsDoctype : Option Doctype → Type 0
IsDoctype None = Unit {0}
IsDoctype (Some d) = AreDoctypeBits d.bits × AreMiscs d.behind
