-- Elements inside another, apart from any reading: each behind white space and comments, and what stands before the end tag.
use Rattle.std.specs.Prelude.{◌≡◌, ℕ, List, [], ◌∷◌, ◌++◌, Option, Some, None, is_none}
use Rattle.std.specs.List.{flat_map}
use Rattle.action_xml.specs.TextForm.{IsWhite}
use Rattle.action_xml.specs.TagForm.{Attr, tag_bytes}
use Rattle.action_xml.specs.GapForm.{Gap, gaps_bytes, AreGaps}
use Rattle.action_xml.specs.TextElementForm.{TextElement, end_bytes, behind_name_bytes}

-- elements one after the other, from what was said so far to what all say; each adds something
abbrev pub AddAll : {D E : Type 0} → (D → E → D → Type 0) → D → List E → D → Type 0
AddAll {D = D} Adds d [] all = all ≡ d
AddAll {D = D} Adds d (x ∷ xs) all = (more : D) × Adds d x more × AddAll Adds more xs all

-- what stands between the tags
pub record Row (E : Type 0) : Type 0 where
  pub elements : List E
  pub last : List Gap
  pub end_white : List ℕ

abbrev pub row_bytes : {E : Type 0} → (E → List ℕ) → List ℕ → Row E → List ℕ
row_bytes bytes_of name r = flat_map bytes_of r.elements ++ (gaps_bytes r.last ++ end_bytes name r.end_white)

-- the tags of an element and what stands between them, nothing for `<x/>`
pub record Parent (E : Type 0) : Type 0 where
  pub attrs : List Attr
  pub white : List ℕ
  pub inside : Option (Row E)

abbrev pub between_bytes : {E : Type 0} → (E → List ℕ) → List ℕ → Option (Row E) → List ℕ
between_bytes bytes_of name None = []
between_bytes bytes_of name (Some r) = row_bytes bytes_of name r

-- the bytes behind the name
abbrev pub parent_bytes : {E : Type 0} → (E → List ℕ) → List ℕ → Parent E → List ℕ
parent_bytes bytes_of name p = tag_bytes p.attrs p.white (is_none p.inside) ++ between_bytes bytes_of name p.inside

-- what stands between the tags says all, from nothing
abbrev pub SaysAll : {D E : Type 0} → (D → E → D → Type 0) → D → Option (Row E) → D → Type 0
SaysAll Adds none None all = all ≡ none
SaysAll Adds none (Some r) all = AddAll Adds none r.elements all × AreGaps r.last × IsWhite r.end_white

-- an element with a text among others: white space and comments, its name, and the rest of it
abbrev pub text_child_bytes : List Gap → List ℕ → TextElement → List ℕ
text_child_bytes gaps name e = gaps_bytes gaps ++ 60 ∷ (name ++ behind_name_bytes name e)
