-- An element that holds a text, apart from any reading.
use Rattle.std.specs.Prelude.{ℕ, List, [], ◌∷◌, ◌++◌, map, Option, Some, None, is_none, codes, unwrap_or}
use Rattle.pk_types.specs.Text.{IsText}
use Rattle.pk_types.specs.declared.values.Pair.{Pair}
use Rattle.action_xml.specs.TextForm.{IsWhite, Bit, AreBits, bits_bytes, bits_text}
use Rattle.action_xml.specs.TagForm.{Attr, attr_pair, AreAttrs, tag_bytes}

-- the tags of an element and the pieces of its text; an empty element `<x/>` has none
pub record TextElement : Type 0 where
  pub attrs : List Attr
  pub white : List ℕ
  pub inside : Option (List Bit)
  pub end_white : List ℕ

abbrev pub text_of : TextElement → List ℕ
text_of e = bits_text (unwrap_or e.inside [])

abbrev pub attributes_of : TextElement → List Pair
attributes_of e = map attr_pair e.attrs

-- the end tag of that name
abbrev pub end_bytes : List ℕ → List ℕ → List ℕ
end_bytes name white = codes "</" ++ (name ++ (white ++ 62 ∷ []))

-- the bytes behind the start tag, of an element of that name
abbrev pub inside_bytes : List ℕ → List ℕ → Option (List Bit) → List ℕ
inside_bytes name white None = []
inside_bytes name white (Some bits) = bits_bytes bits ++ end_bytes name white

-- the bytes behind the name
abbrev pub behind_name_bytes : List ℕ → TextElement → List ℕ
behind_name_bytes name e = tag_bytes e.attrs e.white (is_none e.inside) ++ inside_bytes name e.end_white e.inside

abbrev pub IsInside : Option (List Bit) → Type 0
IsInside None = Unit {0}
IsInside (Some bits) = AreBits bits (codes "</") × IsText (bits_text bits)

pub record IsTextElement (e : TextElement) : Type 0 where
  pub attrs : AreAttrs [] e.attrs
  pub white : IsWhite e.white × IsWhite e.end_white
  pub inside : IsInside e.inside
