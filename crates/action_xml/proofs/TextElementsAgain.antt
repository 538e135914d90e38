-- An element with a text that has the form is read again, whatever follows.
use Rattle.std.proofs.Common.{◌≡◌, ℕ, List, [], ◌∷◌, ◌++◌, false, Option, Some, None, Ok, refl, ap, ◌∙◌, append_assoc}
use Rattle.std.specs.Prelude.{codes, is_none}
use Rattle.pk_types.specs.declared.values.Pair.{Pair}
use Rattle.xml_pieces.specs.Texts.{tag, text, whole_text}
use Rattle.action_xml.specs.TextForm.{IsWhite, IsName, Bit, Byte, CrLf, Cr, Refer, Note, IsBit, AreBits, bits_bytes}
use Rattle.action_xml.specs.TagForm.{tag_bytes}
use Rattle.action_xml.specs.TextElementForm.{TextElement, text_of, attributes_of, end_bytes, inside_bytes, behind_name_bytes, IsInside, IsTextElement}
use Rattle.action_xml.proofs.TextsAgain.{whole_again}
use Rattle.action_xml.proofs.ValuesAgain.{no_lf_before}
use Rattle.action_xml.proofs.TagsAgain.{tag_again, no_ids}

bit_before : (b : Bit) (front : List ℕ) (c : ℕ) (rest more : List ℕ) → IsBit b (front ++ c ∷ rest) → IsBit b (front ++ c ∷ more)
bit_before (Byte b) front c rest more is = is
bit_before CrLf front c rest more is = is
bit_before Cr front c rest more is = no_lf_before front c rest more is
bit_before (Refer body) front c rest more is = is
bit_before (Note inside) front c rest more is = is

-- what follows the byte behind the pieces doesn't matter
pub bits_before : (bits : List Bit) (c : ℕ) (rest more : List ℕ) → AreBits bits (c ∷ rest) → AreBits bits (c ∷ more)
bits_before [] c rest more are = tt
bits_before (b ∷ bits) c rest more are = (bit_before b (bits_bytes bits) c rest more are.0, bits_before bits c rest more are.1)

-- its start tag
pub element_tag_again : (name rest : List ℕ) (e : TextElement) → IsTextElement e
    → tag false (behind_name_bytes name e ++ rest) ≡ Ok (record { attributes = attributes_of e; is_empty = is_none e.inside; rest = inside_bytes name e.end_white e.inside ++ rest })
element_tag_again name rest e is =
    ap (tag false) (append_assoc (tag_bytes e.attrs e.white (is_none e.inside)) (inside_bytes name e.end_white e.inside) rest)
    ∙ tag_again false e.attrs e.white (is_none e.inside) (inside_bytes name e.end_white e.inside ++ rest) is.attrs (no_ids e.attrs) is.white.0

pub end_before : (name white rest : List ℕ) → end_bytes name white ++ rest ≡ codes "</" ++ (name ++ (white ++ 62 ∷ rest))
end_before name white rest = ap (λ r. 60 ∷ 47 ∷ r) (append_assoc name (white ++ 62 ∷ []) rest ∙ ap (λ r. name ++ r) (append_assoc white (62 ∷ []) rest))

-- and its text behind that
pub element_text_again : (name place rest white : List ℕ) (attributes : List Pair) (inside : Option (List Bit)) → IsName name → IsWhite white → IsInside inside
    → text name place (record { attributes = attributes; is_empty = is_none inside; rest = inside_bytes name white inside ++ rest }) ≡ Ok (text_of (record { attrs = []; white = []; inside = inside; end_white = white }), rest)
unfolding text
element_text_again name place rest white attributes None is is_white inside = refl
element_text_again name place rest white attributes (Some bits) is is_white inside =
    let end : List ℕ = codes "</" ++ (name ++ (white ++ 62 ∷ rest)) in
    let e : (bits_bytes bits ++ end_bytes name white) ++ rest ≡ bits_bytes bits ++ end = append_assoc (bits_bytes bits) (end_bytes name white) rest ∙ ap (λ r. bits_bytes bits ++ r) (end_before name white rest) in
    ap (whole_text name place) e ∙ whole_again name place white rest bits is is_white (bits_before bits 60 (47 ∷ []) (47 ∷ (name ++ (white ++ 62 ∷ rest))) inside.0) inside.1
