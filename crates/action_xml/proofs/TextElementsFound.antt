-- An element with a text that is read has the form.
use Rattle.std.proofs.Common.{◌≡◌, ℕ, List, [], ◌∷◌, ◌++◌, Bool, true, false, Option, Some, None, Ok, refl, sym, ap, ◌∙◌, subst, append_assoc}
use Rattle.std.specs.Prelude.{codes, is_none, if◌then◌else◌}
use Rattle.pk_types.specs.Text.{IsText}
use Rattle.xml_pieces.specs.References.{Reading}
use Rattle.xml_pieces.specs.Texts.{Tag, tag, text, whole_text}
use Rattle.action_xml.specs.TextForm.{IsWhite, Bit, bits_bytes}
use Rattle.action_xml.specs.TextElementForm.{TextElement, text_of, attributes_of, end_bytes, inside_bytes, behind_name_bytes, IsInside, IsTextElement}
use Rattle.action_xml.proofs.TextsFound.{ok_is, whole_found}
use Rattle.action_xml.proofs.TagsFound.{tag_found, after_tag_found}
use Rattle.action_xml.proofs.TextElementsAgain.{bits_before, end_before}

-- what stands behind the start tag
record Inside (name : List ℕ) (t : Tag) (x : Reading) : Type 0 where
  inside : Option (List Bit)
  white : List ℕ
  is_white : IsWhite white
  is : IsInside inside
  empty : t.is_empty ≡ is_none inside
  rest_is : t.rest ≡ inside_bytes name white inside ++ x.1
  text : x.0 ≡ text_of (record { attrs = []; white = []; inside = inside; end_white = white })

inside_found : (name place : List ℕ) (t : Tag) (x : Reading) → text name place t ≡ Ok x → Inside name t x
unfolding text
inside_found name place t x e = of t.is_empty refl e
  where
    of : (b : Bool) → t.is_empty ≡ b → (if b then Ok ([], t.rest) else whole_text name place t.rest) ≡ Ok x → Inside name t x
    of true empty e =
        let same : ([], t.rest) ≡ x = ok_is ([], t.rest) x e in
        record {
          inside = None;
          white = [];
          is_white = tt;
          is = tt;
          empty = empty;
          rest_is = ap (λ (y : Reading). y.1) same;
          text = sym (ap (λ (y : Reading). y.0) same);
        }
    of false full e =
        let f = whole_found name place t.rest x e in
        let end : List ℕ = codes "</" ++ (name ++ (f.white ++ 62 ∷ x.1)) in
        record {
          inside = Some f.bits;
          white = f.white;
          is_white = f.is_white;
          is = (bits_before f.bits 60 (47 ∷ (name ++ (f.white ++ 62 ∷ x.1))) (47 ∷ []) f.are, subst IsText f.text f.is_text);
          empty = full;
          rest_is = f.bytes_are ∙ ap (λ r. bits_bytes f.bits ++ r) (sym (end_before name f.white x.1)) ∙ sym (append_assoc (bits_bytes f.bits) (end_bytes name f.white) x.1);
          text = f.text;
        }

pub record OneTextElement (name bytes : List ℕ) (t : Tag) (x : Reading) : Type 0 where
  pub element : TextElement
  pub is : IsTextElement element
  pub bytes_are : bytes ≡ behind_name_bytes name element ++ x.1
  pub text : x.0 ≡ text_of element
  pub pairs : t.attributes ≡ attributes_of element

pub element_found : (name place bytes : List ℕ) (t : Tag) (x : Reading) → tag false bytes ≡ Ok t → text name place t ≡ Ok x → OneTextElement name bytes t x
element_found name place bytes t x read held =
    let f = tag_found false bytes t read in
    let i = inside_found name place t x held in
    let e : TextElement = record { attrs = f.attrs; white = f.white; inside = i.inside; end_white = i.white } in
    record {
      element = e;
      is = record { attrs = f.are; white = (f.is_white, i.is_white); inside = i.is };
      bytes_are = f.bytes_are
          ∙ after_tag_found f.attrs f.white t.rest (inside_bytes name i.white i.inside) x.1 t.is_empty (is_none i.inside) i.empty i.rest_is;
      text = i.text;
      pairs = f.pairs;
    }
