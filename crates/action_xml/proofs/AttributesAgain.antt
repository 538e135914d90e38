-- An attribute that has the form is read again, whatever follows.
use Rattle.std.proofs.Common.{◌≡◌, ℕ, List, [], ◌∷◌, ◌++◌, false, Ok, Result, refl, sym, ap, ◌∙◌, append_assoc, ⊎_elim}
use Rattle.std.specs.Prelude.{if◌then◌else◌}
use Rattle.pk_types.specs.Text.{IsText}
use Rattle.xml_pieces.specs.declared.fault.Fault.{Fault}
use Rattle.xml_pieces.specs.Reading.{◌>>=◌}
use Rattle.xml_pieces.specs.Bytes.{is_space, behind_spaces, is_name_byte, name, behind_byte}
use Rattle.xml_pieces.specs.Texts.{Attribute, attribute, value}
use Rattle.action_xml.specs.TextForm.{IsWhite, IsName, Bit, bits_bytes, bits_text, AreValueBits}
use Rattle.action_xml.specs.TagForm.{Attr, attr_inner, IsAttr}
use Rattle.action_xml.proofs.TextsAgain.{skip_each, name_again, space_ends}
use Rattle.action_xml.proofs.ValuesAgain.{IsQuote, value_again}

-- white space and a byte that is in no name end a name
pub ends_name : (white : List ℕ) (c : ℕ) (rest : List ℕ) → IsWhite white → is_name_byte c ≡ false → (d : ℕ) × (more : List ℕ) × (white ++ c ∷ rest ≡ d ∷ more) × (is_name_byte d ≡ false)
ends_name [] c rest is other = (c, rest, refl, other)
ends_name (b ∷ white) c rest is other = (b, white ++ c ∷ rest, refl, space_ends b is.0)

pub white_before : (white : List ℕ) (c : ℕ) (rest : List ℕ) → IsWhite white → is_space c ≡ false → behind_spaces (white ++ c ∷ rest) ≡ c ∷ rest
white_before white c rest is other = skip_each is_space white (c ∷ rest) is ∙ ap (λ t. if t then behind_spaces rest else c ∷ rest) other

quote_is_no_space : (quote : ℕ) → IsQuote quote → is_space quote ≡ false
quote_is_no_space quote is = ⊎_elim (λ (q : quote ≡ 34). ap is_space q) (λ (q : quote ≡ 39). ap is_space q) is

abbrev attribute_of : List ℕ → List ℕ → List ℕ → Attribute
attribute_of n v r = record { name = n; value = v; rest = r }

abbrev attribute_from : List ℕ → List ℕ → List ℕ → Result Attribute Fault
attribute_from here n behind = do
  v ← value here (behind_spaces behind)
  Ok (attribute_of n v.0 v.1)

attribute_parts : (n left right rest : List ℕ) (quote : ℕ) (bits : List Bit) → IsName n → IsWhite left → IsWhite right → IsQuote quote → AreValueBits quote bits (quote ∷ []) → IsText (bits_text bits)
    → attribute (n ++ (left ++ 61 ∷ (right ++ quote ∷ (bits_bytes bits ++ quote ∷ rest)))) ≡ Ok (attribute_of n (bits_text bits) rest)
unfolding attribute behind_byte
attribute_parts n left right rest quote bits is_name is_left is_right is_quote are is_text =
    let value_bytes : List ℕ = quote ∷ (bits_bytes bits ++ quote ∷ rest) in
    let behind : List ℕ = right ++ value_bytes in
    let here : List ℕ = n ++ (left ++ 61 ∷ behind) in
    let w = ends_name left 61 behind is_left refl in
    let named : name here here ≡ Ok (n, left ++ 61 ∷ behind) =
    ap (λ r. name here (n ++ r)) w.2 ∙ name_again here n w.0 w.1 is_name w.3 ∙ ap (λ r. Ok (n, r)) (sym w.2) in
    let equals : behind_spaces (left ++ 61 ∷ behind) ≡ 61 ∷ behind = white_before left 61 behind is_left refl in
    let quoted : behind_spaces behind ≡ value_bytes = white_before right quote (bits_bytes bits ++ quote ∷ rest) is_right (quote_is_no_space quote is_quote) in
    ap (λ r. r >>= λ n. behind_byte 61 here (behind_spaces n.1) >>= λ behind. attribute_from here n.0 behind) named
    ∙ ap (λ s. behind_byte 61 here s >>= λ behind. attribute_from here n behind) equals
    ∙ ap (λ s. value here s >>= λ v. Ok (attribute_of n v.0 v.1)) quoted
    ∙ ap (λ r. r >>= λ v. Ok (attribute_of n v.0 v.1)) (value_again here rest quote bits is_quote are is_text)

pub inner_before : (a : Attr) (rest : List ℕ) → attr_inner a ++ rest ≡ a.name ++ (a.left ++ 61 ∷ (a.right ++ a.quote ∷ (bits_bytes a.value ++ a.quote ∷ rest)))
inner_before a rest = simp append_assoc

pub attribute_again : (rest : List ℕ) (a : Attr) → IsAttr a → attribute (attr_inner a ++ rest) ≡ Ok (record { name = a.name; value = bits_text a.value; rest = rest })
attribute_again rest a is = ap attribute (inner_before a rest) ∙ attribute_parts a.name a.left a.right rest a.quote a.value is.name is.around.0 is.around.1 is.quote is.value is.text
