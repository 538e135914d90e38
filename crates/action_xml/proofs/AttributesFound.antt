-- An attribute that is read has the form.
use Rattle.std.proofs.Common.{◌≡◌, ℕ, List, [], ◌∷◌, ◌++◌, Bool, true, false, Ok, refl, sym, ap, ◌∙◌, subst}
use Rattle.std.specs.Prelude.{if◌then◌else◌}
use Rattle.pk_types.specs.Text.{IsText}
use Rattle.xml_pieces.specs.Reading.{◌>>=◌, malformed}
use Rattle.xml_pieces.specs.Bytes.{is_space, behind_spaces, is_name_start, is_name_byte, behind_name, before, named, name, behind_byte}
use Rattle.xml_pieces.specs.Texts.{Attribute, attribute, value}
use Rattle.action_xml.specs.TextForm.{IsWhite, IsName, bits_bytes, bits_text, AreValueBits}
use Rattle.action_xml.specs.TagForm.{Attr, attr_inner}
use Rattle.action_xml.proofs.Steps.{ok}
use Rattle.action_xml.proofs.TextsAgain.{before_again, start_is_byte}
use Rattle.action_xml.proofs.TextsFound.{bind_ok, ok_is, skip_found, byte_found}
use Rattle.action_xml.proofs.ValuesAgain.{IsQuote}
use Rattle.action_xml.proofs.ValuesFound.{value_found}
use Rattle.action_xml.proofs.AttributesAgain.{inner_before}

-- a name that is read is one
pub record OneName (bytes : List ℕ) (n : List ℕ × List ℕ) : Type 0 where
  pub is : IsName n.0
  pub bytes_are : bytes ≡ n.0 ++ n.1

pub name_form : (place bytes : List ℕ) (n : List ℕ × List ℕ) → name place bytes ≡ Ok n → OneName bytes n
unfolding name
name_form place [] n e = absurd cc
name_form place (b ∷ bytes) n e = of (is_name_start b) refl e
  where
    cut : (front rest : List ℕ) → IsName (b ∷ front) → bytes ≡ front ++ rest → named (b ∷ bytes) rest ≡ Ok n → OneName (b ∷ bytes) n
    cut front [] is split e = absurd cc
    cut front (c ∷ rest) is split e =
        let front_is : before (c ∷ rest) (b ∷ bytes) ≡ b ∷ front = ap (λ r. before (c ∷ rest) (b ∷ r)) split ∙ before_again (b ∷ front) (c ∷ rest) in
        let same : (before (c ∷ rest) (b ∷ bytes), c ∷ rest) ≡ n = ok_is (before (c ∷ rest) (b ∷ bytes), c ∷ rest) n e in
        subst (OneName (b ∷ bytes)) (ap (λ w. (w, c ∷ rest)) (sym front_is) ∙ same) (record { is = is; bytes_are = ap (λ r. b ∷ r) split })

    of : (t : Bool) → is_name_start b ≡ t → (if t then named (b ∷ bytes) (behind_name (b ∷ bytes)) else malformed place) ≡ Ok n → OneName (b ∷ bytes) n
    of true s e =
        let f = skip_found is_name_byte bytes in
        let first : behind_name (b ∷ bytes) ≡ behind_name bytes = ap (λ t. if t then behind_name bytes else b ∷ bytes) (start_is_byte b s) in
        cut f.0 (behind_name bytes) (s, f.1) f.2 (ap (named (b ∷ bytes)) (sym first) ∙ e)
    of false s e = absurd cc

-- an attribute that is read
pub record OneAttribute (before here : List ℕ) (x : Attribute) : Type 0 where
  pub attr : Attr
  pub is : (attr.before ≡ before) × IsName attr.name × IsWhite attr.left × IsWhite attr.right × IsQuote attr.quote × AreValueBits attr.quote attr.value (attr.quote ∷ []) × IsText (bits_text attr.value)
  pub bytes_are : here ≡ attr_inner attr ++ x.rest
  pub name_is : x.name ≡ attr.name
  pub value_is : x.value ≡ bits_text attr.value

attribute_same : (x y : Attribute) → ok x ≡ ok y → x ≡ y
attribute_same x y e = cc

pub attribute_found : (before here : List ℕ) (x : Attribute) → attribute here ≡ Ok x → OneAttribute before here x
unfolding attribute
attribute_found front here x e =
    let n = bind_ok (name here here) (λ n. behind_byte 61 here (behind_spaces n.1) >>= λ behind. value here (behind_spaces behind) >>= λ v. Ok (record { name = n.0; value = v.0; rest = v.1 })) x e in
    let b = bind_ok (behind_byte 61 here (behind_spaces n.0.1)) (λ behind. value here (behind_spaces behind) >>= λ v. Ok (record { name = n.0.0; value = v.0; rest = v.1 })) x n.2 in
    let v = bind_ok (value here (behind_spaces b.0)) (λ v. Ok (record { name = n.0.0; value = v.0; rest = v.1 })) x b.2 in
    let is_n = name_form here here n.0 n.1 in
    let left = skip_found is_space n.0.1 in
    let right = skip_found is_space b.0 in
    let equals : behind_spaces n.0.1 ≡ 61 ∷ b.0 = byte_found 61 here (behind_spaces n.0.1) b.0 b.1 in
    let q = value_found here (behind_spaces b.0) v.0 v.1 in
    let a : Attr = record { before = front; name = n.0.0; left = left.0; right = right.0; quote = q.quote; value = q.bits } in
    let value_bytes : List ℕ = q.quote ∷ (bits_bytes q.bits ++ q.quote ∷ v.0.1) in
    let behind_is : b.0 ≡ right.0 ++ value_bytes = right.2 ∙ ap (λ r. right.0 ++ r) q.bytes_are in
    let after_is : n.0.1 ≡ left.0 ++ 61 ∷ (right.0 ++ value_bytes) = left.2 ∙ ap (λ r. left.0 ++ r) (equals ∙ ap (λ r. 61 ∷ r) behind_is) in
    let here_is : here ≡ attr_inner a ++ v.0.1 = is_n.bytes_are ∙ ap (λ r. n.0.0 ++ r) after_is ∙ sym (inner_before a v.0.1) in
    subst (OneAttribute front here) (attribute_same (record { name = n.0.0; value = v.0.0; rest = v.0.1 }) x v.2) (record {
      attr = a;
      is = (refl, is_n.is, left.1, right.1, q.is_quote, q.are, subst IsText q.text q.is_text);
      bytes_are = here_is;
      name_is = refl;
      value_is = q.text;
    })
