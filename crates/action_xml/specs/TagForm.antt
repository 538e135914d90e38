-- Attributes and tags, apart from any reading.
use Rattle.std.specs.Prelude.{◌≡◌, ◌≢◌, ◌⊎◌, ℕ, Bool, false, List, [], ◌∷◌, ◌++◌, codes, if◌then◌else◌}
use Rattle.std.specs.List.{flat_map}
use Rattle.pk_types.specs.Text.{IsText}
use Rattle.pk_types.specs.declared.values.Pair.{Pair}
use Rattle.xml_pieces.specs.Texts.{has, bad_id}
use Rattle.action_xml.specs.TextForm.{IsWhite, IsName, Bit, AreValueBits, bits_bytes, bits_text}

-- an attribute, with the white space before it and on both sides of its `=`
pub record Attr : Type 0 where
  pub before : List ℕ
  pub name : List ℕ
  pub left : List ℕ
  pub right : List ℕ
  pub quote : ℕ
  pub value : List Bit

-- without the white space before it
abbrev pub attr_inner : Attr → List ℕ
attr_inner a = a.name ++ (a.left ++ 61 ∷ (a.right ++ a.quote ∷ (bits_bytes a.value ++ a.quote ∷ [])))

abbrev pub attr_bytes : Attr → List ℕ
attr_bytes a = a.before ++ attr_inner a

abbrev pub attr_pair : Attr → Pair
attr_pair a = record { key = a.name; value = bits_text a.value }

pub record IsAttr (a : Attr) : Type 0 where
  pub before : (a.before ≢ []) × IsWhite a.before
  pub name : IsName a.name
  pub around : IsWhite a.left × IsWhite a.right
  pub quote : (a.quote ≡ 34) ⊎ (a.quote ≡ 39)
  pub value : AreValueBits a.quote a.value (a.quote ∷ [])
  pub text : IsText (bits_text a.value)

-- attributes one after the other, behind those so far: no name comes twice
abbrev pub AreAttrs : List Pair → List Attr → Type 0
AreAttrs so_far [] = Unit {0}
AreAttrs so_far (a ∷ attrs) = IsAttr a × (has a.name so_far ≡ false) × AreAttrs (so_far ++ attr_pair a ∷ []) attrs

-- an attribute named `id` of an action is an action id
abbrev pub AreFineIds : Bool → List Attr → Type 0
AreFineIds is_action [] = Unit {0}
AreFineIds is_action (a ∷ attrs) = (bad_id is_action a.name (bits_text a.value) ≡ false) × AreFineIds is_action attrs

-- a start tag behind its name, of an element that is empty or not
abbrev pub tag_end : Bool → List ℕ
tag_end is_empty = if is_empty then codes "/>" else codes ">"

abbrev pub tag_bytes : List Attr → List ℕ → Bool → List ℕ
tag_bytes attrs white is_empty = flat_map attr_bytes attrs ++ (white ++ tag_end is_empty)
