-- Defaults that are read have the form.
use Rattle.std.proofs.Common.{◌≡◌, ℕ, List, ◌∷◌, ◌++◌, Bool, true, false, Option, Some, None, Ok, refl, sym, ap, ◌∙◌, subst, Result}
use Rattle.std.specs.Prelude.{codes, is_none, is_some, if◌then◌else◌, bytes_eq}
use Rattle.std.proofs.lemmas.Slice.Eq.{bytes_eq-Decides}
use Rattle.pk_types.specs.Values.{implicit_of_word}
use Rattle.pk_types.specs.declared.values.Implicit.{Implicit}
use Rattle.pk_types.specs.declared.values.Category.{Category}
use Rattle.pk_types.specs.declared.values.Category.TheVariants as category
use Rattle.xml_pieces.specs.declared.fault.Fault.{Fault}
use Rattle.xml_pieces.specs.declared.fault.XmlFaultKind.TheVariants as kind
use Rattle.xml_pieces.specs.Reading.{◌>>=◌, fault_at, On, Done, Step}
use Rattle.xml_pieces.specs.Texts.{tag, text}
use Rattle.xml_pieces.specs.Children.{Next, Child, End, next}
use Rattle.action_drafts.specs.declared.draft.Defaults.{Defaults}
use Rattle.keyfile_text.specs.Bytes.{trim}
use Rattle.action_drafts.specs.Defaults.{default_of, with_default, no_defaults, default_part, word_of, default_element, default_child, in_defaults, defaults_step, default_elements, defaults, defaults_element}
use Rattle.action_xml.specs.GapForm.{Gap, gaps_bytes, AreGaps}
use Rattle.action_xml.specs.TextElementForm.{TextElement, text_of, behind_name_bytes, IsTextElement}
use Rattle.action_xml.specs.RowForm.{Parent, between_bytes}
use Rattle.action_xml.specs.DefaultsForm.{Default, default_name, default_bytes, AddsDefault, SaysDefaults, defaults_bytes}
use Rattle.action_xml.proofs.Steps.{ok, not_on, not_done, on_same, done_same}
use Rattle.action_xml.proofs.TagsFound.{tag_found, after_tag_found}
use Rattle.action_xml.proofs.TextsFound.{bind_ok, ok_is}
use Rattle.action_xml.proofs.TextElementsFound.{element_found}
use Rattle.action_xml.proofs.NextFound.{next_found}
use Rattle.action_xml.proofs.Rows.{InRow, RowEnd, end_found_next, OneElement, between_found, child_split}

abbrev on : InRow Defaults → Result (Step (InRow Defaults) (InRow Defaults)) Fault
on s = Ok (On s)

some_same : (a b : Category) → Some a ≡ Some b → a ≡ b
some_same a b e = cc

name_of_part : (n : List ℕ) (which : Category) → default_part n ≡ Some which → n ≡ default_name which
name_of_part n which e = of (bytes_eq n (codes "allow_any")) (bytes_eq n (codes "allow_inactive")) (bytes_eq n (codes "allow_active")) refl refl refl e
  where
    at : (w : Category) → n ≡ default_name w → w ≡ which → n ≡ default_name which
    at w is same = is ∙ ap default_name same

    of : (t u v : Bool) → bytes_eq n (codes "allow_any") ≡ t → bytes_eq n (codes "allow_inactive") ≡ u → bytes_eq n (codes "allow_active") ≡ v
        → (if t then Some category.Any else (if u then Some category.Inactive else (if v then Some category.Active else None))) ≡ Some which → n ≡ default_name which
    of true u v p q r e = at category.Any ((bytes_eq-Decides n (codes "allow_any")).0 p) (some_same category.Any which e)
    of false true v p q r e = at category.Inactive ((bytes_eq-Decides n (codes "allow_inactive")).0 q) (some_same category.Inactive which e)
    of false false true p q r e = at category.Active ((bytes_eq-Decides n (codes "allow_active")).0 r) (some_same category.Active which e)
    of false false false p q r e = absurd cc

-- one default behind its name
record OneDefault (which : Category) (name : List ℕ) (d : Defaults) (bytes : List ℕ) (s : InRow Defaults) : Type 0 where
  element : TextElement
  is : IsTextElement element
  new : default_of which d ≡ None
  value : Implicit
  word : implicit_of_word (trim (text_of element)) ≡ Some value
  adds : s.0 ≡ with_default which value d
  bytes_are : bytes ≡ behind_name_bytes name element ++ s.1

word_found : (place : List ℕ) (v : Implicit) (o : Option Implicit) → word_of place o ≡ Ok v → o ≡ Some v
word_found place v (Some w) e = ap Some (ok_is w v e)
word_found place v None e = absurd cc

default_element_found : (which : Category) (name place : List ℕ) (d : Defaults) (rest : List ℕ) (s : InRow Defaults) → default_element which name place d rest ≡ Ok s → OneDefault which name d rest s
unfolding default_element
default_element_found which name place d rest s e = of (default_of which d) refl e
  where
    of : (o : Option Implicit) → default_of which d ≡ o
        → (if is_some o then fault_at kind.Repeated place else (tag false rest >>= λ t. text name place t >>= λ x. word_of place (implicit_of_word (trim x.0)) >>= λ v. ok (with_default which v d, x.1))) ≡ Ok s
        → OneDefault which name d rest s
    of (Some w) stands e = absurd cc
    of None new e =
        let t = bind_ok (tag false rest) (λ t. text name place t >>= λ x. word_of place (implicit_of_word (trim x.0)) >>= λ v. ok (with_default which v d, x.1)) s e in
        let x = bind_ok (text name place t.0) (λ x. word_of place (implicit_of_word (trim x.0)) >>= λ v. ok (with_default which v d, x.1)) s t.2 in
        let v = bind_ok (word_of place (implicit_of_word (trim x.0.0))) (λ v. ok (with_default which v d, x.0.1)) s x.2 in
        let f = element_found name place rest t.0 x.0 t.1 x.1 in
        subst (OneDefault which name d rest) (ok_is (with_default which v.0 d, x.0.1) s v.2) (record {
          element = f.element;
          is = f.is;
          new = new;
          value = v.0;
          word = ap (λ r. implicit_of_word (trim r)) (sym f.text) ∙ word_found place v.0 (implicit_of_word (trim x.0.0)) v.1;
          adds = refl;
          bytes_are = f.bytes_are;
        })

default_on : (d : Defaults) (bytes : List ℕ) (s : InRow Defaults) → defaults_step (d, bytes) ≡ Ok (On s) → OneElement default_bytes AddsDefault d bytes s
unfolding defaults_step
default_on d bytes s e = let b = bind_ok (next (codes "defaults") bytes) (in_defaults d) (On s) e in of b.0 b.1 b.2
  where
    child : (n place rest : List ℕ) (gaps : List Gap) → AreGaps gaps → bytes ≡ gaps_bytes gaps ++ 60 ∷ (n ++ rest) → (o : Option Category) → default_part n ≡ o → default_child d n place rest o ≡ Ok (On s) → OneElement default_bytes AddsDefault d bytes s
    child n place rest gaps are split None part e = absurd cc
    child n place rest gaps are split (Some which) part e =
        let r = bind_ok (default_element which n place d rest) on (On s) e in
        let f = default_element_found which n place d rest s (r.1 ∙ ap ok (on_same r.0 s r.2)) in
        let name : n ≡ default_name which = name_of_part n which part in
        record {
          element = record { gaps = gaps; which = which; element = f.element };
          adds = record { gaps = are; element = f.is; new = f.new; value = f.value; word = f.word; adds = f.adds };
          bytes_are = split ∙ ap (λ r. gaps_bytes gaps ++ 60 ∷ (n ++ r)) f.bytes_are ∙ ap (λ m. gaps_bytes gaps ++ 60 ∷ (m ++ (behind_name_bytes m f.element ++ s.1))) name
              ∙ sym (child_split gaps (default_name which) (behind_name_bytes (default_name which) f.element) s.1);
        }

    of : (x : Next) → next (codes "defaults") bytes ≡ Ok x → in_defaults d x ≡ Ok (On s) → OneElement default_bytes AddsDefault d bytes s
    of (End rest) is e = absurd (not_on (d, rest) s e)
    of (Child n place rest) is e =
        let f = next_found (codes "defaults") bytes (Child n place rest) is in
        child n place rest f.gaps f.are (f.bytes_are ∙ ap (λ r. gaps_bytes f.gaps ++ r) f.is.2) (default_part n) refl e

defaults_done : (d : Defaults) (bytes : List ℕ) (x : InRow Defaults) → defaults_step (d, bytes) ≡ Ok (Done x) → (x.0 ≡ d) × RowEnd (codes "defaults") bytes x.1
unfolding defaults_step
defaults_done d bytes x e = let b = bind_ok (next (codes "defaults") bytes) (in_defaults d) (Done x) e in of b.0 b.1 b.2
  where
    child : (n place rest : List ℕ) (o : Option Category) → default_child d n place rest o ≡ Ok (Done x) → ⊥
    child n place rest None e = cc
    child n place rest (Some which) e = let r = bind_ok (default_element which n place d rest) on (Done x) e in not_done x r.0 r.2

    of : (y : Next) → next (codes "defaults") bytes ≡ Ok y → in_defaults d y ≡ Ok (Done x) → (x.0 ≡ d) × RowEnd (codes "defaults") bytes x.1
    of (End rest) is e =
        let same : (d, rest) ≡ x = done_same (d, rest) x e in
        (sym (ap (λ (y : InRow Defaults). y.0) same), end_found_next (codes "defaults") bytes x.1 (is ∙ ap (λ (y : InRow Defaults). Ok (End y.1)) same))
    of (Child n place rest) is e = absurd (child n place rest (default_part n) e)

-- the whole element behind its name
pub record WholeDefaults (old : Option Defaults) (bytes : List ℕ) (x : InRow Defaults) : Type 0 where
  pub new : old ≡ None
  pub element : Parent Default
  pub says : SaysDefaults element x.0
  pub bytes_are : bytes ≡ defaults_bytes element ++ x.1

pub defaults_element_found : (place : List ℕ) (old : Option Defaults) (bytes : List ℕ) (x : InRow Defaults) → defaults_element place old bytes ≡ Ok x → WholeDefaults old bytes x
unfolding defaults_element defaults default_elements
defaults_element_found place (Some d) bytes x e = absurd cc
defaults_element_found place None bytes x e =
    let t = bind_ok (tag false bytes) defaults x e in
    let g = tag_found false bytes t.0 t.1 in
    let f = between_found default_bytes AddsDefault (codes "defaults") defaults_step defaults_done default_on no_defaults t.0 x t.2 in
    let inside : List ℕ = between_bytes default_bytes (codes "defaults") f.inside in
    record {
      new = refl;
      element = record { attrs = g.attrs; white = g.white; inside = f.inside };
      says = record { attrs = g.are; white = g.is_white; says = f.says };
      bytes_are = g.bytes_are
          ∙ after_tag_found g.attrs g.white t.0.rest inside x.1 t.0.is_empty (is_none f.inside) f.empty f.rest_is;
    }
