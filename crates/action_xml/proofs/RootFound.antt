-- A root element that is read has the form.
use Rattle.std.proofs.Common.{◌≡◌, ℕ, List, [], ◌∷◌, ◌++◌, Bool, true, false, Option, Some, None, Ok, refl, sym, ap, ◌∙◌, subst, Result}
use Rattle.std.specs.Prelude.{codes, is_none, if◌then◌else◌, bytes_eq}
use Rattle.std.proofs.lemmas.Slice.Eq.{bytes_eq-Decides}
use Rattle.xml_pieces.specs.declared.fault.Fault.{Fault}
use Rattle.xml_pieces.specs.declared.fault.XmlFaultKind.TheVariants as kind
use Rattle.xml_pieces.specs.Reading.{◌>>=◌, fault_at, On, Done, Step}
use Rattle.xml_pieces.specs.Bytes.{name}
use Rattle.xml_pieces.specs.Texts.{tag}
use Rattle.xml_pieces.specs.Children.{Next, Child, End, next}
use Rattle.action_drafts.specs.declared.draft.OriginPart.{OriginPart}
use Rattle.action_drafts.specs.declared.draft.FileDraft.{FileDraft}
use Rattle.action_drafts.specs.Origins.{origin_part, origin_element}
use Rattle.action_drafts.specs.Actions.{action}
use Rattle.action_drafts.specs.Documents.{InFile, file_child, in_file, file_step, no_actions, file_elements, in_root, root}
use Rattle.action_xml.specs.GapForm.{Gap, gaps_bytes, AreGaps}
use Rattle.action_xml.specs.TextElementForm.{behind_name_bytes}
use Rattle.action_xml.specs.RowForm.{Parent, between_bytes, parent_bytes}
use Rattle.action_xml.specs.ActionForm.{origin_name, action_bytes}
use Rattle.action_xml.specs.RootForm.{FilePart, FileOriginIs, ActionIs, file_part_bytes, AddsFilePart, SaysRoot, root_bytes}
use Rattle.action_xml.proofs.Steps.{not_on, not_done, on_same, done_same}
use Rattle.action_xml.proofs.TextsFound.{bind_ok}
use Rattle.action_xml.proofs.TagsFound.{tag_found, after_tag_found}
use Rattle.action_xml.proofs.AttributesFound.{name_form}
use Rattle.action_xml.proofs.NextFound.{next_found}
use Rattle.action_xml.proofs.Rows.{RowEnd, end_found_next, OneElement, between_found}
use Rattle.action_xml.proofs.ActionsFound.{name_of_origin, origin_found, named_child, action_found}

abbrev on : InFile → Result (Step InFile InFile) Fault
on s = Ok (On s)

-- an element of the root
file_part_child : (f : FileDraft) (bytes n place rest : List ℕ) (gaps : List Gap) (s : InFile) → AreGaps gaps → bytes ≡ gaps_bytes gaps ++ 60 ∷ (n ++ rest) → (o : Option OriginPart) → origin_part n ≡ o
    → file_child f n place rest o ≡ Ok (On s) → OneElement file_part_bytes AddsFilePart f bytes s
file_part_child f bytes n place rest gaps s are split (Some which) is e =
    let r = bind_ok (origin_element which n place f.origin rest) (λ x. on (record f { origin = x.0 }, x.1)) (On s) e in
    let g = origin_found which n place f.origin rest r.0 r.1 in
    let name : n ≡ origin_name which = name_of_origin n which is in
    let same : (record f { origin = r.0.0 }, r.0.1) ≡ s = on_same (record f { origin = r.0.0 }, r.0.1) s r.2 in
    let rest_is : rest ≡ behind_name_bytes (origin_name which) g.element ++ r.0.1 = g.bytes_are ∙ ap (λ m. behind_name_bytes m g.element ++ r.0.1) name in
    subst (OneElement file_part_bytes AddsFilePart f bytes) same (record {
      element = FileOriginIs gaps which g.element;
      adds = (are, g.is, g.new, ap (λ o. record f { origin = o }) g.adds);
      bytes_are = named_child gaps n (origin_name which) (behind_name_bytes (origin_name which) g.element) rest bytes r.0.1 split name rest_is;
    })
file_part_child f bytes n place rest gaps s are split None is e = of (bytes_eq n (codes "action")) refl e
  where
    of : (t : Bool) → bytes_eq n (codes "action") ≡ t
        → (if t then (action place rest >>= λ x. on (record f { actions = f.actions ++ x.0 ∷ [] }, x.1)) else fault_at kind.Element place) ≡ Ok (On s) → OneElement file_part_bytes AddsFilePart f bytes s
    of true p e =
        let x = bind_ok (action place rest) (λ x. on (record f { actions = f.actions ++ x.0 ∷ [] }, x.1)) (On s) e in
        let g = action_found place rest x.0 x.1 in
        let same : (record f { actions = f.actions ++ x.0.0 ∷ [] }, x.0.1) ≡ s = on_same (record f { actions = f.actions ++ x.0.0 ∷ [] }, x.0.1) s x.2 in
        subst (OneElement file_part_bytes AddsFilePart f bytes) same (record {
          element = ActionIs gaps g.element;
          adds = (are, (x.0.0, g.says, refl));
          bytes_are = named_child gaps n (codes "action") (action_bytes g.element) rest bytes x.0.1 split ((bytes_eq-Decides n (codes "action")).0 p) g.bytes_are;
        })
    of false p e = absurd cc

file_part_on : (f : FileDraft) (bytes : List ℕ) (s : InFile) → file_step (f, bytes) ≡ Ok (On s) → OneElement file_part_bytes AddsFilePart f bytes s
unfolding file_step
file_part_on f bytes s e = let b = bind_ok (next (codes "policyconfig") bytes) (in_file f) (On s) e in of b.0 b.1 b.2
  where
    of : (x : Next) → next (codes "policyconfig") bytes ≡ Ok x → in_file f x ≡ Ok (On s) → OneElement file_part_bytes AddsFilePart f bytes s
    of (End rest) is e = absurd (not_on (f, rest) s e)
    of (Child n place rest) is e =
        let g = next_found (codes "policyconfig") bytes (Child n place rest) is in
        file_part_child f bytes n place rest g.gaps s g.are (g.bytes_are ∙ ap (λ r. gaps_bytes g.gaps ++ r) g.is.2) (origin_part n) refl e

file_child_goes_on : (f : FileDraft) (n place rest : List ℕ) (x : InFile) (o : Option OriginPart) → file_child f n place rest o ≡ Ok (Done x) → ⊥
file_child_goes_on f n place rest x (Some which) e =
    let r = bind_ok (origin_element which n place f.origin rest) (λ x. on (record f { origin = x.0 }, x.1)) (Done x) e in not_done x (record f { origin = r.0.0 }, r.0.1) r.2
file_child_goes_on f n place rest x None e = of (bytes_eq n (codes "action")) e
  where
    of : (t : Bool) → (if t then (action place rest >>= λ x. on (record f { actions = f.actions ++ x.0 ∷ [] }, x.1)) else fault_at kind.Element place) ≡ Ok (Done x) → ⊥
    of true e = let r = bind_ok (action place rest) (λ x. on (record f { actions = f.actions ++ x.0 ∷ [] }, x.1)) (Done x) e in not_done x (record f { actions = f.actions ++ r.0.0 ∷ [] }, r.0.1) r.2
    of false e = cc

file_done : (f : FileDraft) (bytes : List ℕ) (x : InFile) → file_step (f, bytes) ≡ Ok (Done x) → (x.0 ≡ f) × RowEnd (codes "policyconfig") bytes x.1
unfolding file_step
file_done f bytes x e = let b = bind_ok (next (codes "policyconfig") bytes) (in_file f) (Done x) e in of b.0 b.1 b.2
  where
    of : (y : Next) → next (codes "policyconfig") bytes ≡ Ok y → in_file f y ≡ Ok (Done x) → (x.0 ≡ f) × RowEnd (codes "policyconfig") bytes x.1
    of (End rest) is e =
        let same : (f, rest) ≡ x = done_same (f, rest) x e in
        (sym (ap (λ (y : InFile). y.0) same), end_found_next (codes "policyconfig") bytes x.1 (is ∙ ap (λ (y : InFile). Ok (End y.1)) same))
    of (Child n place rest) is e = absurd (file_child_goes_on f n place rest x (origin_part n) e)

pub record WholeRoot (here : List ℕ) (x : InFile) : Type 0 where
  pub element : Parent FilePart
  pub says : SaysRoot element x.0
  pub bytes_are : here ≡ root_bytes element ++ x.1

pub root_found : (bytes : List ℕ) (x : InFile) → root (60 ∷ bytes) ≡ Ok x → WholeRoot (60 ∷ bytes) x
unfolding root in_root file_elements
root_found bytes x e =
    let here : List ℕ = 60 ∷ bytes in
    let n = bind_ok (name here bytes) (λ n. if bytes_eq n.0 (codes "policyconfig") then (tag false n.1 >>= in_root) else fault_at kind.Element here) x e in
    let m = name_form here bytes n.0 n.1 in
    of n.0.0 n.0.1 m.bytes_are (bytes_eq n.0.0 (codes "policyconfig")) refl n.2
  where
    of : (n rest : List ℕ) → bytes ≡ n ++ rest → (t : Bool) → bytes_eq n (codes "policyconfig") ≡ t → (if t then (tag false rest >>= in_root) else fault_at kind.Element (60 ∷ bytes)) ≡ Ok x → WholeRoot (60 ∷ bytes) x
    of n rest split true is e =
        let t = bind_ok (tag false rest) in_root x e in
        let g = tag_found false rest t.0 t.1 in
        let f = between_found file_part_bytes AddsFilePart (codes "policyconfig") file_step file_done file_part_on no_actions t.0 x t.2 in
        let inside : List ℕ = between_bytes file_part_bytes (codes "policyconfig") f.inside in
        let p : Parent FilePart = record { attrs = g.attrs; white = g.white; inside = f.inside } in
        let named : n ≡ codes "policyconfig" = (bytes_eq-Decides n (codes "policyconfig")).0 is in
        let rest_is : rest ≡ parent_bytes file_part_bytes (codes "policyconfig") p ++ x.1 = g.bytes_are
        ∙ after_tag_found g.attrs g.white t.0.rest inside x.1 t.0.is_empty (is_none f.inside) f.empty f.rest_is in
        record {
          element = p;
          says = record { attrs = g.are; white = g.is_white; says = f.says };
          bytes_are = ap (λ r. 60 ∷ r) (split ∙ ap (λ m. m ++ rest) named ∙ ap (λ r. codes "policyconfig" ++ r) rest_is);
        }
    of n rest split false is e = absurd cc
