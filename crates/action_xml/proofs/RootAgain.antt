-- A root element that has the form is read again.
use Rattle.std.proofs.Common.{◌≡◌, ℕ, ◌<◌, List, [], ◌∷◌, ◌++◌, length, false, Ok, refl, sym, ap, ◌∙◌, append_assoc}
use Rattle.std.specs.Prelude.{codes, is_none, if◌then◌else◌, bytes_eq}
use Rattle.xml_pieces.specs.declared.fault.XmlFaultKind.TheVariants as kind
use Rattle.xml_pieces.specs.Reading.{◌>>=◌, fault_at, On, Done}
use Rattle.xml_pieces.specs.Bytes.{name}
use Rattle.xml_pieces.specs.Texts.{tag}
use Rattle.xml_pieces.specs.Children.{End, next}
use Rattle.action_drafts.specs.declared.draft.FileDraft.{FileDraft}
use Rattle.action_drafts.specs.Documents.{file_child, in_file, file_step, no_actions, file_elements, in_root, root}
use Rattle.action_xml.specs.TextForm.{IsName}
use Rattle.action_xml.specs.TagForm.{tag_bytes}
use Rattle.action_xml.specs.TextElementForm.{behind_name_bytes}
use Rattle.action_xml.specs.RowForm.{Parent, between_bytes, parent_bytes}
use Rattle.action_xml.specs.ActionForm.{origin_name, part_bytes, action_bytes}
use Rattle.action_xml.specs.RootForm.{FilePart, FileOriginIs, ActionIs, file_part_bytes, AddsFilePart, SaysRoot, root_bytes}
use Rattle.action_xml.proofs.TextsAgain.{name_again}
use Rattle.action_xml.proofs.TagsAgain.{tag_again, no_ids}
use Rattle.action_xml.proofs.Rows.{NoName, parent_no_name, text_child_next, child_next, child_split, child_long, between_again}
use Rattle.action_xml.proofs.ActionsAgain.{origin_is_name, origin_of_name, action_name, origin_element_again, action_again}

pub root_name : IsName (codes "policyconfig")
root_name = (refl, (refl, (refl, (refl, (refl, (refl, (refl, (refl, (refl, (refl, (refl, (refl, tt))))))))))))

file_part_again : (f more : FileDraft) (x : FilePart) (rest : List ℕ) → AddsFilePart f x more → file_step (f, file_part_bytes x ++ rest) ≡ Ok (On (more, rest))
unfolding file_step
file_part_again f more (FileOriginIs gaps which e) rest adds =
    let name : List ℕ = origin_name which in
    let behind : List ℕ = behind_name_bytes name e ++ rest in
    let place : List ℕ = 60 ∷ (name ++ behind) in
    ap (λ r. r >>= in_file f) (text_child_next (codes "policyconfig") name rest gaps e adds.0 (origin_is_name which) adds.1)
    ∙ ap (file_child f name place behind) (origin_of_name which)
    ∙ ap (λ r. r >>= λ x. Ok (On (record f { origin = x.0 }, x.1))) (origin_element_again which name place rest f.origin e (origin_is_name which) adds.1 adds.2)
    ∙ ap (λ m. Ok (On (m, rest))) (sym adds.3)
file_part_again f more (ActionIs gaps p) rest adds =
    let a = adds.1 in
    let behind : List ℕ = action_bytes p ++ rest in
    let place : List ℕ = 60 ∷ (codes "action" ++ behind) in
    let none : NoName behind = parent_no_name part_bytes (codes "action") p rest a.1.attrs a.1.white in
    ap (λ b. next (codes "policyconfig") b >>= in_file f) (child_split gaps (codes "action") (action_bytes p) rest)
    ∙ ap (λ r. r >>= in_file f) (child_next (codes "policyconfig") (codes "action") behind gaps adds.0 action_name none)
    ∙ ap (λ r. r >>= λ x. Ok (On (record f { actions = f.actions ++ x.0 ∷ [] }, x.1))) (action_again place rest p a.0 a.1)
    ∙ ap (λ m. Ok (On (m, rest))) (sym a.2)

file_part_long : (x : FilePart) → 0 < length (file_part_bytes x)
file_part_long (FileOriginIs gaps which e) = child_long gaps (origin_name which ++ behind_name_bytes (origin_name which) e)
file_part_long (ActionIs gaps p) = child_long gaps (codes "action" ++ action_bytes p)

file_end : (f : FileDraft) (bytes rest : List ℕ) → next (codes "policyconfig") bytes ≡ Ok (End rest) → file_step (f, bytes) ≡ Ok (Done (f, rest))
unfolding file_step
file_end f bytes rest e = ap (λ r. r >>= in_file f) e

-- the whole root
pub root_again : (rest : List ℕ) (p : Parent FilePart) (f : FileDraft) → SaysRoot p f → root (root_bytes p ++ rest) ≡ Ok (f, rest)
unfolding root in_root file_elements
root_again rest p f says =
    let inside : List ℕ = between_bytes file_part_bytes (codes "policyconfig") p.inside in
    let behind : List ℕ = parent_bytes file_part_bytes (codes "policyconfig") p ++ rest in
    let here : List ℕ = 60 ∷ (codes "policyconfig" ++ behind) in
    let none : NoName behind = parent_no_name file_part_bytes (codes "policyconfig") p rest says.attrs says.white in
    let named : name here (codes "policyconfig" ++ behind) ≡ Ok (codes "policyconfig", behind) =
    ap (λ r. name here (codes "policyconfig" ++ r)) none.bytes_are ∙ name_again here (codes "policyconfig") none.first none.more root_name none.other ∙ ap (λ r. Ok (codes "policyconfig", r)) (sym none.bytes_are) in
    let split : behind ≡ tag_bytes p.attrs p.white (is_none p.inside) ++ (inside ++ rest) = append_assoc (tag_bytes p.attrs p.white (is_none p.inside)) inside rest in
    ap (λ r. r >>= λ n. if bytes_eq n.0 (codes "policyconfig") then (tag false n.1 >>= in_root) else fault_at kind.Element here) named
    ∙ ap (λ b. tag false b >>= in_root) split
    ∙ ap (λ r. r >>= in_root) (tag_again false p.attrs p.white (is_none p.inside) (inside ++ rest) says.attrs (no_ids p.attrs) says.white)
    ∙ between_again file_part_bytes AddsFilePart (codes "policyconfig") file_step file_part_again file_part_long file_end root_name no_actions f p.inside rest says.says
