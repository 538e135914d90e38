-- An action that has the form is read again.
use Rattle.std.proofs.Common.{◌≡◌, ℕ, ◌<◌, List, ◌∷◌, ◌++◌, length, true, false, Some, None, Ok, refl, sym, ap, ◌∙◌, append_assoc}
use Rattle.std.specs.Prelude.{codes, is_none}
use Rattle.pk_types.specs.declared.values.Pair.{Pair}
use Rattle.xml_pieces.specs.Reading.{◌>>=◌, On, Done}
use Rattle.xml_pieces.specs.Texts.{value_of}
use Rattle.xml_pieces.specs.Keyed.{has_key, set_key}
use Rattle.xml_pieces.specs.Children.{End, next}
use Rattle.action_drafts.specs.declared.draft.Origin.{Origin}
use Rattle.action_drafts.specs.declared.draft.OriginPart.{OriginPart}
use Rattle.action_drafts.specs.declared.draft.OriginPart.TheVariants as part
use Rattle.action_drafts.specs.declared.draft.ActionDraft.{ActionDraft}
use Rattle.action_drafts.specs.Origins.{origin_part, origin_of, with_origin, origin_element}
use Rattle.action_drafts.specs.Defaults.{defaults_element}
use Rattle.action_drafts.specs.Actions.{localized, annotation, origin_child, action_child, in_action, action_step, new_action, action_elements, in_tag, action}
use Rattle.action_xml.specs.TextForm.{IsName}
use Rattle.action_xml.specs.TagForm.{tag_bytes}
use Rattle.action_xml.specs.TextElementForm.{TextElement, text_of, attributes_of, behind_name_bytes, IsTextElement}
use Rattle.action_xml.specs.RowForm.{Parent, between_bytes}
use Rattle.action_xml.specs.DefaultsForm.{default_bytes, defaults_bytes}
use Rattle.action_xml.specs.ActionForm.{origin_name, Part, OriginIs, Description, Message, DefaultsAre, Annotate, part_bytes, language, AddsPart, SaysAction, action_bytes}
use Rattle.action_xml.proofs.TagsAgain.{tag_again}
use Rattle.action_xml.proofs.TextElementsAgain.{element_tag_again, element_text_again}
use Rattle.action_xml.proofs.Rows.{NoName, parent_no_name, text_child_next, child_next, child_split, child_long, between_again}
use Rattle.action_xml.proofs.DefaultsAgain.{defaults_name, defaults_element_again}

pub origin_is_name : (which : OriginPart) → IsName (origin_name which)
origin_is_name part.Vendor = (refl, (refl, (refl, (refl, (refl, (refl, tt))))))
origin_is_name part.VendorUrl = (refl, (refl, (refl, (refl, (refl, (refl, (refl, (refl, (refl, (refl, tt))))))))))
origin_is_name part.Icon = (refl, (refl, (refl, (refl, (refl, (refl, (refl, (refl, (refl, tt)))))))))

pub origin_of_name : (which : OriginPart) → origin_part (origin_name which) ≡ Some which
origin_of_name part.Vendor = refl
origin_of_name part.VendorUrl = refl
origin_of_name part.Icon = refl

description_name : IsName (codes "description")
description_name = (refl, (refl, (refl, (refl, (refl, (refl, (refl, (refl, (refl, (refl, (refl, tt)))))))))))

message_name : IsName (codes "message")
message_name = (refl, (refl, (refl, (refl, (refl, (refl, (refl, tt)))))))

annotate_name : IsName (codes "annotate")
annotate_name = (refl, (refl, (refl, (refl, (refl, (refl, (refl, (refl, tt))))))))

pub action_name : IsName (codes "action")
action_name = (refl, (refl, (refl, (refl, (refl, (refl, tt))))))

-- one element with a text behind its name
pub origin_element_again : (which : OriginPart) (name place rest : List ℕ) (o : Origin) (e : TextElement) → IsName name → IsTextElement e → origin_of which o ≡ None
    → origin_element which name place o (behind_name_bytes name e ++ rest) ≡ Ok (with_origin which (text_of e) o, rest)
unfolding origin_element
origin_element_again which name place rest o e is_name is new =
    rw (new, element_tag_again name rest e is, element_text_again name place rest e.end_white (attributes_of e) e.inside is_name is.white.1 is.inside) refl

localized_again : (name place rest : List ℕ) (texts : List Pair) (e : TextElement) → IsName name → IsTextElement e → has_key (language e) texts ≡ false
    → localized name place texts (behind_name_bytes name e ++ rest) ≡ Ok (set_key (language e) (text_of e) texts, rest)
unfolding localized
localized_again name place rest texts e is_name is new =
    rw (element_tag_again name rest e is, new, element_text_again name place rest e.end_white (attributes_of e) e.inside is_name is.white.1 is.inside) refl

annotation_again : (place rest key : List ℕ) (pairs : List Pair) (e : TextElement) → IsTextElement e → value_of (codes "key") (attributes_of e) ≡ Some key
    → annotation place pairs (behind_name_bytes (codes "annotate") e ++ rest) ≡ Ok (set_key key (text_of e) pairs, rest)
unfolding annotation
annotation_again place rest key pairs e is has =
    rw (element_tag_again (codes "annotate") rest e is, has, element_text_again (codes "annotate") place rest e.end_white (attributes_of e) e.inside annotate_name is.white.1 is.inside) refl

-- an element of an action is one step
part_again : (a more : ActionDraft) (x : Part) (rest : List ℕ) → AddsPart a x more → action_step (a, part_bytes x ++ rest) ≡ Ok (On (more, rest))
unfolding action_step
part_again a more (OriginIs gaps which e) rest adds =
    let name : List ℕ = origin_name which in
    let behind : List ℕ = behind_name_bytes name e ++ rest in
    let place : List ℕ = 60 ∷ (name ++ behind) in
    ap (λ r. r >>= in_action a) (text_child_next (codes "action") name rest gaps e adds.0 (origin_is_name which) adds.1)
    ∙ ap (action_child a name place behind) (origin_of_name which)
    ∙ ap (origin_child a) (origin_element_again which name place rest a.origin e (origin_is_name which) adds.1 adds.2)
    ∙ ap (λ m. Ok (On (m, rest))) (sym adds.3)
part_again a more (Description gaps e) rest adds =
    let behind : List ℕ = behind_name_bytes (codes "description") e ++ rest in
    ap (λ r. r >>= in_action a) (text_child_next (codes "action") (codes "description") rest gaps e adds.0 description_name adds.1)
    ∙ ap (λ r. r >>= λ x. Ok (On (record a { descriptions = x.0 }, x.1))) (localized_again (codes "description") (60 ∷ (codes "description" ++ behind)) rest a.descriptions e description_name adds.1 adds.2)
    ∙ ap (λ m. Ok (On (m, rest))) (sym adds.3)
part_again a more (Message gaps e) rest adds =
    let behind : List ℕ = behind_name_bytes (codes "message") e ++ rest in
    ap (λ r. r >>= in_action a) (text_child_next (codes "action") (codes "message") rest gaps e adds.0 message_name adds.1)
    ∙ ap (λ r. r >>= λ x. Ok (On (record a { messages = x.0 }, x.1))) (localized_again (codes "message") (60 ∷ (codes "message" ++ behind)) rest a.messages e message_name adds.1 adds.2)
    ∙ ap (λ m. Ok (On (m, rest))) (sym adds.3)
part_again a more (DefaultsAre gaps p) rest adds =
    let d = adds.2 in
    let behind : List ℕ = defaults_bytes p ++ rest in
    let place : List ℕ = 60 ∷ (codes "defaults" ++ behind) in
    let none : NoName behind = parent_no_name default_bytes (codes "defaults") p rest d.1.attrs d.1.white in
    ap (λ b. next (codes "action") b >>= in_action a) (child_split gaps (codes "defaults") (defaults_bytes p) rest)
    ∙ ap (λ r. r >>= in_action a) (child_next (codes "action") (codes "defaults") behind gaps adds.0 defaults_name none)
    ∙ ap (λ o. defaults_element place o behind >>= λ x. Ok (On (record a { defaults = Some x.0 }, x.1))) adds.1
    ∙ ap (λ r. r >>= λ x. Ok (On (record a { defaults = Some x.0 }, x.1))) (defaults_element_again place rest p d.0 d.1)
    ∙ ap (λ m. Ok (On (m, rest))) (sym d.2)
part_again a more (Annotate gaps e) rest adds =
    let k = adds.2 in
    let behind : List ℕ = behind_name_bytes (codes "annotate") e ++ rest in
    ap (λ r. r >>= in_action a) (text_child_next (codes "action") (codes "annotate") rest gaps e adds.0 annotate_name adds.1)
    ∙ ap (λ r. r >>= λ x. Ok (On (record a { annotations = x.0 }, x.1))) (annotation_again (60 ∷ (codes "annotate" ++ behind)) rest k.0 a.annotations e adds.1 k.1)
    ∙ ap (λ m. Ok (On (m, rest))) (sym k.2)

part_long : (x : Part) → 0 < length (part_bytes x)
part_long (OriginIs gaps which e) = child_long gaps (origin_name which ++ behind_name_bytes (origin_name which) e)
part_long (Description gaps e) = child_long gaps (codes "description" ++ behind_name_bytes (codes "description") e)
part_long (Message gaps e) = child_long gaps (codes "message" ++ behind_name_bytes (codes "message") e)
part_long (DefaultsAre gaps p) = child_long gaps (codes "defaults" ++ defaults_bytes p)
part_long (Annotate gaps e) = child_long gaps (codes "annotate" ++ behind_name_bytes (codes "annotate") e)

action_end : (a : ActionDraft) (bytes rest : List ℕ) → next (codes "action") bytes ≡ Ok (End rest) → action_step (a, bytes) ≡ Ok (Done (a, rest))
unfolding action_step
action_end a bytes rest e = ap (λ r. r >>= in_action a) e

-- a whole action behind its name
pub action_again : (place rest : List ℕ) (p : Parent Part) (a : ActionDraft) → SaysAction p a → action place (action_bytes p ++ rest) ≡ Ok (a, rest)
unfolding action in_tag action_elements
action_again place rest p a says =
    let inside : List ℕ = between_bytes part_bytes (codes "action") p.inside in
    let split : action_bytes p ++ rest ≡ tag_bytes p.attrs p.white (is_none p.inside) ++ (inside ++ rest) = append_assoc (tag_bytes p.attrs p.white (is_none p.inside)) inside rest in
    rw (split, tag_again true p.attrs p.white (is_none p.inside) (inside ++ rest) says.attrs says.ids says.white, says.id_is, says.is_id) (between_again part_bytes AddsPart (codes "action") action_step part_again part_long action_end action_name (new_action says.id) a p.inside rest says.says)
