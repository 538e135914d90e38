-- Defaults that have the form are read again.
use Rattle.std.proofs.Common.{◌≡◌, ℕ, ◌<◌, List, ◌∷◌, ◌++◌, length, false, Some, None, Ok, refl, sym, ap, ◌∙◌, append_assoc}
use Rattle.std.specs.Prelude.{codes, is_none}
use Rattle.pk_types.specs.Values.{implicit_of_word}
use Rattle.pk_types.specs.declared.values.Implicit.{Implicit}
use Rattle.pk_types.specs.declared.values.Category.{Category}
use Rattle.pk_types.specs.declared.values.Category.TheVariants as category
use Rattle.xml_pieces.specs.Reading.{◌>>=◌, On, Done}
use Rattle.xml_pieces.specs.Texts.{tag}
use Rattle.xml_pieces.specs.Children.{End, next}
use Rattle.action_drafts.specs.declared.draft.Defaults.{Defaults}
use Rattle.action_drafts.specs.Elements.{goes_on}
use Rattle.keyfile_text.specs.Bytes.{trim}
use Rattle.action_drafts.specs.Defaults.{default_of, with_default, no_defaults, default_part, default_element, default_child, in_defaults, defaults_step, default_elements, defaults, defaults_element}
use Rattle.action_xml.specs.TextForm.{IsName}
use Rattle.action_xml.specs.TextElementForm.{TextElement, text_of, attributes_of, behind_name_bytes, IsTextElement}
use Rattle.action_xml.specs.RowForm.{Parent, between_bytes}
use Rattle.action_xml.specs.TagForm.{tag_bytes}
use Rattle.action_xml.specs.DefaultsForm.{Default, default_name, default_bytes, AddsDefault, SaysDefaults, defaults_bytes}
use Rattle.action_xml.proofs.TagsAgain.{tag_again, no_ids}
use Rattle.action_xml.proofs.TextElementsAgain.{element_tag_again, element_text_again}
use Rattle.action_xml.proofs.Rows.{text_child_next, child_long, between_again}

pub default_is_name : (which : Category) → IsName (default_name which)
default_is_name category.Any = (refl, (refl, (refl, (refl, (refl, (refl, (refl, (refl, (refl, tt)))))))))
default_is_name category.Inactive = (refl, (refl, (refl, (refl, (refl, (refl, (refl, (refl, (refl, (refl, (refl, (refl, (refl, (refl, tt))))))))))))))
default_is_name category.Active = (refl, (refl, (refl, (refl, (refl, (refl, (refl, (refl, (refl, (refl, (refl, (refl, tt))))))))))))

pub part_of_name : (which : Category) → default_part (default_name which) ≡ Some which
part_of_name category.Any = refl
part_of_name category.Inactive = refl
part_of_name category.Active = refl

-- one default behind its name
default_element_again : (which : Category) (name place rest : List ℕ) (d : Defaults) (e : TextElement) (v : Implicit) → IsName name → IsTextElement e → default_of which d ≡ None
    → implicit_of_word (trim (text_of e)) ≡ Some v → default_element which name place d (behind_name_bytes name e ++ rest) ≡ Ok (with_default which v d, rest)
unfolding default_element
default_element_again which name place rest d e v is_name is new word =
    rw (new, element_tag_again name rest e is, element_text_again name place rest e.end_white (attributes_of e) e.inside is_name is.white.1 is.inside, word) refl

default_again : (d more : Defaults) (x : Default) (rest : List ℕ) → AddsDefault d x more → defaults_step (d, default_bytes x ++ rest) ≡ Ok (On (more, rest))
unfolding defaults_step
default_again d more x rest adds =
    let name : List ℕ = default_name x.which in
    let behind : List ℕ = behind_name_bytes name x.element ++ rest in
    let place : List ℕ = 60 ∷ (name ++ behind) in
    ap (λ r. r >>= in_defaults d) (text_child_next (codes "defaults") name rest x.gaps x.element adds.gaps (default_is_name x.which) adds.element)
    ∙ ap (default_child d name place behind) (part_of_name x.which)
    ∙ ap goes_on (default_element_again x.which name place rest d x.element adds.value (default_is_name x.which) adds.element adds.new adds.word)
    ∙ ap (λ m. Ok (On (m, rest))) (sym adds.adds)

defaults_end : (d : Defaults) (bytes rest : List ℕ) → next (codes "defaults") bytes ≡ Ok (End rest) → defaults_step (d, bytes) ≡ Ok (Done (d, rest))
unfolding defaults_step
defaults_end d bytes rest e = ap (λ r. r >>= in_defaults d) e

default_long : (x : Default) → 0 < length (default_bytes x)
default_long x = child_long x.gaps (default_name x.which ++ behind_name_bytes (default_name x.which) x.element)

pub defaults_name : IsName (codes "defaults")
defaults_name = (refl, (refl, (refl, (refl, (refl, (refl, (refl, (refl, tt))))))))

-- the whole element behind its name
pub defaults_element_again : (place rest : List ℕ) (p : Parent Default) (d : Defaults) → SaysDefaults p d → defaults_element place None (defaults_bytes p ++ rest) ≡ Ok (d, rest)
unfolding defaults_element defaults default_elements
defaults_element_again place rest p d says =
    let inside : List ℕ = between_bytes default_bytes (codes "defaults") p.inside in
    let split : defaults_bytes p ++ rest ≡ tag_bytes p.attrs p.white (is_none p.inside) ++ (inside ++ rest) = append_assoc (tag_bytes p.attrs p.white (is_none p.inside)) inside rest in
    ap (λ b. tag false b >>= defaults) split
    ∙ ap (λ r. r >>= defaults) (tag_again false p.attrs p.white (is_none p.inside) (inside ++ rest) says.attrs (no_ids p.attrs) says.white)
    ∙ between_again default_bytes AddsDefault (codes "defaults") defaults_step default_again default_long defaults_end defaults_name no_defaults d p.inside rest says.says
