-- The element `action`, apart from any reading.
use Rattle.std.specs.Prelude.{◌≡◌, ℕ, true, false, List, [], ◌++◌, ◌∷◌, map, Some, None, codes}
use Rattle.pk_types.specs.ActionId.{id_fault_of}
use Rattle.xml_pieces.specs.Texts.{value_of}
use Rattle.xml_pieces.specs.Keyed.{has_key, set_key}
use Rattle.action_drafts.specs.declared.draft.Defaults.{Defaults}
use Rattle.action_drafts.specs.declared.draft.OriginPart.{OriginPart}
use Rattle.action_drafts.specs.declared.draft.OriginPart.TheVariants as part
use Rattle.action_drafts.specs.declared.draft.ActionDraft.{ActionDraft}
use Rattle.action_drafts.specs.Origins.{origin_of, with_origin}
use Rattle.action_drafts.specs.Actions.{lang_of, new_action}
use Rattle.action_xml.specs.TextForm.{IsWhite}
use Rattle.action_xml.specs.TagForm.{attr_pair, AreAttrs, AreFineIds}
use Rattle.action_xml.specs.GapForm.{Gap, gaps_bytes, AreGaps}
use Rattle.action_xml.specs.TextElementForm.{TextElement, text_of, attributes_of, IsTextElement}
use Rattle.action_xml.specs.RowForm.{Parent, parent_bytes, SaysAll, text_child_bytes}
use Rattle.action_xml.specs.DefaultsForm.{Default, SaysDefaults, defaults_bytes}

abbrev pub origin_name : OriginPart → List ℕ
origin_name part.Vendor = codes "vendor"
origin_name part.VendorUrl = codes "vendor_url"
origin_name part.Icon = codes "icon_name"

-- an element of an action, with what stands before it
pub data Part : Type 0 where
  OriginIs : (gaps : List Gap) → (which : OriginPart) → (element : TextElement) → Part
  Description : (gaps : List Gap) → (element : TextElement) → Part
  Message : (gaps : List Gap) → (element : TextElement) → Part
  DefaultsAre : (gaps : List Gap) → (element : Parent Default) → Part
  Annotate : (gaps : List Gap) → (element : TextElement) → Part

abbrev pub part_bytes : Part → List ℕ
part_bytes (OriginIs gaps which e) = text_child_bytes gaps (origin_name which) e
part_bytes (Description gaps e) = text_child_bytes gaps (codes "description") e
part_bytes (Message gaps e) = text_child_bytes gaps (codes "message") e
part_bytes (DefaultsAre gaps p) = gaps_bytes gaps ++ 60 ∷ (codes "defaults" ++ defaults_bytes p)
part_bytes (Annotate gaps e) = text_child_bytes gaps (codes "annotate") e

-- the language of a text
abbrev pub language : TextElement → List ℕ
language e = lang_of (attributes_of e)

-- Vendor, URL, icon and defaults stand once, a text once in each language; a key of an annotation that stands takes the new text.
abbrev pub AddsPart : ActionDraft → Part → ActionDraft → Type 0
AddsPart a (OriginIs gaps which e) more =
    AreGaps gaps × IsTextElement e × (origin_of which a.origin ≡ None) × (more ≡ record a { origin = with_origin which (text_of e) a.origin })
AddsPart a (Description gaps e) more =
    AreGaps gaps × IsTextElement e × (has_key (language e) a.descriptions ≡ false) × (more ≡ record a { descriptions = set_key (language e) (text_of e) a.descriptions })
AddsPart a (Message gaps e) more =
    AreGaps gaps × IsTextElement e × (has_key (language e) a.messages ≡ false) × (more ≡ record a { messages = set_key (language e) (text_of e) a.messages })
AddsPart a (DefaultsAre gaps p) more =
    AreGaps gaps × (a.defaults ≡ None) × ((d : Defaults) × SaysDefaults p d × (more ≡ record a { defaults = Some d }))
AddsPart a (Annotate gaps e) more =
    AreGaps gaps × IsTextElement e
    × ((key : List ℕ) × (value_of (codes "key") (attributes_of e) ≡ Some key) × (more ≡ record a { annotations = set_key key (text_of e) a.annotations }))

-- an action: its `id` is an action id, and its elements say all else
pub record SaysAction (p : Parent Part) (a : ActionDraft) : Type 0 where
  pub attrs : AreAttrs [] p.attrs
  pub ids : AreFineIds true p.attrs
  pub white : IsWhite p.white
  pub id : List ℕ
  pub id_is : value_of (codes "id") (map attr_pair p.attrs) ≡ Some id
  pub is_id : id_fault_of id ≡ None
  pub says : SaysAll AddsPart (new_action id) p.inside a

-- the bytes behind the name
abbrev pub action_bytes : Parent Part → List ℕ
action_bytes p = parent_bytes part_bytes (codes "action") p
