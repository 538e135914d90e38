-- The root element, apart from any reading.
use Rattle.std.specs.Prelude.{◌≡◌, ℕ, List, [], ◌++◌, ◌∷◌, None, codes}
use Rattle.action_drafts.specs.declared.draft.OriginPart.{OriginPart}
use Rattle.action_drafts.specs.declared.draft.ActionDraft.{ActionDraft}
use Rattle.action_drafts.specs.declared.draft.FileDraft.{FileDraft}
use Rattle.action_drafts.specs.Origins.{origin_of, with_origin}
use Rattle.action_drafts.specs.Documents.{no_actions}
use Rattle.action_xml.specs.TextForm.{IsWhite}
use Rattle.action_xml.specs.TagForm.{AreAttrs}
use Rattle.action_xml.specs.GapForm.{Gap, gaps_bytes, AreGaps}
use Rattle.action_xml.specs.TextElementForm.{TextElement, text_of, IsTextElement}
use Rattle.action_xml.specs.RowForm.{Parent, parent_bytes, SaysAll, text_child_bytes}
use Rattle.action_xml.specs.ActionForm.{origin_name, Part, SaysAction, action_bytes}

-- an element of the root, with what stands before it
pub data FilePart : Type 0 where
  FileOriginIs : (gaps : List Gap) → (which : OriginPart) → (element : TextElement) → FilePart
  ActionIs : (gaps : List Gap) → (element : Parent Part) → FilePart

abbrev pub file_part_bytes : FilePart → List ℕ
file_part_bytes (FileOriginIs gaps which e) = text_child_bytes gaps (origin_name which) e
file_part_bytes (ActionIs gaps p) = gaps_bytes gaps ++ 60 ∷ (codes "action" ++ action_bytes p)

-- vendor, URL and icon stand once; an action comes last
abbrev pub AddsFilePart : FileDraft → FilePart → FileDraft → Type 0
AddsFilePart f (FileOriginIs gaps which e) more =
    AreGaps gaps × IsTextElement e × (origin_of which f.origin ≡ None) × (more ≡ record f { origin = with_origin which (text_of e) f.origin })
AddsFilePart f (ActionIs gaps p) more = AreGaps gaps × ((a : ActionDraft) × SaysAction p a × (more ≡ record f { actions = f.actions ++ a ∷ [] }))

pub record SaysRoot (p : Parent FilePart) (f : FileDraft) : Type 0 where
  pub attrs : AreAttrs [] p.attrs
  pub white : IsWhite p.white
  pub says : SaysAll AddsFilePart no_actions p.inside f

abbrev pub root_bytes : Parent FilePart → List ℕ
root_bytes p = 60 ∷ (codes "policyconfig" ++ parent_bytes file_part_bytes (codes "policyconfig") p)
