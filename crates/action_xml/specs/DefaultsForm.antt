-- The element `defaults`, apart from any reading.
use Rattle.std.specs.Prelude.{◌≡◌, ℕ, List, [], Some, None, codes}
use Rattle.pk_types.specs.Values.{implicit_of_word}
use Rattle.pk_types.specs.declared.values.Implicit.{Implicit}
use Rattle.pk_types.specs.declared.values.Category.{Category}
use Rattle.pk_types.specs.declared.values.Category.TheVariants as category
use Rattle.action_drafts.specs.declared.draft.Defaults.{Defaults}
use Rattle.keyfile_text.specs.Bytes.{trim}
use Rattle.action_drafts.specs.Defaults.{default_of, with_default, no_defaults}
use Rattle.action_xml.specs.TagForm.{AreAttrs}
use Rattle.action_xml.specs.TextForm.{IsWhite}
use Rattle.action_xml.specs.GapForm.{Gap, AreGaps}
use Rattle.action_xml.specs.TextElementForm.{TextElement, text_of, IsTextElement}
use Rattle.action_xml.specs.RowForm.{Parent, parent_bytes, SaysAll, text_child_bytes}

-- `allow_any`, `allow_inactive` or `allow_active`, with what stands before it
pub record Default : Type 0 where
  pub gaps : List Gap
  pub which : Category
  pub element : TextElement

abbrev pub default_name : Category → List ℕ
default_name category.Any = codes "allow_any"
default_name category.Inactive = codes "allow_inactive"
default_name category.Active = codes "allow_active"

abbrev pub default_bytes : Default → List ℕ
default_bytes x = text_child_bytes x.gaps (default_name x.which) x.element

-- a default stands once, and its text is one of the six words
pub record AddsDefault (d : Defaults) (x : Default) (more : Defaults) : Type 0 where
  pub gaps : AreGaps x.gaps
  pub element : IsTextElement x.element
  pub new : default_of x.which d ≡ None
  pub value : Implicit
  pub word : implicit_of_word (trim (text_of x.element)) ≡ Some value
  pub adds : more ≡ with_default x.which value d

-- the whole element says these defaults
pub record SaysDefaults (p : Parent Default) (d : Defaults) : Type 0 where
  pub attrs : AreAttrs [] p.attrs
  pub white : IsWhite p.white
  pub says : SaysAll AddsDefault no_defaults p.inside d

-- the bytes behind the name
abbrev pub defaults_bytes : Parent Default → List ℕ
defaults_bytes p = parent_bytes default_bytes (codes "defaults") p
