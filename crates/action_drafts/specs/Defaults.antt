-- The element `defaults`: a value for each category.
use Rattle.std.specs.Prelude.{ℕ, false, if◌then◌else◌, List, length, Option, Some, None, is_some, codes, bytes_eq, Result, Ok}
use Rattle.xml_pieces.specs.declared.fault.Fault.{Fault}
use Rattle.xml_pieces.specs.declared.fault.XmlFaultKind.TheVariants as kind
use Rattle.xml_pieces.specs.Reading.{◌>>=◌, fault_at, Step, Done, steps}
use Rattle.xml_pieces.specs.Texts.{Tag, tag, text}
use Rattle.xml_pieces.specs.Children.{Next, Child, End, next}
use Rattle.pk_types.specs.Values.{implicit_of_word}
use Rattle.keyfile_text.specs.Bytes.{trim}
use Rattle.pk_types.specs.declared.values.Implicit.{Implicit}
use Rattle.pk_types.specs.declared.values.Category.{Category}
use Rattle.pk_types.specs.declared.values.Category.TheVariants as category
use Rattle.action_drafts.specs.declared.draft.Defaults.{Defaults}
use Rattle.action_drafts.specs.Elements.{goes_on}

-- the defaults
abbrev pub default_part : List ℕ → Option Category
default_part name =
    if bytes_eq name (codes "allow_any") then Some category.Any
    else (if bytes_eq name (codes "allow_inactive") then Some category.Inactive
    else (if bytes_eq name (codes "allow_active") then Some category.Active else None))

abbrev pub default_of : Category → Defaults → Option Implicit
default_of category.Any d = d.any
default_of category.Inactive d = d.inactive
default_of category.Active d = d.active

abbrev pub with_default : Category → Implicit → Defaults → Defaults
with_default category.Any v d = record d { any = Some v }
with_default category.Inactive v d = record d { inactive = Some v }
with_default category.Active v d = record d { active = Some v }

abbrev pub word_of : List ℕ → Option Implicit → Result Implicit Fault
word_of place (Some v) = Ok v
word_of place None = fault_at kind.DefaultWord place

unfoldable pub default_element : Category → List ℕ → List ℕ → Defaults → List ℕ → Result (Defaults × List ℕ) Fault
default_element which name place d rest =
    if is_some (default_of which d) then fault_at kind.Repeated place else (do
      t ← tag false rest
      (text, behind) ← text name place t
      v ← word_of place (implicit_of_word (trim text))
      Ok (with_default which v d, behind))

abbrev pub default_child : Defaults → List ℕ → List ℕ → List ℕ → Option Category → Result (Step (Defaults × List ℕ) (Defaults × List ℕ)) Fault
default_child d name place rest None = fault_at kind.Element place
default_child d name place rest (Some which) = goes_on (default_element which name place d rest)

abbrev pub in_defaults : Defaults → Next → Result (Step (Defaults × List ℕ) (Defaults × List ℕ)) Fault
in_defaults d (End rest) = Ok (Done (d, rest))
in_defaults d (Child name place rest) = default_child d name place rest (default_part name)

unfoldable pub defaults_step : Defaults × List ℕ → Result (Step (Defaults × List ℕ) (Defaults × List ℕ)) Fault
defaults_step (defaults, rest) = next (codes "defaults") rest >>= in_defaults defaults

abbrev pub no_defaults : Defaults
no_defaults = record { any = None; inactive = None; active = None }

unfoldable pub default_elements : List ℕ → Result (Defaults × List ℕ) Fault
default_elements bytes = steps defaults_step (length bytes) (no_defaults, bytes)

-- the defaults of an action, behind the start tag
unfoldable pub defaults : Tag → Result (Defaults × List ℕ) Fault
defaults t = if t.is_empty then Ok (no_defaults, t.rest) else default_elements t.rest

-- the defaults may stand once
unfoldable pub defaults_element : List ℕ → Option Defaults → List ℕ → Result (Defaults × List ℕ) Fault
defaults_element place old rest = if is_some old then fault_at kind.Repeated place else (tag false rest >>= defaults)
