-- The elements of the root, and the whole file.
use Rattle.std.specs.Prelude.{ℕ, ◌==◌, true, false, if◌then◌else◌, List, [], ◌∷◌, ◌++◌, length, drop, Option, Some, None, codes, bytes_eq, Result, Ok}
use Rattle.xml_pieces.specs.declared.fault.Fault.{Fault}
use Rattle.xml_pieces.specs.declared.fault.XmlFaultKind.TheVariants as kind
use Rattle.xml_pieces.specs.Reading.{◌>>=◌, fault_at, Step, On, Done, steps}
use Rattle.xml_pieces.specs.Bytes.{name}
use Rattle.xml_pieces.specs.Markup.{xml_declaration, prolog}
use Rattle.xml_pieces.specs.Texts.{Tag, tag}
use Rattle.xml_pieces.specs.Children.{Next, Child, End, next}
use Rattle.action_drafts.specs.declared.draft.OriginPart.{OriginPart}
use Rattle.action_drafts.specs.declared.draft.FileDraft.{FileDraft}
use Rattle.action_drafts.specs.Origins.{no_origin, origin_part, origin_element}
use Rattle.action_drafts.specs.Actions.{action}

-- the elements of the root
abbrev pub InFile : Type 0
InFile = FileDraft × List ℕ

abbrev pub file_child : FileDraft → List ℕ → List ℕ → List ℕ → Option OriginPart → Result (Step InFile InFile) Fault
file_child f name place rest (Some which) = origin_element which name place f.origin rest >>= λ (origin, behind). Ok (On (record f { origin = origin }, behind))
file_child f name place rest None =
    if bytes_eq name (codes "action") then (action place rest >>= λ (draft, behind). Ok (On (record f { actions = f.actions ++ draft ∷ [] }, behind)))
    else fault_at kind.Element place

abbrev pub in_file : FileDraft → Next → Result (Step InFile InFile) Fault
in_file f (End rest) = Ok (Done (f, rest))
in_file f (Child name place rest) = file_child f name place rest (origin_part name)

unfoldable pub file_step : InFile → Result (Step InFile InFile) Fault
file_step (file, rest) = next (codes "policyconfig") rest >>= in_file file

abbrev pub no_actions : FileDraft
no_actions = record { origin = no_origin; actions = [] }

unfoldable pub file_elements : List ℕ → Result InFile Fault
file_elements bytes = steps file_step (length bytes) (no_actions, bytes)

unfoldable pub in_root : Tag → Result InFile Fault
in_root t = if t.is_empty then Ok (no_actions, t.rest) else file_elements t.rest

-- the root element, from its `<`
unfoldable pub root : List ℕ → Result InFile Fault
root here = do
  (found, rest) ← name here (drop 1 here)
  if bytes_eq found (codes "policyconfig") then (tag false rest >>= in_root) else fault_at kind.Element here

-- a tag behind the root
abbrev pub behind_root : List ℕ → Result (Unit {0}) Fault
behind_root here = name here (drop 1 here) >>= λ n. fault_at kind.Element here

-- behind the root nothing but white space, comments and processing instructions
unfoldable pub epilog : List ℕ → Result (Unit {0}) Fault
epilog bytes = prolog false bytes >>= λ rest. if length rest == 0 then Ok tt else behind_root rest

-- the whole file, without its byte order mark
unfoldable pub document : List ℕ → Result FileDraft Fault
document bytes = do
  behind ← xml_declaration bytes
  here ← prolog true behind
  (file, rest) ← root here
  end ← epilog rest
  Ok file
