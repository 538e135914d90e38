-- The element `action`.
use Rattle.std.specs.Prelude.{ℕ, true, false, if◌then◌else◌, List, [], length, Option, Some, None, is_some, codes, bytes_eq, Result, Ok}
use Rattle.std.specs.Option.{unwrap_or}
use Rattle.xml_pieces.specs.declared.fault.Fault.{Fault}
use Rattle.xml_pieces.specs.declared.fault.XmlFaultKind.TheVariants as kind
use Rattle.xml_pieces.specs.Reading.{◌>>=◌, fault_at, Step, On, Done, steps}
use Rattle.xml_pieces.specs.Bytes.{name}
use Rattle.xml_pieces.specs.Texts.{Tag, tag, text, value_of}
use Rattle.xml_pieces.specs.Children.{Next, Child, End, next}
use Rattle.xml_pieces.specs.Keyed.{has_key, set_key}
use Rattle.pk_types.specs.declared.values.Pair.{Pair}
use Rattle.pk_types.specs.ActionId.{id_fault_of}
use Rattle.action_drafts.specs.declared.draft.Origin.{Origin}
use Rattle.action_drafts.specs.declared.draft.OriginPart.{OriginPart}
use Rattle.action_drafts.specs.declared.draft.ActionDraft.{ActionDraft}
use Rattle.action_drafts.specs.Elements.{needed}
use Rattle.action_drafts.specs.Origins.{no_origin, origin_part, origin_element}
use Rattle.action_drafts.specs.Defaults.{defaults_element}

-- the language of a text: nothing where the element has none
abbrev pub lang_of : List Pair → List ℕ
lang_of attributes = unwrap_or (value_of (codes "xml:lang") attributes) []

-- a description or message, under its language: each language once
unfoldable pub localized : List ℕ → List ℕ → List Pair → List ℕ → Result (List Pair × List ℕ) Fault
localized name place texts rest = do
  t ← tag false rest
  if has_key (lang_of t.attributes) texts then fault_at kind.Repeated place else (do
    (text, behind) ← text name place t
    Ok (set_key (lang_of t.attributes) text texts, behind))

-- an annotation: the last value of a key counts
unfoldable pub annotation : List ℕ → List Pair → List ℕ → Result (List Pair × List ℕ) Fault
annotation place pairs rest = do
  t ← tag false rest
  key ← needed place (value_of (codes "key") t.attributes)
  (value, behind) ← text (codes "annotate") place t
  Ok (set_key key value pairs, behind)

-- the elements of an action
abbrev pub InAction : Type 0
InAction = ActionDraft × List ℕ

abbrev pub origin_child : ActionDraft → Result (Origin × List ℕ) Fault → Result (Step InAction InAction) Fault
origin_child a read = read >>= λ (origin, behind). Ok (On (record a { origin = origin }, behind))

abbrev pub action_child : ActionDraft → List ℕ → List ℕ → List ℕ → Option OriginPart → Result (Step InAction InAction) Fault
action_child a name place rest (Some which) = origin_child a (origin_element which name place a.origin rest)
action_child a name place rest None =
    if bytes_eq name (codes "description") then (localized name place a.descriptions rest >>= λ (descriptions, behind). Ok (On (record a { descriptions = descriptions }, behind)))
    else (if bytes_eq name (codes "message") then (localized name place a.messages rest >>= λ (messages, behind). Ok (On (record a { messages = messages }, behind)))
    else (if bytes_eq name (codes "defaults") then (defaults_element place a.defaults rest >>= λ (defaults, behind). Ok (On (record a { defaults = Some defaults }, behind)))
    else (if bytes_eq name (codes "annotate") then (annotation place a.annotations rest >>= λ (annotations, behind). Ok (On (record a { annotations = annotations }, behind)))
    else fault_at kind.Element place)))

abbrev pub in_action : ActionDraft → Next → Result (Step InAction InAction) Fault
in_action a (End rest) = Ok (Done (a, rest))
in_action a (Child name place rest) = action_child a name place rest (origin_part name)

unfoldable pub action_step : InAction → Result (Step InAction InAction) Fault
action_step (action, rest) = next (codes "action") rest >>= in_action action

abbrev pub new_action : List ℕ → ActionDraft
new_action id = record { id = id; descriptions = []; messages = []; origin = no_origin; defaults = None; annotations = [] }

unfoldable pub action_elements : ActionDraft → List ℕ → Result InAction Fault
action_elements a bytes = steps action_step (length bytes) (a, bytes)

-- the id of an action (its attribute was judged already)
abbrev pub action_id : List ℕ → List ℕ → Result (List ℕ) Fault
action_id place id = if is_some (id_fault_of id) then fault_at kind.ActionId place else Ok id

unfoldable pub in_tag : List ℕ → Tag → Result InAction Fault
in_tag place t = do
  value ← needed place (value_of (codes "id") t.attributes)
  id ← action_id place value
  if t.is_empty then Ok (new_action id, t.rest) else action_elements (new_action id) t.rest

-- an action behind its name
unfoldable pub action : List ℕ → List ℕ → Result InAction Fault
action place rest = tag true rest >>= in_tag place
