-- Texts of elements, attributes, and tags.
use Rattle.std.specs.Prelude.{ℕ, ◌==◌, ◌&&◌, ◌||◌, Bool, true, false, if◌then◌else◌, List, [], ◌∷◌, ◌++◌, length, Option, Some, None, is_some, codes, bytes_eq, Result, Ok}
use Rattle.pk_types.specs.Text.{text_fault_of}
use Rattle.pk_types.specs.ActionId.{id_fault_of}
use Rattle.pk_types.specs.declared.text.TextFault.{TextFault}
use Rattle.pk_types.specs.declared.text.TextFault.TheVariants as text_fault
use Rattle.pk_types.specs.declared.values.Pair.{Pair}
use Rattle.xml_pieces.specs.declared.fault.Fault.{Fault}
use Rattle.xml_pieces.specs.declared.fault.XmlFaultKind.TheVariants as kind
use Rattle.xml_pieces.specs.Reading.{◌>>=◌, fault_at, malformed, cut_off, Step, On, Done, steps}
use Rattle.xml_pieces.specs.Bytes.{is_space, behind_spaces, name, behind_byte}
use Rattle.xml_pieces.specs.References.{Reading, with_reference}
use Rattle.xml_pieces.specs.Markup.{declaration, end_tag}

-- A CR, alone or with a LF behind it, is read as a LF.
abbrev pub plain : ℕ → ℕ
plain b = if b == 13 then 10 else b

abbrev pub without_lf : List ℕ → List ℕ
without_lf [] = []
without_lf (b ∷ bytes) = if b == 10 then bytes else b ∷ bytes

abbrev pub behind_plain : ℕ → List ℕ → List ℕ
behind_plain b bytes = if b == 13 then without_lf bytes else bytes

-- the text with the byte
abbrev pub with_plain : List ℕ → ℕ → List ℕ → Reading
with_plain so_far b bytes = (so_far ++ plain b ∷ [], behind_plain b bytes)

-- A text has at most 65,535 bytes. (In a file that is UTF-8 without byte 0 it has no other fault.)
abbrev pub judged : List ℕ → List ℕ → Option TextFault → Result (List ℕ) Fault
judged place text None = Ok text
judged place text (Some (text_fault.TooLong n)) = fault_at kind.TooLong place
judged place text (Some other) = fault_at kind.NotUtf8 place

unfoldable pub as_text : List ℕ → List ℕ → Result (List ℕ) Fault
as_text place text = judged place text (text_fault_of text)

-- a step in the value of an attribute, up to its quote
abbrev pub value_by : List ℕ → ℕ → List ℕ → List ℕ → Result (Step Reading Reading) Fault
value_by place quote so_far [] = cut_off
value_by place quote so_far (b ∷ bytes) =
    if b == quote then (as_text place so_far >>= λ text. Ok (Done (text, bytes)))
    else (if b == 60 then malformed (b ∷ bytes)
    else (if b == 38 then (with_reference so_far (b ∷ bytes) >>= λ r. Ok (On r))
    else Ok (On (with_plain so_far b bytes))))

unfoldable pub value_step : List ℕ → ℕ → Reading → Result (Step Reading Reading) Fault
value_step place quote (so_far, rest) = value_by place quote so_far rest

-- a value behind its first quote
unfoldable pub quoted_value : List ℕ → ℕ → List ℕ → Result Reading Fault
quoted_value place quote bytes = steps (value_step place quote) (length bytes) ([], bytes)

-- the value behind an attribute's `=`
unfoldable pub value : List ℕ → List ℕ → Result Reading Fault
value place [] = cut_off
value place (q ∷ bytes) = if q == 34 || q == 39 then quoted_value place q bytes else malformed place

-- an attribute: its name, its value, and what follows
pub record Attribute : Type 0 where
  pub name : List ℕ
  pub value : List ℕ
  pub rest : List ℕ

unfoldable pub attribute : List ℕ → Result Attribute Fault
attribute here = do
  (found, behind_name) ← name here here
  behind ← behind_byte 61 here (behind_spaces behind_name)
  (text, rest) ← value here (behind_spaces behind)
  Ok (record { name = found; value = text; rest = rest })

-- the attributes so far, and the bytes that are left
abbrev pub Attributes : Type 0
Attributes = List Pair × List ℕ

-- a whole start tag: its attributes, whether its element is empty, and what follows
pub record Tag : Type 0 where
  pub attributes : List Pair
  pub is_empty : Bool
  pub rest : List ℕ

-- the value of the first pair with that key
abbrev pub value_of : List ℕ → List Pair → Option (List ℕ)
value_of key [] = None
value_of key (p ∷ pairs) = if bytes_eq key p.key then Some p.value else value_of key pairs

abbrev pub has : List ℕ → List Pair → Bool
has key pairs = is_some (value_of key pairs)

-- the id of an action is judged with its attribute
abbrev pub bad_id : Bool → List ℕ → List ℕ → Bool
bad_id is_action name value = is_action && bytes_eq name (codes "id") && is_some (id_fault_of value)

abbrev pub one_more : Bool → List ℕ → List Pair → Attribute → Result (Step Attributes Tag) Fault
one_more is_action here so_far a =
    if has a.name so_far then malformed here
    else (if bad_id is_action a.name a.value then fault_at kind.ActionId here
    else Ok (On (so_far ++ (record { key = a.name; value = a.value }) ∷ [], a.rest)))

-- a step in a start tag behind its name or an attribute, with white space before it or none
abbrev pub tag_by : Bool → Bool → List Pair → List ℕ → Result (Step Attributes Tag) Fault
tag_by is_action spaced so_far [] = cut_off
tag_by is_action spaced so_far (b ∷ bytes) =
    if b == 62 then Ok (Done (record { attributes = so_far; is_empty = false; rest = bytes }))
    else (if b == 47 then (behind_byte 62 bytes bytes >>= λ rest. Ok (Done (record { attributes = so_far; is_empty = true; rest = rest })))
    else (if spaced then (attribute (b ∷ bytes) >>= one_more is_action (b ∷ bytes) so_far)
    else malformed (b ∷ bytes)))

abbrev pub begins_spaced : List ℕ → Bool
begins_spaced [] = false
begins_spaced (b ∷ bytes) = is_space b

unfoldable pub tag_step : Bool → Attributes → Result (Step Attributes Tag) Fault
tag_step is_action (so_far, rest) = tag_by is_action (begins_spaced rest) so_far (behind_spaces rest)

-- the rest of a start tag behind its name
unfoldable pub tag : Bool → List ℕ → Result Tag Fault
tag is_action bytes = steps (tag_step is_action) (length bytes) ([], bytes)

-- at `<` in a text: a comment, the end tag, or an element, which may not stand there
abbrev pub text_markup : List ℕ → List ℕ → List ℕ → List ℕ → List ℕ → Result (Step Reading Reading) Fault
text_markup wanted place so_far here [] = cut_off
text_markup wanted place so_far here (b ∷ bytes) =
    if b == 33 then (declaration here >>= λ rest. Ok (On (so_far, rest)))
    else (if b == 47 then (end_tag wanted here >>= λ rest. as_text place so_far >>= λ text. Ok (Done (text, rest)))
    else (if b == 63 then malformed here
    else (name here (b ∷ bytes) >>= λ n. fault_at kind.Element here)))

abbrev pub text_by : List ℕ → List ℕ → List ℕ → List ℕ → Result (Step Reading Reading) Fault
text_by wanted place so_far [] = cut_off
text_by wanted place so_far (b ∷ bytes) =
    if b == 38 then (with_reference so_far (b ∷ bytes) >>= λ r. Ok (On r))
    else (if b == 60 then text_markup wanted place so_far (b ∷ bytes) bytes
    else Ok (On (with_plain so_far b bytes)))

unfoldable pub text_step : List ℕ → List ℕ → Reading → Result (Step Reading Reading) Fault
text_step wanted place (so_far, rest) = text_by wanted place so_far rest

-- the text up to the end tag of that name
unfoldable pub whole_text : List ℕ → List ℕ → List ℕ → Result Reading Fault
whole_text wanted place bytes = steps (text_step wanted place) (length bytes) ([], bytes)

-- the text of an element behind its start tag, and what follows its end tag; the element stands at the place
unfoldable pub text : List ℕ → List ℕ → Tag → Result Reading Fault
text wanted place t = if t.is_empty then Ok ([], t.rest) else whole_text wanted place t.rest
