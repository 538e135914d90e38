-- Comments, processing instructions, DOCTYPE, end tags.
use Rattle.std.specs.Prelude.{ℕ, ◌+◌, ◌==◌, ◌&&◌, ◌||◌, Bool, false, if◌then◌else◌, List, [], ◌∷◌, length, drop, codes, bytes_eq, Result, Ok}
use Rattle.xml_pieces.specs.declared.fault.Fault.{Fault}
use Rattle.xml_pieces.specs.declared.fault.XmlFaultKind.TheVariants as kind
use Rattle.xml_pieces.specs.Reading.{◌>>=◌, fault_at, malformed, cut_off, Step, On, Done, steps}
use Rattle.xml_pieces.specs.Bytes.{is_space, behind_spaces, name, behind_byte, behind_pair, begins, is_cut_word}

-- what follows the comment at the front, in which no `--` stands
unfoldable pub comment : List ℕ → Result (List ℕ) Fault
comment here = do
  rest ← behind_pair 45 45 (drop 4 here)
  behind_byte 62 here rest

-- what follows `<!` of anything but DOCTYPE: a comment
unfoldable pub declaration : List ℕ → Result (List ℕ) Fault
declaration here =
    if begins (codes "<!--") here then comment here
    else (if begins (codes "<![CDATA[") here then fault_at kind.Cdata here
    else (if is_cut_word (codes "<!--") here || is_cut_word (codes "<![CDATA[") here then cut_off
    else malformed here))

-- what follows the end tag at the front, of the element of that name
unfoldable pub end_tag : List ℕ → List ℕ → Result (List ℕ) Fault
end_tag wanted here = do
  (found, rest) ← name here (drop 2 here)
  if bytes_eq found wanted then behind_byte 62 (behind_spaces rest) (behind_spaces rest) else fault_at kind.Mismatch here

abbrev pub ends_target : List ℕ → Bool
ends_target [] = false
ends_target (b ∷ bytes) = is_space b || b == 63

-- whether an XML declaration stands at the front: `<?xml`, and white space or `?`
unfoldable pub is_xml : List ℕ → Bool
is_xml here = begins (codes "<?xml") here && ends_target (drop 5 here)

-- what follows the XML declaration, if it stands at the front
unfoldable pub xml_declaration : List ℕ → Result (List ℕ) Fault
xml_declaration bytes = if is_xml bytes then behind_pair 63 62 (drop 2 bytes) else Ok bytes

-- what follows the processing instruction at the front, which is none of the XML declaration
unfoldable pub instruction : List ℕ → Result (List ℕ) Fault
instruction here = if is_xml here then malformed here else behind_pair 63 62 (drop 2 here)

-- what follows the quoted string in a DOCTYPE, which has no `[`
abbrev pub quoted : ℕ → List ℕ → List ℕ → Result (List ℕ) Fault
quoted quote here [] = cut_off
quoted quote here (b ∷ bytes) = if b == quote then Ok bytes else (if b == 91 then malformed here else quoted quote here bytes)

-- DOCTYPE up to its `>`: it has quoted strings, and no `[`
unfoldable pub doctype_step : List ℕ → List ℕ → Result (Step (List ℕ) (List ℕ)) Fault
doctype_step here [] = cut_off
doctype_step here (b ∷ bytes) =
    if b == 62 then Ok (Done bytes)
    else (if b == 91 then malformed here
    else (if b == 34 || b == 39 then (quoted b here bytes >>= λ rest. Ok (On rest)) else Ok (On bytes)))

unfoldable pub doctype : List ℕ → Result (List ℕ) Fault
doctype here = steps (doctype_step here) (length here) (drop 9 here)

-- whether a DOCTYPE may still come, and the bytes that are left
abbrev pub Prolog : Type 0
Prolog = Bool × List ℕ

-- at `<!`
unfoldable pub prolog_declaration : Bool → List ℕ → Result Prolog Fault
prolog_declaration may here =
    if may && begins (codes "<!DOCTYPE") here then (doctype here >>= λ rest. Ok (false, rest))
    else (if may && is_cut_word (codes "<!DOCTYPE") here then cut_off
    else (declaration here >>= λ rest. Ok (may, rest)))

-- at `<`, by what stands behind it: a declaration, an instruction, or else the end of the prolog
abbrev pub prolog_markup : Bool → List ℕ → List ℕ → Result (Step Prolog (List ℕ)) Fault
prolog_markup may here [] = Ok (Done here)
prolog_markup may here (b ∷ bytes) =
    if b == 33 then (prolog_declaration may here >>= λ p. Ok (On p))
    else (if b == 63 then (instruction here >>= λ rest. Ok (On (may, rest)))
    else Ok (Done here))

abbrev pub prolog_by : Bool → List ℕ → Result (Step Prolog (List ℕ)) Fault
prolog_by may [] = Ok (Done [])
prolog_by may (b ∷ bytes) = if b == 60 then prolog_markup may (b ∷ bytes) bytes else malformed (b ∷ bytes)

unfoldable pub prolog_step : Prolog → Result (Step Prolog (List ℕ)) Fault
prolog_step (may, rest) = prolog_by may (behind_spaces rest)

-- what follows white space, comments, processing instructions, and a DOCTYPE where it may come
unfoldable pub prolog : Bool → List ℕ → Result (List ℕ) Fault
prolog may bytes = steps prolog_step (length bytes + 1) (may, bytes)
