-- What stands between the elements of an element.
use Rattle.std.specs.Prelude.{ℕ, ◌==◌, if◌then◌else◌, List, [], ◌∷◌, length, Result, Ok}
use Rattle.xml_pieces.specs.declared.fault.Fault.{Fault}
use Rattle.xml_pieces.specs.Reading.{◌>>=◌, malformed, cut_off, Step, On, Done, steps}
use Rattle.xml_pieces.specs.Bytes.{behind_spaces, name}
use Rattle.xml_pieces.specs.Markup.{declaration, end_tag}

-- what comes next: the element that begins at the place, by its name and what follows it; or the end of the parent, and what follows it
pub data Next : Type 0 where
  Child : (name place rest : List ℕ) → Next
  End : (rest : List ℕ) → Next

-- at `<`
abbrev pub next_markup : List ℕ → List ℕ → List ℕ → Result (Step (List ℕ) Next) Fault
next_markup parent here [] = cut_off
next_markup parent here (b ∷ bytes) =
    if b == 33 then (declaration here >>= λ rest. Ok (On rest))
    else (if b == 47 then (end_tag parent here >>= λ rest. Ok (Done (End rest)))
    else (if b == 63 then malformed here
    else (name here (b ∷ bytes) >>= λ (found, rest). Ok (Done (Child found here rest)))))

abbrev pub next_by : List ℕ → List ℕ → Result (Step (List ℕ) Next) Fault
next_by parent [] = cut_off
next_by parent (b ∷ bytes) = if b == 60 then next_markup parent (b ∷ bytes) bytes else malformed (b ∷ bytes)

unfoldable pub next_step : List ℕ → List ℕ → Result (Step (List ℕ) Next) Fault
next_step parent bytes = next_by parent (behind_spaces bytes)

-- behind white space and comments
unfoldable pub next : List ℕ → List ℕ → Result Next Fault
next parent bytes = steps (next_step parent) (length bytes) bytes
