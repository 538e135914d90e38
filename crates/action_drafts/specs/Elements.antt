-- Elements one after the other.
use Rattle.std.specs.Prelude.{ℕ, List, Option, Some, None, Result, Ok}
use Rattle.xml_pieces.specs.declared.fault.Fault.{Fault}
use Rattle.xml_pieces.specs.declared.fault.XmlFaultKind.TheVariants as kind
use Rattle.xml_pieces.specs.Reading.{◌>>=◌, fault_at, Step, On}

-- a loop that went on, over what was read so far and the bytes that are left
abbrev pub goes_on : {D : Type 0} → Result (D × List ℕ) Fault → Result (Step (D × List ℕ) (D × List ℕ)) Fault
goes_on read = read >>= λ x. Ok (On x)

-- the value of an attribute that may not lack
abbrev pub needed : List ℕ → Option (List ℕ) → Result (List ℕ) Fault
needed place (Some value) = Ok value
needed place None = fault_at kind.Missing place
