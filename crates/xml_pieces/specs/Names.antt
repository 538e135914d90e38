-- The names of the kinds of faults.
use Rattle.std.specs.Prelude.{ℕ, List, codes}
use Rattle.xml_pieces.specs.declared.fault.XmlFaultKind.{XmlFaultKind}
use Rattle.xml_pieces.specs.declared.fault.XmlFaultKind.TheVariants as kind

-- the name of a kind, in the words of the type
abbrev pub fault_name : XmlFaultKind → List ℕ
fault_name kind.NotUtf8 = codes "NotUtf8"
fault_name kind.Malformed = codes "Malformed"
fault_name kind.Mismatch = codes "Mismatch"
fault_name kind.Element = codes "Element"
fault_name kind.ActionId = codes "ActionId"
fault_name kind.DefaultWord = codes "DefaultWord"
fault_name kind.Missing = codes "Missing"
fault_name kind.Repeated = codes "Repeated"
fault_name kind.Cdata = codes "Cdata"
fault_name kind.TooLong = codes "TooLong"
fault_name kind.NoMemory = codes "NoMemory"
