-- The names of the kinds of faults.
use Rattle.std.specs.Prelude.{ℕ, List, codes}
use Rattle.keyfile_text.specs.declared.fault.KeyFaultKind.{KeyFaultKind}
use Rattle.keyfile_text.specs.declared.fault.KeyFaultKind.TheVariants as kind

-- the name of a kind, in the words of the type
abbrev pub fault_name : KeyFaultKind → List ℕ
fault_name kind.NotUtf8 = codes "NotUtf8"
fault_name kind.NoGroup = codes "NoGroup"
fault_name kind.BadHeader = codes "BadHeader"
fault_name kind.NoEquals = codes "NoEquals"
fault_name kind.BadEscape = codes "BadEscape"
fault_name kind.TooLong = codes "TooLong"
fault_name kind.NoMemory = codes "NoMemory"
