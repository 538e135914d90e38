-- What no further bytes change.
use Rattle.dbus_values.specs.Next.{Answer, Whole, Partial, Bad}

-- what holds where the answer is a message or a fault
abbrev pub IfTold : Answer → Type 0 → Type 0
IfTold (Whole _ _) P = P
IfTold (Bad _ _) P = P
IfTold Partial P = Unit {0}
