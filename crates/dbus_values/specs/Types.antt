-- The type codes of the D-Bus Specification, "Type System" and "Marshaling (Wire Format)".
use Rattle.std.specs.Prelude.{ℕ, Bool, true, false, ◌==◌, ◌||◌, if◌then◌else◌}
use Rattle.dbus_values.specs.declared.class.Class.{Class}
use Rattle.dbus_values.specs.declared.class.Class.TheVariants as class

-- what the type code at the front of a complete type, or of an array's item, stands for
abbrev pub class_of : ℕ → Class
class_of c =
    if c == 121 then class.Byte else
    (if (c == 110) || (c == 113) then class.Half else
    (if c == 98 then class.Boolean else
    (if (c == 105) || (c == 117) || (c == 104) then class.Word else
    (if (c == 120) || (c == 116) || (c == 100) then class.Long else
    (if c == 115 then class.Text else
    (if c == 111 then class.Path else
    (if c == 103 then class.Signature else
    (if c == 97 then class.Array else
    (if c == 40 then class.Struct else
    (if c == 123 then class.Entry else
    (if c == 118 then class.Variant else class.Other)))))))))))

-- "Summary of D-Bus marshaling": the alignment of each type
abbrev pub align_of : Class → ℕ
align_of class.Byte = 1
align_of class.Half = 2
align_of class.Boolean = 4
align_of class.Word = 4
align_of class.Long = 8
align_of class.Text = 4
align_of class.Path = 4
align_of class.Signature = 1
align_of class.Array = 4
align_of class.Struct = 8
align_of class.Entry = 8
align_of class.Variant = 1
align_of class.Other = 1

-- the basic types, which alone may be the key of a dict entry
abbrev pub is_basic : Class → Bool
is_basic class.Array = false
is_basic class.Struct = false
is_basic class.Entry = false
is_basic class.Variant = false
is_basic class.Other = false
is_basic _ = true
