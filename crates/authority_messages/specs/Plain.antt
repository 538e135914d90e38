-- Texts that this crate's code spells out.
use Rattle.std.specs.Prelude.{Bool, true, ◌&&◌, nat_lt, nat_le, [], ◌∷◌, length}
use Rattle.authority_model.specs.Words.{Bytes}

-- each byte is of ASCII, and none is 0
abbrev pub is_ascii_text : Bytes → Bool
is_ascii_text [] = true
is_ascii_text (b ∷ bytes) = nat_lt 0 b && (nat_lt b 128 && is_ascii_text bytes)

-- and they are as few as a text has
abbrev pub is_plain : Bytes → Bool
is_plain bytes = nat_le (length bytes) 65535 && is_ascii_text bytes
