-- White space, names, and bytes that end something.
use Rattle.std.specs.Prelude.{ℕ, ◌-◌, ◌==◌, ◌&&◌, ◌||◌, nat_eq, nat_le, Bool, false, if◌then◌else◌, List, [], ◌∷◌, length, take, drop, Result, Ok}
use Rattle.std.specs.List.{starts_with}
use Rattle.xml_pieces.specs.declared.fault.Fault.{Fault}
use Rattle.xml_pieces.specs.Reading.{malformed, cut_off}

-- a space, a tab, a LF or a CR
abbrev pub is_space : ℕ → Bool
is_space b = b == 32 || b == 9 || b == 10 || b == 13

-- what follows the bytes at the front that pass the test
abbrev pub skip : (ℕ → Bool) → List ℕ → List ℕ
skip test [] = []
skip test (b ∷ bytes) = if test b then skip test bytes else b ∷ bytes

-- what follows the white space
abbrev pub behind_spaces : List ℕ → List ℕ
behind_spaces bytes = skip is_space bytes

-- a letter, `_`, `:`, or a byte of a character beyond ASCII
abbrev pub is_name_start : ℕ → Bool
is_name_start b = (nat_le 65 b && nat_le b 90) || (nat_le 97 b && nat_le b 122) || b == 95 || b == 58 || nat_le 128 b

-- the same, a digit, `-` or `.`
abbrev pub is_name_byte : ℕ → Bool
is_name_byte b = is_name_start b || (nat_le 48 b && nat_le b 57) || b == 45 || b == 46

-- what follows the bytes of a name
abbrev pub behind_name : List ℕ → List ℕ
behind_name bytes = skip is_name_byte bytes

-- the bytes before a rest of them
abbrev pub before : List ℕ → List ℕ → List ℕ
before rest bytes = take (length bytes - length rest) bytes

-- a name, and the rest, which shows where the name ends
abbrev pub named : List ℕ → List ℕ → Result (List ℕ × List ℕ) Fault
named bytes [] = cut_off
named bytes (c ∷ rest) = Ok (before (c ∷ rest) bytes, c ∷ rest)

-- a name; where none begins the fault is at the place
unfoldable pub name : List ℕ → List ℕ → Result (List ℕ × List ℕ) Fault
name place [] = cut_off
name place (b ∷ bytes) = if is_name_start b then named (b ∷ bytes) (behind_name (b ∷ bytes)) else malformed place

-- what follows this byte; where another stands the fault is at the place
unfoldable pub behind_byte : ℕ → List ℕ → List ℕ → Result (List ℕ) Fault
behind_byte c place [] = cut_off
behind_byte c place (b ∷ bytes) = if b == c then Ok bytes else malformed place

-- what follows the first place where these two bytes stand
abbrev pub is_next : ℕ → List ℕ → Bool
is_next c [] = false
is_next c (b ∷ bytes) = b == c

abbrev pub behind_pair : ℕ → ℕ → List ℕ → Result (List ℕ) Fault
behind_pair x y [] = cut_off
behind_pair x y (b ∷ bytes) = if b == x && is_next y bytes then Ok (drop 1 bytes) else behind_pair x y bytes

-- whether the bytes begin with the word
abbrev pub begins : List ℕ → List ℕ → Bool
begins word bytes = starts_with nat_eq bytes word

-- whether the bytes are a word that the end of the file cuts off
abbrev pub is_cut_word : List ℕ → List ℕ → Bool
is_cut_word word bytes = starts_with nat_eq word bytes
