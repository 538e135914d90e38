-- The lines of a key file.
use Rattle.std.specs.Prelude.{ℕ, ◌==◌, ◌-◌, Bool, not, nat_lt, List, [], ◌∷◌, length, take, drop, Option, Some, None, if◌then◌else◌, bytes_eq}
use Rattle.pk_types.specs.Pieces.{onto_first}
use Rattle.pk_types.specs.declared.text.TheConstants.{MAX_TEXT}
use Rattle.keyfile_text.specs.Bytes.{is_empty, trim, cut_at}
use Rattle.std.specs.List.{list_any}
use Rattle.keyfile_text.specs.Escapes.{escapes_whole}
use Rattle.keyfile_text.specs.declared.fault.KeyFaultKind.{KeyFaultKind}
use Rattle.keyfile_text.specs.declared.fault.KeyFaultKind.TheVariants as kind

-- the lines with their ends: LF (10) ends each, and the last may end with the bytes
abbrev pub raw_lines : List ℕ → List (List ℕ)
raw_lines [] = []
raw_lines (b ∷ bytes) = if b == 10 then (10 ∷ []) ∷ raw_lines bytes else onto_first b (raw_lines bytes)

-- the bytes without this end, where they have it
abbrev pub without : List ℕ → List ℕ → List ℕ
without end bytes = if bytes_eq (drop (length bytes - length end) bytes) end then take (length bytes - length end) bytes else bytes

-- the line without its LF and a CR (13) before that; without LF a CR is part of it
abbrev pub without_end : List ℕ → List ℕ
without_end line = if bytes_eq (drop (length line - 1) line) (10 ∷ []) then without (13 ∷ []) (take (length line - 1) line) else line

-- what a line says
pub data Line : Type 0 where
  Blank : Line
  Header : (name : List ℕ) → Line
  Setting : (key value : List ℕ) → Line
  Faulty : (fault : KeyFaultKind) → Line

-- more bytes than a text has
abbrev pub is_long : List ℕ → Bool
is_long bytes = nat_lt MAX_TEXT (length bytes)

-- whether a byte stands there
abbrev pub has : ℕ → List ℕ → Bool
has b bytes = list_any (λ x. x == b) bytes

-- behind `[`: a name without brackets, `]` (93), and nothing more
abbrev pub header : List ℕ → List ℕ → Line
header name behind =
    if is_empty name then Faulty kind.BadHeader
    else if has 91 name then Faulty kind.BadHeader
    else if not (is_empty behind) then Faulty kind.BadHeader
    else if is_long name then Faulty kind.TooLong
    else Header name

-- cut at the first `]`
abbrev pub header_of : Option (List ℕ × List ℕ) → Line
header_of None = Faulty kind.BadHeader
header_of (Some (name, behind)) = header name behind

-- a key and its value
abbrev pub setting : List ℕ → List ℕ → Line
setting key value =
    if is_empty key then Faulty kind.NoEquals
    else if not (escapes_whole value) then Faulty kind.BadEscape
    else if is_long key then Faulty kind.TooLong
    else if is_long value then Faulty kind.TooLong
    else Setting key value

-- cut at the first `=`
abbrev pub setting_of : Option (List ℕ × List ℕ) → Line
setting_of None = Faulty kind.NoEquals
setting_of (Some (key, value)) = setting (trim key) (trim value)

-- what a line without blanks at its ends says, in a group or before the first: `#` is 35, `[` is 91, `=` is 61
abbrev pub line_of : Bool → List ℕ → Line
line_of in_group [] = Blank
line_of in_group (b ∷ line) =
    if b == 35 then Blank
    else if b == 91 then header_of (cut_at 93 line)
    else if not in_group then Faulty kind.NoGroup
    else setting_of (cut_at 61 (b ∷ line))
