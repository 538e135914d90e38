-- Escapes in values: `\` (92) and then `s`, `n`, `t`, `r`, `\` or `;`.
use Rattle.std.specs.Prelude.{ℕ, ◌==◌, Bool, true, false, not, ◌&&◌, List, [], ◌∷◌, Option, Some, None, is_some, if◌then◌else◌}

-- the byte that an escape stands for, by its second byte
abbrev pub escaped : ℕ → Option ℕ
escaped b =
    if b == 115 then Some 32
    else if b == 110 then Some 10
    else if b == 116 then Some 9
    else if b == 114 then Some 13
    else if b == 92 then Some 92
    else if b == 59 then Some 59
    else None

-- whether each `\` begins an escape, where the bytes stand behind a `\` that does or behind none
abbrev pub escapes_end : Bool → List ℕ → Bool
escapes_end behind [] = not behind
escapes_end true (b ∷ bytes) = is_some (escaped b) && escapes_end false bytes
escapes_end false (b ∷ bytes) = escapes_end (b == 92) bytes

-- whether each `\` of a value begins an escape
abbrev pub escapes_whole : List ℕ → Bool
escapes_whole value = escapes_end false value
