-- References: `&lt;` `&gt;` `&amp;` `&apos;` `&quot;`, `&#N;` and `&#xH;`.
use Rattle.std.specs.Prelude.{ℕ, ◌+◌, ◌-◌, ◌*◌, ◌==◌, ◌&&◌, ◌||◌, min, nat_le, nat_lt, Bool, if◌then◌else◌, List, [], ◌∷◌, drop, Option, Some, None, option_and_then, codes, bytes_eq, encode_utf8, Result, Ok, Err, not, ◌++◌}
use Rattle.xml_pieces.specs.declared.fault.Fault.{Fault}
use Rattle.xml_pieces.specs.Reading.{malformed, cut_off}
use Rattle.xml_pieces.specs.Bytes.{is_space, skip, before}

-- the value of a decimal digit
abbrev pub decimal_digit : ℕ → Option ℕ
decimal_digit b = if nat_le 48 b && nat_le b 57 then Some (b - 48) else None

-- the value of a hexadecimal digit
abbrev pub hex_digit : ℕ → Option ℕ
hex_digit b =
    if nat_le 48 b && nat_le b 57 then Some (b - 48)
    else (if nat_le 97 b && nat_le b 102 then Some (b - 87)
    else (if nat_le 65 b && nat_le b 70 then Some (b - 55) else None))

-- a number with one more digit; one beyond the last character stays there
abbrev pub with_digit : ℕ → ℕ → ℕ → ℕ
with_digit base n d = min 1114112 (n * base + d)

abbrev pub number_on : (ℕ → Option ℕ) → ℕ → ℕ → List ℕ → Option ℕ
number_on digit base n [] = Some n
number_on digit base n (b ∷ digits) = option_and_then (λ d. number_on digit base (with_digit base n d) digits) (digit b)

-- the number of at least one digit
abbrev pub number : (ℕ → Option ℕ) → ℕ → List ℕ → Option ℕ
number digit base [] = None
number digit base (b ∷ digits) = number_on digit base 0 (b ∷ digits)

-- the UTF-8 of a scalar other than 0
abbrev pub character : ℕ → Option (List ℕ)
character n =
    if n == 0 || (nat_le 55296 n && nat_le n 57343) || nat_lt 1114111 n then None else Some (encode_utf8 n)

-- behind `#`: digits, or `x` and hexadecimal digits
abbrev pub numbered : List ℕ → Option (List ℕ)
numbered [] = None
numbered (b ∷ digits) = option_and_then character (if b == 120 then number hex_digit 16 digits else number decimal_digit 10 (b ∷ digits))

abbrev pub numbered_if : List ℕ → Option (List ℕ)
numbered_if [] = None
numbered_if (b ∷ body) = if b == 35 then numbered body else None

-- what stands between `&` and `;`, and the text that it stands for
unfoldable pub referred : List ℕ → Option (List ℕ)
referred body =
    if bytes_eq body (codes "lt") then Some (60 ∷ [])
    else (if bytes_eq body (codes "gt") then Some (62 ∷ [])
    else (if bytes_eq body (codes "amp") then Some (38 ∷ [])
    else (if bytes_eq body (codes "apos") then Some (39 ∷ [])
    else (if bytes_eq body (codes "quot") then Some (34 ∷ [])
    else numbered_if body))))

-- what may stand between `&` and `;`: no `;`, `<`, `&`, quote or white space
abbrev pub is_body : ℕ → Bool
is_body b = not (b == 59 || b == 60 || b == 38 || b == 34 || b == 39 || is_space b)

abbrev pub behind_body : List ℕ → List ℕ
behind_body bytes = skip is_body bytes

abbrev pub stands_for : List ℕ → List ℕ → Option (List ℕ) → Result (List ℕ × List ℕ) Fault
stands_for here rest (Some text) = Ok (text, rest)
stands_for here rest None = malformed here

abbrev pub reference_by : List ℕ → List ℕ → Result (List ℕ × List ℕ) Fault
reference_by here [] = cut_off
reference_by here (b ∷ rest) = if b == 59 then stands_for here rest (referred (before (b ∷ rest) (drop 1 here))) else malformed here

-- the text that the reference at the front stands for, and what follows it
unfoldable pub reference : List ℕ → Result (List ℕ × List ℕ) Fault
reference here = reference_by here (behind_body (drop 1 here))

-- the text so far, and the bytes that are left
abbrev pub Reading : Type 0
Reading = List ℕ × List ℕ

-- the text with the reference at the front
abbrev pub with_text : List ℕ → Result (List ℕ × List ℕ) Fault → Result Reading Fault
with_text so_far (Ok (text, rest)) = Ok (so_far ++ text, rest)
with_text so_far (Err fault) = Err fault

abbrev pub with_reference : List ℕ → List ℕ → Result Reading Fault
with_reference so_far here = with_text so_far (reference here)
