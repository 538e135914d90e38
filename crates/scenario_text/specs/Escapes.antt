-- Texts, names and numbers as an answer line writes them.
use Rattle.std.specs.Prelude.{ℕ, Bool, true, not, ◌&&◌, ◌==◌, ◌/◌, ◌%◌, nat_le, List, [], ◌∷◌, ◌++◌, codes, if◌then◌else◌}
use Rattle.std.specs.Fmt.{decimal, digit_glyph}
use Rattle.std.specs.List.{flat_map, join_by}
use Rattle.pk_types.specs.declared.values.Identity.{Identity}
use Rattle.pk_types.specs.declared.values.Identity.TheVariants as identity
use Rattle.pk_types.specs.declared.values.Pair.{Pair}
use Rattle.authority_model.specs.declared.verdict.GrantRow.{GrantRow}
use Rattle.authority_model.specs.Cookies.{grant_text}

-- whether a byte stands for itself: 21h to 7Eh without `%`
abbrev pub is_plain : ℕ → Bool
is_plain b = nat_le 33 b && nat_le b 126 && not (b == 37)

-- a byte, or `%` and its two upper-case hexadecimal digits
abbrev pub escape_of : ℕ → List ℕ
escape_of b = if is_plain b then b ∷ [] else 37 ∷ digit_glyph true (b / 16) ∷ digit_glyph true (b % 16) ∷ []

-- a text with each byte that doesn't stand for itself escaped
abbrev pub escaped : List ℕ → List ℕ
escaped text = flat_map escape_of text

-- an identity by its number
abbrev pub identity_text : Identity → List ℕ
identity_text (identity.User uid) = codes "user:" ++ decimal uid
identity_text (identity.Group gid) = codes "group:" ++ decimal gid

-- the texts of some things with commas between them, or `-` for none
abbrev pub listed : {A : Type 0} → (A → List ℕ) → List A → List ℕ
listed text [] = codes "-"
listed text (x ∷ xs) = join_by text (codes ",") (x ∷ xs)

-- identities with commas between them
abbrev pub identities_text : List Identity → List ℕ
identities_text identities = listed identity_text identities

-- the id of a temporary authorization by its row
abbrev pub row_text : GrantRow → List ℕ
row_text row = grant_text row.id

-- ids of temporary authorizations with commas between them
abbrev pub grants_text : List GrantRow → List ℕ
grants_text rows = listed row_text rows

-- a pair after the words of a verdict
abbrev pub pair_text : Pair → List ℕ
pair_text pair = codes " " ++ (escaped pair.key ++ (codes "=" ++ escaped pair.value))

-- the pairs of a verdict
abbrev pub pairs_text : List Pair → List ℕ
pairs_text pairs = flat_map pair_text pairs
