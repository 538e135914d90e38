-- The words of a text, said by what comes before and after each.
use Rattle.std.specs.Prelude.{◌≡◌, ⊤, true, false, List, [], ◌∷◌, ◌++◌}
use Rattle.authority_model.specs.Lists.{Each}
use Rattle.pk_types.specs.Text.{is_blank}
use Rattle.authority_model.specs.Words.{Bytes}

-- only blanks
abbrev pub AllBlank : Bytes → Type 0
AllBlank bytes = Each (λ b. is_blank b ≡ true) bytes

-- at least one byte, and no blank
abbrev pub IsRun : Bytes → Type 0
IsRun [] = ⊥
IsRun (b ∷ bytes) = Each (λ c. is_blank c ≡ false) (b ∷ bytes)

-- nothing, or a blank first
abbrev pub StartsBlank : Bytes → Type 0
StartsBlank [] = ⊤
StartsBlank (b ∷ bytes) = is_blank b ≡ true

-- A text has these words in this order: only blanks come before each, and a blank or the end comes after it. Only blanks come after the last word.
abbrev pub HasWords : Bytes → List Bytes → Type 0
HasWords text [] = AllBlank text
HasWords text (w ∷ ws) = (gap : Bytes) × (rest : Bytes) × (text ≡ gap ++ (w ++ rest)) × AllBlank gap × IsRun w × StartsBlank rest × HasWords rest ws
