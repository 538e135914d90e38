-- Names and labels are texts.
use Rattle.std.proofs.Common.{◌≡◌, ℕ, ◌≤◌, ◌<◌, nat_lt, nat_le, ◌&&◌, Bool, true, false, List, [], ◌∷◌, ◌++◌, length, Option, Some, None, is_none, refl, arith, length-append}
use Rattle.std.specs.List.{list_all}
use Rattle.std.proofs.lemmas.Bool.Decides.{nat_tests}
use Rattle.std.specs.Str.{IsUtf8}
use Rattle.pk_types.specs.Text.{IsText, NoZero, text_bad}
use Rattle.pk_types.proofs.Texts.{is_plain, plain_utf8}
use Rattle.keyfile_text.specs.Bytes.{IsClean}
use Rattle.keyfile_text.proofs.Cleans.{clean-append, clean_of_bad, text_of_clean}
use Rattle.table_files.specs.Fields.{is_name}

both : (a b : Bool) → (a && b) ≡ true → (a ≡ true) × (b ≡ true)
both true true e = (refl, refl)
both true false e = absurd (cc)
both false b e = absurd (cc)

no_bad : (o : Option ℕ) → is_none o ≡ true → o ≡ None
no_bad None e = refl
no_bad (Some at) e = absurd (cc)

-- a name is clean and short
pub name_is : (name : List ℕ) → is_name name ≡ true → IsClean name × (length name ≤ 4096)
name_is name e =
    let parts = both (nat_le (length name) 4096) (is_none (text_bad name)) e in
    (clean_of_bad name (no_bad (text_bad name) parts.1), short (length name) parts.0)
  where
    short : (n : ℕ) → nat_le n 4096 ≡ true → n ≤ 4096
    short n e = grind (arith, nat_tests)

pub name_text : (name : List ℕ) → is_name name ≡ true → IsText name
name_text name e = let is = name_is name e in text_of_clean name is.0 (omega (arith, is.1))

plain_clean : {bytes : List ℕ} → IsUtf8 bytes × NoZero bytes → IsClean bytes
plain_clean both = record { utf8 = both.0; no_zero = both.1 }

-- a short ASCII front and a name behind it
pub label_text : (front name : List ℕ) → list_all is_plain front ≡ true → length front ≤ 20 → is_name name ≡ true → IsText (front ++ name)
label_text front name plain short e =
    let is = name_is name e in
    text_of_clean (front ++ name) (clean-append front name (plain_clean (plain_utf8 front plain)) is.0) (omega (arith, is.1, length-append front name))
