-- The label of a name is a text.
use Rattle.std.proofs.Common.{◌≡◌, ℕ, ◌≤◌, nat_lt, true, false, Bool, cond, List, ◌++◌, length, Option, Some, None, refl, arith, length-append}
use Rattle.std.specs.List.{list_all}
use Rattle.pk_types.specs.Text.{IsText, text_bad, bad_byte_fault}
use Rattle.pk_types.specs.declared.text.TextFault.TheVariants as fault
use Rattle.pk_types.proofs.Texts.{is_plain, plain_utf8}
use Rattle.keyfile_text.specs.Bytes.{IsClean}
use Rattle.keyfile_text.proofs.Cleans.{clean-append, clean_of_bad, text_of_clean}

no_bad : (long : Bool) (n : ℕ) (bad : Option ℕ) → cond long (Some (fault.TooLong n)) (bad_byte_fault bad) ≡ None → bad ≡ None
no_bad true n bad e = absurd cc
no_bad false n None e = refl
no_bad false n (Some at) e = absurd cc

name_clean : (name : List ℕ) → IsText name → IsClean name
name_clean name is = clean_of_bad name (no_bad (nat_lt 65535 (length name)) (length name) (text_bad name) is)

-- a short ASCII front and a name of at most 4,096 bytes
pub label_text : (front name : List ℕ) → list_all is_plain front ≡ true → length front ≤ 20 → IsText name → length name ≤ 4096 → IsText (front ++ name)
label_text front name plain short is most =
    let p = plain_utf8 front plain in
    text_of_clean (front ++ name) (clean-append front name (record { utf8 = p.0; no_zero = p.1 }) (name_clean name is)) (omega (arith, length-append front name))
