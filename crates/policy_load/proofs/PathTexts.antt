-- The paths of names below directories, as texts.
use Rattle.std.proofs.Common.{◌≡◌, ℕ, ◌≤◌, nat_lt, Bool, true, false, List, [], ◌∷◌, length, Option, Some, None, refl, ap, sym, ◌∙◌, subst, arith}
use Rattle.std.specs.Prelude.{if◌then◌else◌}
use Rattle.std.proofs.lemmas.Bool.Decides.{nat_tests}
use Rattle.pk_types.specs.Text.{IsText, text_bad, text_fault_of, bad_byte_fault}
use Rattle.pk_types.specs.declared.text.TextFault.TheVariants as fault
use Rattle.keyfile_text.specs.Bytes.{IsClean}
use Rattle.keyfile_text.proofs.Cleans.{clean-append, clean-byte, text_of_clean, text_is}
use Rattle.policy_load.specs.Paths.{with_name, below}

path_clean : (d n : List ℕ) → IsText d → IsText n → IsClean (with_name d n)
path_clean d n left right =
    clean-append d (47 ∷ n) (text_is d left).0 (clean-append (47 ∷ []) n (clean-byte 47 (omega arith) (λ z. omega arith)) (text_is n right).0)

-- the text of a path that was built
pub path_some : (d n bytes path : List ℕ) → bytes ≡ with_name d n → path ≡ bytes → IsText bytes → Some path ≡ below d n
path_some d n bytes path same is text = ap Some (is ∙ same) ∙ of (length (with_name d n)) fits
  where
    fits : length (with_name d n) ≤ 65535
    fits = (text_is (with_name d n) (subst IsText same text)).1

    of : (size : ℕ) → size ≤ 65535 → Some (with_name d n) ≡ (if nat_lt 65535 size then None else Some (with_name d n))
    of size fits = grind (arith, nat_tests)

-- a path is too long
pub path_none : (d n bytes : List ℕ) (len : ℕ) → bytes ≡ with_name d n → text_fault_of bytes ≡ Some (fault.TooLong len) → None ≡ below d n
path_none d n bytes len same due = of (length (with_name d n)) (text_bad (with_name d n)) (subst (λ b. text_fault_of b ≡ Some (fault.TooLong len)) same due)
  where
    of : (size : ℕ) (bad : Option ℕ) → (if nat_lt 65535 size then Some (fault.TooLong size) else bad_byte_fault bad) ≡ Some (fault.TooLong len) → None ≡ (if nat_lt 65535 size then None else Some (with_name d n))
    of size bad due = cases (nat_lt 65535 size) bad due
      where
        cases : (t : Bool) (bad : Option ℕ) → (if t then Some (fault.TooLong size) else bad_byte_fault bad) ≡ Some (fault.TooLong len) → None ≡ (if t then None else Some (with_name d n))
        cases true bad due = refl
        cases false None due = absurd (cc)
        cases false (Some at) due = absurd (cc)

-- no byte of a path is bad
pub path_good : (d n bytes : List ℕ) (at : ℕ) → bytes ≡ with_name d n → IsText d → IsText n → text_fault_of bytes ≡ Some (fault.BadByte at) → ⊥
path_good d n bytes at same left right due = of (length (with_name d n)) (nat_lt 65535 (length (with_name d n))) refl refl (subst (λ b. text_fault_of b ≡ Some (fault.BadByte at)) same due)
  where
    of : (size : ℕ) (t : Bool) → length (with_name d n) ≡ size → nat_lt 65535 size ≡ t → (if t then Some (fault.TooLong size) else bad_byte_fault (text_bad (with_name d n))) ≡ Some (fault.BadByte at) → ⊥
    of size true is long due = cc
    of size false is long due =
        let fits : size ≤ 65535 = grind (arith, nat_tests) in
        let none : text_fault_of (with_name d n) ≡ None = text_of_clean (with_name d n) (path_clean d n left right) (omega (arith, is)) in
        let here : (if nat_lt 65535 size then Some (fault.TooLong size) else bad_byte_fault (text_bad (with_name d n))) ≡ None = subst (λ s. (if nat_lt 65535 s then Some (fault.TooLong s) else bad_byte_fault (text_bad (with_name d n))) ≡ None) is none in
        let short : bad_byte_fault (text_bad (with_name d n)) ≡ None = subst (λ t. (if t then Some (fault.TooLong size) else bad_byte_fault (text_bad (with_name d n))) ≡ None) long here in
        let both : None ≡ Some (fault.BadByte at) = sym short ∙ due in
        cc
