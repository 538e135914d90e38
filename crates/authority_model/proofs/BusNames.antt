-- The bus name of a connection is a text.
use Rattle.std.proofs.Common.{◌≡◌, ◌<◌, ◌^◌, [], ◌∷◌, List, ℕ, suc, true, refl, length, get_or, arith}
use Rattle.std.specs.Fmt.{decimal}
use Rattle.std.specs.Int.{IsInRange}
use Rattle.std.specs.List.{list_all}
use Rattle.std.proofs.lemmas.Bool.{lt-ltb}
use Rattle.std.proofs.lemmas.Fmt.{decimal_is_IsNumeral, length-decimal-le}
use Rattle.std.proofs.lemmas.Str.Parse.{digit_at}
use Rattle.pk_types.specs.Text.{IsText}
use Rattle.pk_types.proofs.Texts.{is_plain, plain_text}
use Rattle.authority_model.specs.Words.{bus_name}

plain_digits : (ds : List ℕ) → ((i : ℕ) → i < length ds → IsInRange 48 57 (get_or ds i 0)) → list_all is_plain ds ≡ true
plain_digits [] each = refl
plain_digits (d ∷ ds) each =
    let here : IsInRange 48 57 d = each 0 (omega arith) in
    rw (lt-ltb 0 d (omega arith), lt-ltb d 128 (omega arith), plain_digits ds (λ i h. each (suc i) (omega (arith, h)))) refl

pub bus_text : (caller : ℕ) → caller < 2 ^ 32 → IsText (bus_name caller)
bus_text caller h =
    let digits = (decimal_is_IsNumeral caller (omega arith)).0.1 in
    plain_text (bus_name caller) (plain_digits (decimal caller) (λ i lt. digit_at (decimal caller) i digits lt))
    (omega (arith, length-decimal-le 10 caller (omega arith) (omega arith) (omega arith)))
