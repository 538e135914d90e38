-- The digits of a uid, written at the front of a buffer.
use Rattle.std.proofs.Common.{◌≡◌, ℕ, ◌*◌, List, ◌++◌, length, take, Result, Ok, Err, IsOk, OnOk, true, false, ap, ◌∙◌}
use Rattle.std.specs.Fmt.{decimal}
use Rattle.std.proofs.lemmas.List.{take_at}
use Rattle.hex.specs.Hex.{encode_lower, lower_digits}
use Rattle.hex.proofs.HexLemmas.{length-encode_with}
use Rattle.link_handshake.specs.Digits.{uid_digits}

pub uid_written : {E : Type 0} (r : Result (Unit {0}) E) (part out post bytes : List ℕ) (uid : ℕ) → (length part ≡ 2 * length bytes → IsOk r)
    → OnOk r (out ≡ encode_lower bytes) → length part ≡ 2 * length bytes → bytes ≡ decimal uid → take (2 * length bytes) (out ++ post) ≡ uid_digits uid
unfolding uid_digits
uid_written (Ok x) part out post bytes uid fits written full is =
    take_at out post (2 * length bytes) (ap length written ∙ length-encode_with lower_digits bytes) ∙ written ∙ ap encode_lower is
uid_written (Err e) part out post bytes uid fits written full is = let bad : false ≡ true = fits full in absurd (cc)
