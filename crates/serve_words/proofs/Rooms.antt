-- How many slots there are over all doors.
use Rattle.std.proofs.Common.{◌≡◌, ℕ, ◌*◌, ◌<◌, ◌≤◌, false, nat_le, arith}
use Rattle.std.proofs.Math.Nat.{mul-le-mul_right}
use Rattle.std.proofs.lemmas.Bool.Decides.{nat_tests}

-- more than 64 doors have more than 64 slots
pub too_many : (slots doors : ℕ) → 1 ≤ slots → 64 < doors → nat_le (slots * doors) 64 ≡ false
too_many slots doors some many =
    let least : 1 * doors ≤ slots * doors = mul-le-mul_right doors some in
    let more : 64 < slots * doors = omega (arith, least, many) in
    grind (arith, nat_tests, more)
