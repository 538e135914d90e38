-- Some digits of a number of 128 bits.
use Rattle.std.proofs.Common.{◌≡◌, ℕ, suc, ◌+◌, ◌*◌, ◌-◌, ◌^◌, ◌<◌, ◌≤◌, List, ◌∷◌, Option, Some, option_and_then, arith, ap, sym, ◌∙◌}
use Rattle.audit_words.specs.Salts.{hex_value, hex_after}
use Rattle.std.proofs.Math.Nat.{pow-suc, pow-le-pow_right}

power : (rest : ℕ) → 1 ≤ rest → rest ≤ 32 → 16 ^ (32 - rest) ≤ 16 ^ 31
power rest some most = pow-le-pow_right {n = 16} (omega arith) {i = 32 - rest} {j = 31} (omega arith)

-- one more digit is within 128 bits
pub digit_fits : (value digit rest : ℕ) → 1 ≤ rest → rest ≤ 32 → value < 16 ^ (32 - rest) → digit < 16 → value * 16 + digit < 2 ^ 128
digit_fits value digit rest some most lt small = omega (arith, power rest some most)

-- and one digit more
pub digit_more : (value digit rest behind : ℕ) → behind + 1 ≡ rest → rest ≤ 32 → value < 16 ^ (32 - rest) → digit < 16 → value * 16 + digit < 16 ^ (32 - behind)
digit_more value digit rest behind one most lt small =
    let k : 32 - behind ≡ suc (32 - rest) = omega arith in
    let p : 16 ^ (32 - behind) ≡ 16 ^ (32 - rest) * 16 = ap (λ (i : ℕ). 16 ^ i) k ∙ pow-suc 16 (32 - rest) in
    omega arith

-- and what the rest says then
pub digit_read : (value digit c : ℕ) (rest behind word : List ℕ) → rest ≡ c ∷ behind → Some digit ≡ hex_value c → hex_after value rest ≡ hex_after 0 word
    → hex_after (value * 16 + digit) behind ≡ hex_after 0 word
digit_read value digit c rest behind word cut is same =
    ap (λ (o : Option ℕ). option_and_then (λ v. hex_after (value * 16 + v) behind) o) is ∙ sym (ap (hex_after value) cut) ∙ same
