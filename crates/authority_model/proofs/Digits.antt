-- The hexadecimal digits of a number, from the last one.
use Rattle.std.proofs.Common.{◌≡◌, ◌≢◌, ◌++◌, [], ◌∷◌, ◌-◌, ◌/◌, ◌%◌, ℕ, suc, List, refl, sym, arith, append_assoc, append-nil}
use Rattle.authority_model.specs.Cookies.{hex, hex_digit}

-- no digits are asked for
pub push_none : (old : List ℕ) (digits n : ℕ) → digits ≡ 0 → old ≡ old ++ hex digits n
unfolding hex
push_none old digits n e = rw e (sym (append-nil old))

hex-suc : (digits less n : ℕ) → digits ≡ suc less → hex digits n ≡ hex less (n / 16) ++ hex_digit (n % 16) ∷ []
unfolding hex
hex-suc digits less n e = rw e refl

-- the last digit is pushed behind those of the sixteenth
pub push_last : (old mid new : List ℕ) (digits n : ℕ) (digit : ℕ) → digits ≢ 0 → mid ≡ old ++ hex (digits - 1) (n / 16)
    → new ≡ mid ++ digit ∷ [] → digit ≡ hex_digit (n % 16) → new ≡ old ++ hex digits n
push_last old mid new digits n digit some front push last =
    rw (push, front, last, hex-suc digits (digits - 1) n (omega arith)) (append_assoc old (hex (digits - 1) (n / 16)) (hex_digit (n % 16) ∷ []))
