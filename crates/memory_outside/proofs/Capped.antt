-- The readings that a clock may give.
use Rattle.std.proofs.Common.{◌≡◌, ◌<◌, ◌≤◌, ◌^◌, ℕ, List, length, subst, ap, ◌∙◌, get_or, arith}
use Rattle.std.specs.Prelude.{map, min}
use Rattle.std.proofs.lemmas.List.{get_or-map, length-map}
use Rattle.memory_outside.specs.Readings.{capped}

-- Each reading of these is at most 2^62.
pub capped_below : (numbers readings : List ℕ) → readings ≡ map capped numbers → (k d : ℕ) → k < length readings → get_or readings k d ≤ 2 ^ 62
capped_below numbers readings is k d within =
    let inside : k < length numbers = subst (λ (n : ℕ). k < n) (ap length is ∙ length-map numbers capped) within in
    let value : get_or readings k d ≡ min (get_or numbers k 0) (2 ^ 62) = ap (λ (all : List ℕ). get_or all k d) is ∙ get_or-map capped numbers k 0 d inside in
    omega (arith, value)
