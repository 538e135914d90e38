-- Lists whose items are read one by one, and what comes after a prefix.
use Rattle.std.proofs.Common.{◌<◌, None, length, drop, arith, ◌≡◌, ◌++◌, [], ◌∷◌, List, ℕ, Result, Ok, refl}
use Rattle.std.proofs.Math.Seq.{drop-cons}
use Rattle.authority_model.specs.Words.{after_front}
use Rattle.scenario_text.specs.declared.fault.LineKind.{LineKind}
use Rattle.scenario_text.specs.Faults.{◌>>=◌}

-- items before those that are read
abbrev pub onto : {A : Type 0} → List A → Result (List A) LineKind → Result (List A) LineKind
onto front rest = rest >>= (λ xs. Ok (front ++ xs))

-- a word that ends inside the prefix
pub front_ends : (front word rest : List ℕ) (i : ℕ) → after_front front word ≡ after_front (drop i front) rest → i < length front → length rest < 1
    → None ≡ after_front front word
front_ends front word [] i same more short = rw (same, drop-cons front i 0 more) refl
front_ends front word (b ∷ rest) i same more short = absurd (omega arith)
