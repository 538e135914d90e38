-- Where bytes are cut at a separator.
use Rattle.std.proofs.Common.{◌≡◌, ◌==◌, ℕ, true, List, [], ◌∷◌, ◌++◌, Some, None, refl, ap, ◌∙◌, arith}
use Rattle.std.proofs.lemmas.Bool.{ne_eqb}
use Rattle.pk_types.specs.Pieces.{IsCut, Lacks}
use Rattle.command_line.specs.Doors.{cut_at, onto_first}

same_true : (n : ℕ) → (n == n) ≡ true
same_true n = grind arith

-- behind bytes that lack the separator
pub cut_behind : (separator : ℕ) (front after : List ℕ) → Lacks separator front → cut_at separator (front ++ separator ∷ after) ≡ Some (front, after)
cut_behind separator [] after lacks = rw (same_true separator) refl
cut_behind separator (b ∷ front) after lacks =
    rw (ne_eqb b separator lacks.0) (ap (onto_first b) (cut_behind separator front after lacks.1))

pub cut_found : (separator : ℕ) (bytes front after : List ℕ) → IsCut separator bytes front after → cut_at separator bytes ≡ Some (front, after)
cut_found separator bytes front after is = ap (cut_at separator) is.whole ∙ cut_behind separator front after is.first

pub cut_none : (separator : ℕ) (bytes : List ℕ) → Lacks separator bytes → cut_at separator bytes ≡ None
cut_none separator [] lacks = refl
cut_none separator (b ∷ bytes) lacks = rw (ne_eqb b separator lacks.0) (ap (onto_first b) (cut_none separator bytes lacks.1))
