-- Cuts as a function.
use Rattle.std.proofs.Common.{◌≡◌, ℕ, List, [], ◌∷◌, ◌++◌, Some, None, refl, ap, ◌∙◌, eq-eqb}
use Rattle.std.specs.Prelude.{if◌then◌else◌}
use Rattle.std.proofs.lemmas.Bool.{ne_eqb}
use Rattle.pk_types.specs.Pieces.{Lacks, IsCut}
use Rattle.keyfile_text.specs.Bytes.{onto_front, cut_at}

pub cut_at-none : (at : ℕ) (bytes : List ℕ) → Lacks at bytes → cut_at at bytes ≡ None
cut_at-none at [] lacks = refl
cut_at-none at (b ∷ bytes) lacks = ap (λ t. if t then Some ([], bytes) else onto_front b (cut_at at bytes)) (ne_eqb b at lacks.0) ∙ ap (onto_front b) (cut_at-none at bytes lacks.1)

at_front : (at : ℕ) (front behind : List ℕ) → Lacks at front → cut_at at (front ++ at ∷ behind) ≡ Some (front, behind)
at_front at [] behind lacks = ap (λ t. if t then Some ([], behind) else onto_front at (cut_at at behind)) (eq-eqb at at refl)
at_front at (b ∷ front) behind lacks =
    ap (λ t. if t then Some ([], front ++ at ∷ behind) else onto_front b (cut_at at (front ++ at ∷ behind))) (ne_eqb b at lacks.0)
    ∙ ap (onto_front b) (at_front at front behind lacks.1)

pub cut_at-found : (at : ℕ) (bytes front behind : List ℕ) → IsCut at bytes front behind → cut_at at bytes ≡ Some (front, behind)
cut_at-found at bytes front behind cut = ap (cut_at at) cut.whole ∙ at_front at front behind cut.first
