-- A number above those of a list is none of them.
use Rattle.std.proofs.Common.{◌≡◌, ℕ, ◌<◌, ◌==◌, cond, List, [], ◌∷◌, Some, None, refl, ap, ◌∙◌, arith}
use Rattle.std.specs.Prelude.{find}
use Rattle.std.proofs.lemmas.Bool.{ne_eqb}
use Rattle.authority_model.specs.declared.verdict.GrantRow.{GrantRow}
use Rattle.authority_model.specs.Lists.{Each}

-- none has it
pub none_numbered : (n : ℕ) (items : List GrantRow) → Each (λ g. g.id < n) items → find (λ g. g.id == n) items ≡ None
none_numbered n [] below = refl
none_numbered n (g ∷ items) below = ap (λ b. cond b (Some g) (find (λ g. g.id == n) items)) (ne_eqb g.id n (λ e. omega (arith, e, below.0))) ∙ none_numbered n items below.1
