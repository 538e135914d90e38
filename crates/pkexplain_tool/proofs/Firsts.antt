-- The first case of each rule, as cases come one after another.
use Rattle.std.proofs.Common.{◌≡◌, ◌≢◌, ℕ, zero, suc, ◌==◌, List, [], ◌∷◌, ◌++◌, Option, None, Some, option_map, slice_get, slice_set, refl, sym, ap, ◌∙◌, subst, inl, inr}
use Rattle.std.proofs.lemmas.Bool.Decides.{eqb_tells}
use Rattle.std.proofs.lemmas.List.Folds.{find-append}
use Rattle.authority_model.specs.declared.load.Loaded.{Loaded}
use Rattle.authority_model.specs.Lists.{or_else, when}
use Rattle.pkexplain_tool.specs.Accounts.{Notes}
use Rattle.pkexplain_tool.specs.Cases.{decides, first_decided}
use Rattle.pkexplain_tool.specs.declared.case.Case.{Case}

set_same : {A : Type 0} (xs : List A) (i : ℕ) (v x : A) → slice_get xs i ≡ Some x → slice_get (slice_set xs i v) i ≡ Some v
set_same [] i v x h = absurd (cc)
set_same (y ∷ xs) zero v x h = refl
set_same (y ∷ xs) (suc i) v x h = set_same xs i v x h

set_other : {A : Type 0} (xs : List A) (i p : ℕ) (v : A) → i ≢ p → slice_get (slice_set xs i v) p ≡ slice_get xs p
set_other [] i p v ne = refl
set_other (y ∷ xs) zero zero v ne = absurd (ne refl)
set_other (y ∷ xs) zero (suc p) v ne = refl
set_other (y ∷ xs) (suc i) zero v ne = refl
set_other (y ∷ xs) (suc i) (suc p) v ne = set_other xs i p v (λ e. ne (ap (λ (n : ℕ). suc n) e))

-- nothing is found, and nothing changes
same_first : {A : Type 0} (o : Option (Option A)) → o ≡ option_map (λ first. or_else first None) o
same_first None = refl
same_first (Some None) = refl
same_first (Some (Some c)) = refl

two_firsts : {A : Type 0} (o : Option (Option A)) (u v w : Option A) → w ≡ or_else u v
    → option_map (λ first. or_else first v) (option_map (λ first. or_else first u) o) ≡ option_map (λ first. or_else first w) o
two_firsts None u v w e = refl
two_firsts (Some None) u v w e = ap (λ (x : Option _). Some x) (sym e)
two_firsts (Some (Some c)) u v w e = refl

-- a case is kept where none was
pub notes_new : (firsts : List (Option Case)) (i : ℕ) (c : Case) → slice_get firsts i ≡ Some None → Notes (λ p. when (i == p) c) firsts (slice_set firsts i (Some c))
notes_new firsts i c h p = elim (eqb_tells i p) [
  | inl at ↦ rw at.0
      (subst (λ (q : ℕ). slice_get (slice_set firsts i (Some c)) q ≡ option_map (λ first. or_else first (Some c)) (slice_get firsts q)) at.1
      (set_same firsts i (Some c) None h ∙ sym (ap (option_map (λ first. or_else first (Some c))) h)))
  | inr off ↦ rw off.0 (set_other firsts i p (Some c) off.1 ∙ same_first (slice_get firsts p))
]

-- nothing was found
pub notes_none : (found : ℕ → Option Case) (firsts : List (Option Case)) → ((p : ℕ) → found p ≡ None) → Notes found firsts firsts
notes_none found firsts none p = same_first (slice_get firsts p) ∙ ap (λ (o : Option Case). option_map (λ first. or_else first o) (slice_get firsts p)) (sym (none p))

-- what was found first, and what was found then
pub notes_more : (loaded : Loaded) (cases more : List Case) (a b c : List (Option Case)) → Notes (first_decided loaded cases) a b → Notes (first_decided loaded more) b c → Notes (first_decided loaded (cases ++ more)) a c
notes_more loaded cases more a b c first then p =
    then p ∙ ap (option_map (λ first. or_else first (first_decided loaded more p))) (first p)
    ∙ two_firsts (slice_get a p) (first_decided loaded cases p) (first_decided loaded more p) (first_decided loaded (cases ++ more) p) (find-append (decides loaded p) cases more)
