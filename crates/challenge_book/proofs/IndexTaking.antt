-- What a look-up of an index says of the key that it finds.
use Rattle.std.proofs.Common.{◌≡◌, inl, inr, Bool, true, cond, ap, ◌∙◌, subst, List, [], ◌∷◌, Option, Some}
use Rattle.std.specs.Prelude.{IfSome}
use Rattle.std.specs.Map.{lookup_key}
use Rattle.challenge_book.proofs.Finding.{tells}

-- what holds of the value of an option holds of the one that it is known to have
pub at_some : {A : Type 0} (P : A → Type 0) (r : Option A) (x : A) → r ≡ Some x → IfSome r P → P x
at_some {A = A} P r x is h = let M : Option A → Type 0 = λ o. IfSome o P in subst M is h

-- the key that a look-up finds passes its test
pub keyed : {K X : Type 0} (test : K → Bool) (es : List (K × X)) (k : K) → Some k ≡ lookup_key test es → test k ≡ true
keyed {K = K} test [] k is = cc
keyed {K = K} test (e ∷ es) k is = elim (tells (test e.0)) [
  | inl hit ↦ ap test (same k e.0 (is ∙ ap (λ b. cond b (Some e.0) (lookup_key test es)) hit)) ∙ hit
  | inr miss ↦ keyed test es k (is ∙ ap (λ b. cond b (Some e.0) (lookup_key test es)) miss)
]
  where
    same : (x y : K) → Some x ≡ Some y → x ≡ y
    same x y e = cc
