-- Going behind the containers that are open.
use Rattle.std.proofs.Common.{◌≡◌, ℕ, List, [], ◌∷◌, false, eqb, Option, Some, None, refl, ap, arith}
use Rattle.std.proofs.lemmas.Bool.Decides.{nat_tests}
use Rattle.dbus_values.specs.Parts.{Piece}
use Rattle.authority_calls.specs.Arguments.{part, open_behind, behind}

not_zero : (n : ℕ) → (n ≡ 0 → ⊥) → eqb n 0 ≡ false
not_zero n h = grind (arith, nat_tests)

-- the part and the parts behind it
abbrev pair_of : Piece → List Piece → Option (Piece × List Piece) → Piece × List Piece
pair_of p ps None = (p, ps)
pair_of p ps (Some x) = x

pub behind_none : (old : List Piece) → behind 0 old ≡ Some (tt, old)
unfolding behind
behind_none [] = refl
behind_none (p ∷ old) = refl

pub behind_fault : (n : ℕ) (old : List Piece) → (n ≡ 0 → ⊥) → part old ≡ None → behind n old ≡ None
unfolding behind
behind_fault n [] some is = rw (not_zero n some) refl
behind_fault n (p ∷ old) some is = absurd (cc)

pub behind_more : (n m : ℕ) (p : Piece) (old new : List Piece) → (n ≡ 0 → ⊥) → part old ≡ Some (p, new) → open_behind p n ≡ Some m → behind n old ≡ behind m new
unfolding behind
behind_more n m p [] new some is deep = absurd (cc)
behind_more n m p (q ∷ old) new some is deep =
    let same : Some (q, old) ≡ Some (p, new) = is in
    let head : q ≡ p = ap (λ x. (pair_of p new x).0) same in
    let tail : old ≡ new = ap (λ x. (pair_of p new x).1) same in
    rw (not_zero n some, head, tail, deep) refl

pub behind_deep : (n : ℕ) (p : Piece) (old new : List Piece) → (n ≡ 0 → ⊥) → part old ≡ Some (p, new) → open_behind p n ≡ None → behind n old ≡ None
unfolding behind
behind_deep n p [] new some is deep = absurd (cc)
behind_deep n p (q ∷ old) new some is deep =
    let same : Some (q, old) ≡ Some (p, new) = is in
    let head : q ≡ p = ap (λ x. (pair_of p new x).0) same in
    rw (not_zero n some, head, deep) refl

pub ruleset behind_rules = (behind_none, behind_fault, behind_more, behind_deep)
