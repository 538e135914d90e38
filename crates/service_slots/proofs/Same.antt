-- Two lists that agree at each place.
use Rattle.std.proofs.Common.{◌≡◌, ◌<◌, ◌++◌, [], ◌∷◌, List, ℕ, suc, refl, sym, ap, ◌∙◌, subst, length, take, arith}
use Rattle.std.specs.Prelude.{All, map, slice_index_or}
use Rattle.std.proofs.Math.Seq.{take-append_seam}

-- what is the same at each place of two lists of one length is the same list
pub map_same : {A B : Type 0} (f : A → B) (xs ys : List A) → length ys ≡ length xs → ((i : ℕ) (d : A) → i < length xs → f (slice_index_or ys i d) ≡ f (slice_index_or xs i d)) → map f ys ≡ map f xs
map_same f [] [] e same = refl
map_same f [] (y ∷ ys) e same = absurd (omega arith)
map_same f (x ∷ xs) [] e same = absurd (omega arith)
map_same f (x ∷ xs) (y ∷ ys) e same =
    let head : f y ≡ f x = same 0 x (omega arith) in
    let tail : map f ys ≡ map f xs = map_same f xs ys (omega arith) (λ i d lt. same (suc i) d (omega arith)) in
    cc

-- the whole is what was written, where all elements were written
pub whole_back : {A : Type 0} (len : ℕ) (new rest : List A) → len ≡ length new → take len (new ++ rest) ≡ new
whole_back len new rest e = ap (λ (n : ℕ). take n (new ++ rest)) e ∙ take-append_seam new rest

-- what holds of each element that was written holds of each of the whole, where all were written
pub written_back : {A : Type 0} (P : A → Type 0) (len : ℕ) (new rest : List A) → len ≡ length new → All P new → All P (take len (new ++ rest))
written_back {A} P len new rest e all = subst (λ (l : List A). All P l) (sym (whole_back len new rest e)) all
