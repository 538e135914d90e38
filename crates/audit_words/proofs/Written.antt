-- What is written of words, one after the other.
use Rattle.std.proofs.Common.{◌≡◌, ◌++◌, [], ◌∷◌, List, ℕ, refl, sym, ◌∙◌, ap, append_assoc}
use Rattle.std.proofs.lemmas.List.{append-nil}
use Rattle.audit_words.specs.Codecs.{Piece, text_of, texts}
use Rattle.audit_words.specs.Lines.{written, spaced}

pub written_append : (xs ys : List Piece) → written (xs ++ ys) ≡ written xs ++ written ys
unfolding written
written_append [] ys = refl
written_append (x ∷ xs) ys = ap (λ (t : List ℕ). 32 ∷ (text_of x ++ t)) (written_append xs ys) ∙ ap (λ (t : List ℕ). 32 ∷ t) (sym (append_assoc (text_of x) (written xs) (written ys)))

pub written_cons : (x : Piece) (xs : List Piece) → written (x ∷ xs) ≡ 32 ∷ (text_of x ++ written xs)
unfolding written
written_cons x xs = refl

pub written_nil : written [] ≡ []
unfolding written
written_nil = refl

pub written_spaced : (xs : List Piece) → written xs ≡ spaced (texts xs)
unfolding written
written_spaced [] = refl
written_spaced (x ∷ xs) = ap (λ (t : List ℕ). 32 ∷ (text_of x ++ t)) (written_spaced xs)

pub ruleset write_rules = (written_append, written_cons, written_nil, append_assoc, append-nil)

-- words behind words
pub onto : (old mid new : List ℕ) (a b : List Piece) → mid ≡ old ++ written a → new ≡ mid ++ written b → new ≡ old ++ written (a ++ b)
onto old mid new a b e f =
    f ∙ ap (λ (t : List ℕ). t ++ written b) e ∙ append_assoc old (written a) (written b) ∙ ap (λ (t : List ℕ). old ++ t) (sym (written_append a b))
