-- What may still be written after a part of it was written.
use Rattle.std.proofs.Common.{◌++◌, [], List, ℕ, Option, None, Some, sym, ◌∙◌, ap, subst, append_assoc, append-nil, take, drop}
use Rattle.std.proofs.lemmas.List.{take-append-drop}
use Rattle.pk_outside.specs.Allowing.{IsFree, IsFront, MayFronts, MayGo}
use Rattle.pk_outside.specs.Streams.{Got, GotUpTo}

-- After the first bytes were written the others may follow.
pub MayGo-more : (Allowed : List ℕ → Type 0) (a b : Option (List ℕ)) (xs ys : List ℕ) → MayGo Allowed a (xs ++ ys) → Got a b xs → MayGo Allowed b ys
MayGo-more Allowed None None xs ys may got = tt
MayGo-more Allowed None (Some y) xs ys may got = absurd got
MayGo-more Allowed (Some x) None xs ys may got = absurd got
MayGo-more Allowed (Some x) (Some y) xs ys may got = subst Allowed (sym (append_assoc x xs ys) ∙ ap (λ r. r ++ ys) (sym got)) may

-- The first n of the bytes were written.
pub MayGo-rest : (Allowed : List ℕ → Type 0) (a b : Option (List ℕ)) (rest : List ℕ) (n : ℕ) → MayGo Allowed a rest → Got a b (take n rest) → MayGo Allowed b (drop n rest)
MayGo-rest Allowed a b rest n may got = MayGo-more Allowed a b (take n rest) (drop n rest) (subst (λ (r : List ℕ). MayGo Allowed a r) (sym (take-append-drop n rest)) may) got

-- Where any text is allowed all bytes may go.
pub may_go_free : (Allowed : List ℕ → Type 0) (a : Option (List ℕ)) (xs : List ℕ) → IsFree Allowed → MayGo Allowed a xs
may_go_free Allowed None xs free = tt
may_go_free Allowed (Some x) xs free = free (x ++ xs)

-- A text is a prefix of itself.
pub front_self : (text : List ℕ) → IsFront text text
front_self text = ([], sym (append-nil text))

-- Where each prefix may go the whole text may.
pub may_go_whole : (Allowed : List ℕ → Type 0) (a : Option (List ℕ)) (text : List ℕ) → MayFronts Allowed a text → MayGo Allowed a text
may_go_whole Allowed a text may = may text (front_self text)

-- What begins a text is allowed as the text is.
pub fronts_begin : (Allowed : List ℕ → Type 0) (a : Option (List ℕ)) (xs ys : List ℕ) → MayFronts Allowed a (xs ++ ys) → MayFronts Allowed a xs
fronts_begin Allowed a xs ys may = λ front is. may front (is.0 ++ ys, ap (λ (t : List ℕ). t ++ ys) is.1 ∙ append_assoc front is.0 ys)

-- After the first bytes were written each prefix of the others may follow.
pub fronts_more : (Allowed : List ℕ → Type 0) (a b : Option (List ℕ)) (xs ys : List ℕ) → MayFronts Allowed a (xs ++ ys) → Got a b xs → MayFronts Allowed b ys
fronts_more Allowed a b xs ys may got = λ front is.
    MayGo-more Allowed a b xs front (may (xs ++ front) (is.0, ap (λ (t : List ℕ). xs ++ t) is.1 ∙ sym (append_assoc xs front is.0))) got

-- After a part of the text was written each prefix of the rest, and of what follows it, may follow.
pub fronts_rest : (Allowed : List ℕ → Type 0) (a b : Option (List ℕ)) (bytes rest ys : List ℕ) → MayFronts Allowed a (bytes ++ ys) → GotUpTo a b bytes rest → MayFronts Allowed b (rest ++ ys)
fronts_rest Allowed a b bytes rest ys may got =
    fronts_more Allowed a b got.0 (rest ++ ys) (subst (MayFronts Allowed a) (ap (λ (t : List ℕ). t ++ ys) got.1 ∙ append_assoc got.0 rest ys) may) got.2
