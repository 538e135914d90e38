-- The words of a line, of which the first ones were cut off.
use Rattle.std.proofs.Common.{◌≡◌, ◌+◌, ◌<◌, ◌≤◌, List, ℕ, suc, [], ◌∷◌, length, get_or, drop, refl, sym, ◌∙◌, ap, arith, add-one, drop-cons, length-drop}
use Rattle.pk_types.specs.Pieces.{Lacks, IsCut, pieces_of}
use Rattle.pk_types.proofs.Cuts.{pieces_of-cut, pieces_of-last}

-- What the first of the words that are left is.
record Next {A : Type 0} (xs : List A) (i : ℕ) (d y : A) (ys : List A) : Type 0 where
  within : i < length xs
  is : get_or xs i d ≡ y
  more : drop (i + 1) xs ≡ ys

next_of : {A : Type 0} (xs : List A) (i : ℕ) (d y : A) (ys : List A) → drop i xs ≡ y ∷ ys → Next xs i d y ys
next_of xs i d y ys left =
    let count : length (drop i xs) ≡ suc (length ys) = ap (λ (l : List _). length l) left in
    let within : i < length xs = omega (arith, count, length-drop i xs) in
    let split : drop i xs ≡ get_or xs i d ∷ drop (i + 1) xs = drop-cons xs i d within ∙ rw add-one refl in
    record { within = within; is = cc; more = cc }

-- The first piece of a cut is the first word.
pieces_cut : (rest word after : List ℕ) → IsCut 32 rest word after → pieces_of 32 rest ≡ word ∷ pieces_of 32 after
pieces_cut rest word after cut = ap (λ (r : List ℕ). pieces_of 32 r) cut.whole ∙ pieces_of-cut 32 word after cut.first

-- One more word was cut off.
pub word_less : (words rest word after : List ℕ) (i : ℕ) → drop i (pieces_of 32 words) ≡ pieces_of 32 rest → IsCut 32 rest word after
    → drop (i + 1) (pieces_of 32 words) ≡ pieces_of 32 after
word_less words rest word after i left cut = (next_of (pieces_of 32 words) i [] word (pieces_of 32 after) (left ∙ pieces_cut rest word after cut)).more

-- A word that a space ends.
pub word_cut : (words rest word after : List ℕ) (i place : ℕ) → place ≤ i → i ≤ place → drop i (pieces_of 32 words) ≡ pieces_of 32 rest → IsCut 32 rest word after
    → (place < length (pieces_of 32 words)) × (word ≡ get_or (pieces_of 32 words) place [])
word_cut words rest word after i place least most left cut =
    let same : i ≡ place = omega arith in
    let next = next_of (pieces_of 32 words) i [] word (pieces_of 32 after) (left ∙ pieces_cut rest word after cut) in
    (rw (sym same) next.within, rw (sym same) (sym next.is))

-- The last word.
pub word_last : (words rest : List ℕ) (i place : ℕ) → place ≤ i → i ≤ place → drop i (pieces_of 32 words) ≡ pieces_of 32 rest → Lacks 32 rest
    → (place < length (pieces_of 32 words)) × (rest ≡ get_or (pieces_of 32 words) place [])
word_last words rest i place least most left lacks =
    let same : i ≡ place = omega arith in
    let next = next_of (pieces_of 32 words) i [] rest [] (left ∙ pieces_of-last 32 rest lacks) in
    (rw (sym same) next.within, rw (sym same) (sym next.is))

-- After the last word there is none.
pub no_word : (words rest : List ℕ) (i place : ℕ) → i < place → drop i (pieces_of 32 words) ≡ pieces_of 32 rest → Lacks 32 rest → length (pieces_of 32 words) ≤ place
no_word words rest i place less left lacks =
    let count : length (drop i (pieces_of 32 words)) ≡ 1 = ap (λ (l : List _). length l) (left ∙ pieces_of-last 32 rest lacks) in
    omega (arith, count, length-drop i (pieces_of 32 words))
