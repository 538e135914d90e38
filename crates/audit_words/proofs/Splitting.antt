-- A line's bytes and its words.
use Rattle.std.proofs.Common.{◌≡◌, ℕ, Bool, true, false, cond, ◌==◌, List, [], ◌∷◌, ◌++◌, refl, sym, ap, ◌∙◌}
use Rattle.std.proofs.lemmas.List.{append-nil}
use Rattle.std.proofs.lemmas.Bool.Decides.{nat_tests}
use Rattle.pk_types.specs.Pieces.{Lacks, onto_first, pieces_of}
use Rattle.pk_types.proofs.Cuts.{pieces_of-cut, pieces_of-last}
use Rattle.std.proofs.Common.{arith}
use Rattle.audit_words.specs.Codecs.{Piece, Codec, text_of, texts}
use Rattle.audit_words.specs.Faults.{Lawful}
use Rattle.audit_words.proofs.Basics.{clean_of, ok_parts}
use Rattle.audit_words.specs.Lines.{written, spaced, joined, AreClean}

-- the words of a written line are its words
pub split_again : (w : List ℕ) (ps : List Piece) → Lacks 32 w → AreClean ps → pieces_of 32 (w ++ written ps) ≡ w ∷ texts ps
unfolding written
split_again w [] lacks clean = ap (pieces_of 32) (append-nil w) ∙ pieces_of-last 32 w lacks
split_again w (p ∷ ps) lacks clean =
    pieces_of-cut 32 w (text_of p ++ written ps) lacks ∙ ap (λ (t : List (List ℕ)). w ∷ t) (split_again (text_of p) ps clean.0.0 clean.1)

abbrev Filled : List (List ℕ) → Type 0
Filled [] = ⊥
Filled (w ∷ ws) = Unit {0}

filled_step : (p : Bool) (b : ℕ) (ps : List (List ℕ)) → Filled (cond p ([] ∷ ps) (onto_first b ps))
filled_step true b ps = tt
filled_step false b [] = tt
filled_step false b (p ∷ ps) = tt

filled : (bytes : List ℕ) → Filled (pieces_of 32 bytes)
filled [] = tt
filled (b ∷ bs) = filled_step (b == 32) b (pieces_of 32 bs)

spaced_joined : (ps : List (List ℕ)) → Filled ps → spaced ps ≡ 32 ∷ joined ps
spaced_joined [] some = absurd some
spaced_joined (p ∷ ps) some = refl

is_space : (b : ℕ) → (b == 32) ≡ true → 32 ≡ b
is_space b e = grind (arith, nat_tests)

joined_step : (p : Bool) (b : ℕ) (ps : List (List ℕ)) → (p ≡ true → 32 ≡ b) → Filled ps → joined (cond p ([] ∷ ps) (onto_first b ps)) ≡ b ∷ joined ps
joined_step true b ps is some = spaced_joined ps some ∙ ap (λ (k : ℕ). k ∷ joined ps) (is refl)
joined_step false b [] is some = absurd some
joined_step false b (p ∷ ps) is some = refl

-- and a line is its words with a space between them
pub split_found : (bytes : List ℕ) → joined (pieces_of 32 bytes) ≡ bytes
split_found [] = refl
split_found (b ∷ bs) = joined_step (b == 32) b (pieces_of 32 bs) (is_space b) (filled bs) ∙ ap (λ (t : List ℕ). b ∷ t) (split_found bs)

tails_are : (w : List ℕ) (us vs : List (List ℕ)) → w ∷ us ≡ w ∷ vs → us ≡ vs
tails_are w us vs e = cc

-- equal words are the words of equal values
pub same_words : {V : Type 0} {c : Codec V} → Lawful c → (x y : V) → c.fits x → c.fits y → written (c.spell x) ≡ written (c.spell y) → x ≡ y
same_words {V} {c} p x y f g e =
    let words : texts (c.spell x) ≡ texts (c.spell y) =
    tails_are [] (texts (c.spell x)) (texts (c.spell y))
    (sym (split_again [] (c.spell x) tt (clean_of p x f)) ∙ ap (pieces_of 32) e ∙ split_again [] (c.spell y) tt (clean_of p y g)) in
    (ok_parts V (x, []) (y, []) (sym (p.again x [] f) ∙ ap (λ (ws : List (List ℕ)). c.take (ws ++ [])) words ∙ p.again y [] g)).0
