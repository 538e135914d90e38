-- The text of a line by its last byte.
use Rattle.std.proofs.Common.{◌≡◌, ◌≢◌, ℕ, List, [], ◌∷◌, ◌++◌, length, Some, None, refl, ap, ◌∙◌, arith, eq-eqb}
use Rattle.std.specs.Prelude.{if◌then◌else◌, option_map}
use Rattle.std.proofs.lemmas.Bool.{ne_eqb}
use Rattle.link_handshake.specs.Lines.{text_of}

text_of-cons : (c : ℕ) (text : List ℕ) (b : ℕ) → text_of (c ∷ (text ++ b ∷ [])) ≡ option_map (λ rest. c ∷ rest) (text_of (text ++ b ∷ []))
text_of-cons c [] b = refl
text_of-cons c (d ∷ text) b = refl

pub text_of-cr : (line text : List ℕ) (b : ℕ) → line ≡ text ++ b ∷ [] → b ≡ 13 → text_of line ≡ Some text
text_of-cr line text b e cr = ap text_of e ∙ at text
  where
    at : (text : List ℕ) → text_of (text ++ b ∷ []) ≡ Some text
    at [] = ap (λ t. if t then Some [] else None) (eq-eqb b 13 cr)
    at (c ∷ text) = text_of-cons c text b ∙ ap (option_map (λ rest. c ∷ rest)) (at text)

pub text_of-other : (line text : List ℕ) (b : ℕ) → line ≡ text ++ b ∷ [] → b ≢ 13 → text_of line ≡ None
text_of-other line text b e other = ap text_of e ∙ at text
  where
    at : (text : List ℕ) → text_of (text ++ b ∷ []) ≡ None
    at [] = ap (λ t. if t then Some [] else None) (ne_eqb b 13 other)
    at (c ∷ text) = text_of-cons c text b ∙ ap (option_map (λ rest. c ∷ rest)) (at text)

pub text_of-empty : (line : List ℕ) → length line ≡ 0 → text_of line ≡ None
text_of-empty [] e = refl
text_of-empty (b ∷ line) e = absurd (omega arith)
