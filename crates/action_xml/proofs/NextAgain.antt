-- What comes next in an element is read again behind white space and comments.
use Rattle.std.proofs.Common.{◌≡◌, ℕ, zero, suc, ◌+◌, ◌-◌, ◌≤◌, List, [], ◌∷◌, ◌++◌, length, true, false, Ok, refl, sym, ap, ◌∙◌, arith, append_assoc, length-append}
use Rattle.std.specs.Prelude.{if◌then◌else◌, codes}
use Rattle.xml_pieces.specs.Reading.{◌>>=◌, On, Done, go_on, steps}
use Rattle.xml_pieces.specs.Bytes.{is_space, behind_spaces, is_name_start, is_name_byte, name}
use Rattle.xml_pieces.specs.Markup.{declaration, end_tag}
use Rattle.xml_pieces.specs.Children.{Next, Child, End, next_by, next_step, next}
use Rattle.action_xml.specs.TextForm.{IsWhite, IsName, comment_bytes}
use Rattle.action_xml.specs.GapForm.{Gap, Space, Comment, gaps_bytes, AreGaps}
use Rattle.action_xml.proofs.TextsAgain.{comment_again, end_again, name_again, steps_first, steps_last}
use Rattle.action_xml.proofs.TagsAgain.{name_first, start_not}

-- how many comments there are
comments : List Gap → ℕ
comments [] = 0
comments (Space b ∷ gaps) = comments gaps
comments (Comment inside ∷ gaps) = suc (comments gaps)

space_passed : (parent : List ℕ) (n : ℕ) (b : ℕ) (rest : List ℕ) → is_space b ≡ true → steps (next_step parent) n (b ∷ rest) ≡ steps (next_step parent) n rest
unfolding steps next_step
space_passed parent zero b rest is = refl
space_passed parent (suc n) b rest is = ap (λ r. next_by parent r >>= go_on (steps (next_step parent) n)) (ap (λ t. if t then behind_spaces rest else b ∷ rest) is)

comment_passed : (parent inside rest : List ℕ) → declaration (comment_bytes inside ++ rest) ≡ Ok rest → next_step parent (comment_bytes inside ++ rest) ≡ Ok (On rest)
unfolding next_step
comment_passed parent inside rest e = ap (λ r. r >>= λ x. Ok (On x)) e

gaps_again : (parent rest : List ℕ) (gaps : List Gap) (n : ℕ) → AreGaps gaps → steps (next_step parent) (comments gaps + n) (gaps_bytes gaps ++ rest) ≡ steps (next_step parent) n rest
unfolding comments
gaps_again parent rest [] n are = let k : 0 + n ≡ n = omega arith in ap (λ m. steps (next_step parent) m rest) k
gaps_again parent rest (Space b ∷ gaps) n are = space_passed parent (comments gaps + n) b (gaps_bytes gaps ++ rest) are.0 ∙ gaps_again parent rest gaps n are.1
gaps_again parent rest (Comment inside ∷ gaps) n are =
    let tail : List ℕ = gaps_bytes gaps ++ rest in
    let k : suc (comments gaps) + n ≡ suc (comments gaps + n) = omega arith in
    ap (λ m. steps (next_step parent) m ((comment_bytes inside ++ gaps_bytes gaps) ++ rest)) k
    ∙ ap (λ y. steps (next_step parent) (suc (comments gaps + n)) y) (append_assoc (comment_bytes inside) (gaps_bytes gaps) rest)
    ∙ steps_first (next_step parent) (comments gaps + n) (comment_bytes inside ++ tail) tail (comment_passed parent inside tail (comment_again inside tail are.0))
    ∙ gaps_again parent rest gaps n are.1

gaps_long : (gaps : List Gap) → comments gaps ≤ length (gaps_bytes gaps)
unfolding comments
gaps_long [] = omega arith
gaps_long (Space b ∷ gaps) = omega (arith, gaps_long gaps)
gaps_long (Comment inside ∷ gaps) = omega (arith, gaps_long gaps, length-append (comment_bytes inside) (gaps_bytes gaps))

next_from : (parent : List ℕ) (gaps : List Gap) (b : ℕ) (rest : List ℕ) (x : Next) → AreGaps gaps → next_step parent (b ∷ rest) ≡ Ok (Done x) → next parent (gaps_bytes gaps ++ b ∷ rest) ≡ Ok x
unfolding next
next_from parent gaps b rest x are last =
    let bytes : List ℕ = gaps_bytes gaps ++ b ∷ rest in
    let m : ℕ = length bytes - (comments gaps + 1) in
    let k : length bytes ≡ comments gaps + suc m = omega (arith, gaps_long gaps, length-append (gaps_bytes gaps) (b ∷ rest)) in
    ap (λ n. steps (next_step parent) n bytes) k ∙ gaps_again parent (b ∷ rest) gaps (suc m) are ∙ steps_last (next_step parent) m (b ∷ rest) x last

child_step : (parent : List ℕ) (c : ℕ) (bytes rest : List ℕ) (n : List ℕ) → is_name_start c ≡ true → name (60 ∷ c ∷ bytes) (c ∷ bytes) ≡ Ok (n, rest) → next_step parent (60 ∷ c ∷ bytes) ≡ Ok (Done (Child n (60 ∷ c ∷ bytes) rest))
unfolding next_step
child_step parent c bytes rest n start read = rw (start_not c 33 start refl, start_not c 47 start refl, start_not c 63 start refl, read) refl

-- an element behind white space and comments, by its name and what follows that
pub child_again : (parent n : List ℕ) (gaps : List Gap) (c : ℕ) (rest : List ℕ) → AreGaps gaps → IsName n → is_name_byte c ≡ false
    → next parent (gaps_bytes gaps ++ 60 ∷ (n ++ c ∷ rest)) ≡ Ok (Child n (60 ∷ (n ++ c ∷ rest)) (c ∷ rest))
child_again parent n gaps c rest are is other =
    let f = name_first n is in
    let here : List ℕ = 60 ∷ (n ++ c ∷ rest) in
    let split : n ++ c ∷ rest ≡ f.0 ∷ (f.1 ++ c ∷ rest) = ap (λ m. m ++ c ∷ rest) f.2 in
    let read : name (60 ∷ f.0 ∷ (f.1 ++ c ∷ rest)) (f.0 ∷ (f.1 ++ c ∷ rest)) ≡ Ok (n, c ∷ rest) = ap (λ r. name (60 ∷ r) r) (sym split) ∙ name_again here n c rest is other in
    let first : next_step parent here ≡ Ok (Done (Child n here (c ∷ rest))) =
    ap (λ r. next_step parent (60 ∷ r)) split ∙ child_step parent f.0 (f.1 ++ c ∷ rest) (c ∷ rest) n f.3 read ∙ ap (λ r. Ok (Done (Child n (60 ∷ r) (c ∷ rest)))) (sym split) in
    next_from parent gaps 60 (n ++ c ∷ rest) (Child n here (c ∷ rest)) are first

end_step : (parent bytes rest : List ℕ) → end_tag parent (60 ∷ 47 ∷ bytes) ≡ Ok rest → next_step parent (60 ∷ 47 ∷ bytes) ≡ Ok (Done (End rest))
unfolding next_step
end_step parent bytes rest e = ap (λ r. r >>= λ x. Ok (Done (End x))) e

-- the end of the parent behind white space and comments
pub end_of_parent_again : (parent white : List ℕ) (gaps : List Gap) (rest : List ℕ) → AreGaps gaps → IsName parent → IsWhite white
    → next parent (gaps_bytes gaps ++ (codes "</" ++ (parent ++ (white ++ 62 ∷ rest)))) ≡ Ok (End rest)
end_of_parent_again parent white gaps rest are is is_white =
    let bytes : List ℕ = parent ++ (white ++ 62 ∷ rest) in
    next_from parent gaps 60 (47 ∷ bytes) (End rest) are (end_step parent bytes rest (end_again parent white rest is is_white))
