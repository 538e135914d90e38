-- What stands at the front of bytes that begin with an open line.
use Rattle.std.proofs.Common.{◌≡◌, ◌≢◌, ℕ, suc, ◌<◌, ◌≤◌, List, [], ◌∷◌, ◌++◌, length, Option, Some, None, IfSome, refl, ap, ◌∙◌, arith, length-append, nat_lt}
use Rattle.std.specs.Prelude.{if◌then◌else◌}
use Rattle.std.proofs.lemmas.Bool.{ne_eqb}
use Rattle.std.proofs.lemmas.Bool.Decides.{nat_tests}
use Rattle.link_handshake.specs.Lines.{onto_line, first_line, Line, Part, Over, front_of, front, NoLineEnd, IsOpenLine}

first_line-none : (line : List ℕ) → NoLineEnd line → first_line line ≡ None
first_line-none [] none = refl
first_line-none (b ∷ line) none = ap (λ t. if t then Some ([], line) else onto_line b (first_line line)) (ne_eqb b 10 none.0) ∙ ap (onto_line b) (first_line-none line none.1)

first_line-whole : (line more : List ℕ) → NoLineEnd line → first_line (line ++ 10 ∷ more) ≡ Some (line, more)
first_line-whole [] more none = refl
first_line-whole (b ∷ line) more none =
    ap (λ t. if t then Some ([], line ++ 10 ∷ more) else onto_line b (first_line (line ++ 10 ∷ more))) (ne_eqb b 10 none.0)
    ∙ ap (onto_line b) (first_line-whole line more none.1)

onto_longer : (b len : ℕ) (o : Option (List ℕ × List ℕ)) → IfSome o (λ cut. len ≤ length cut.0) → IfSome (onto_line b o) (λ cut. suc len ≤ length cut.0)
onto_longer b len None longer = tt
onto_longer b len (Some cut) longer = omega arith

-- a line that begins with an open one is no shorter
first_line-longer : (line rest : List ℕ) → NoLineEnd line → IfSome (first_line (line ++ rest)) (λ cut. length line ≤ length cut.0)
first_line-longer [] rest none = any (first_line rest)
  where
    any : (o : Option (List ℕ × List ℕ)) → IfSome o (λ cut. 0 ≤ length cut.0)
    any None = tt
    any (Some cut) = omega arith
first_line-longer (b ∷ line) rest none =
    rw (ne_eqb b 10 none.0) (onto_longer b (length line) (first_line (line ++ rest)) (first_line-longer line rest none.1))

over_512 : (o : Option (List ℕ × List ℕ)) (len : ℕ) → IfSome o (λ cut. 512 ≤ length cut.0) → 512 < len → front_of o len ≡ Over
over_512 None len longer more = grind (arith, nat_tests)
over_512 (Some cut) len longer more = grind (arith, nat_tests)

pub front-part : (line : List ℕ) → IsOpenLine line → front line ≡ Part
unfolding front
front-part line is = ap (λ o. front_of o (length line)) (first_line-none line is.open_yet) ∙ part (length line) is.fits
  where
    part : (len : ℕ) → len ≤ 512 → front_of None len ≡ Part
    part len fits = grind (arith, nat_tests)

pub front-over : (line more : List ℕ) (b : ℕ) → IsOpenLine line → length line ≡ 512 → front (line ++ b ∷ more) ≡ Over
unfolding front
front-over line more b is full =
    over_512 (first_line (line ++ b ∷ more)) (length (line ++ b ∷ more))
    (let longer = first_line-longer line (b ∷ more) is.open_yet in rw full at longer)
    (omega (arith, length-append line (b ∷ more), full))

pub front-line : (line more : List ℕ) → IsOpenLine line → length line < 512 → front (line ++ 10 ∷ more) ≡ Line line more
unfolding front
front-line line more is fits = ap (λ o. front_of o (length (line ++ 10 ∷ more))) (first_line-whole line more is.open_yet) ∙ whole (length line) fits
  where
    whole : (len : ℕ) → len < 512 → (if nat_lt len 512 then Line line more else Over) ≡ Line line more
    whole len fits = grind (arith, nat_tests)

NoLineEnd-push : (line : List ℕ) (b : ℕ) → NoLineEnd line → b ≢ 10 → NoLineEnd (line ++ b ∷ [])
NoLineEnd-push [] b none other = (other, tt)
NoLineEnd-push (c ∷ line) b none other = (none.0, NoLineEnd-push line b none.1 other)

pub IsOpenLine-push : (line new : List ℕ) (b : ℕ) → new ≡ line ++ b ∷ [] → IsOpenLine line → length line < 512 → b ≢ 10 → IsOpenLine new
IsOpenLine-push line new b e is room other =
    rw e (record { open_yet = NoLineEnd-push line b is.open_yet other; fits = omega (arith, length-append line (b ∷ [])) })
