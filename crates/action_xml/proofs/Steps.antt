-- Loops of reading, from piece to piece.
use Rattle.std.proofs.Common.{◌≡◌, ℕ, zero, suc, ◌+◌, ◌-◌, ◌<◌, Ok, Err, Result, refl, ap, ◌∙◌, arith}
use Rattle.xml_pieces.specs.declared.fault.Fault.{Fault}
use Rattle.xml_pieces.specs.Reading.{◌>>=◌, Step, On, Done, go_on, steps}

-- so many steps lead from one state to another
abbrev pub Leads : {S X : Type 0} → (S → Result (Step S X) Fault) → ℕ → S → S → Type 0
Leads step k s t = (n : ℕ) → steps step (k + n) s ≡ steps step n t

pub leads_none : {S X : Type 0} (step : S → Result (Step S X) Fault) (s : S) → Leads step 0 s s
leads_none step s n = let k : 0 + n ≡ n = omega arith in ap (λ m. steps step m s) k

pub leads_first : {S X : Type 0} (step : S → Result (Step S X) Fault) (k : ℕ) (s t u : S) → step s ≡ Ok (On t) → Leads step k t u → Leads step (suc k) s u
unfolding steps
leads_first step k s t u is more n =
    let c : suc k + n ≡ suc (k + n) = omega arith in
    ap (λ m. steps step m s) c ∙ ap (λ r. r >>= go_on (steps step (k + n))) is ∙ more n

-- and the next one is the last
pub leads_done : {S X : Type 0} (step : S → Result (Step S X) Fault) (k m : ℕ) (s t : S) (x : X) → Leads step k s t → step t ≡ Ok (Done x) → k < m → steps step m s ≡ Ok x
unfolding steps
leads_done step k m s t x leads done lt =
    let c : m ≡ k + suc (m - (k + 1)) = omega arith in
    ap (λ n. steps step n s) c ∙ leads (suc (m - (k + 1))) ∙ ap (λ r. r >>= go_on (steps step (m - (k + 1)))) done

abbrev pub ok : {A : Type 0} → A → Result A Fault
ok x = Ok x

-- a step that goes on, and one that is the last
abbrev pub on : {S X : Type 0} → S → Result (Step S X) Fault
on s = Ok (On s)

abbrev pub done : {S X : Type 0} → X → Result (Step S X) Fault
done x = Ok (Done x)

pub not_on : {S X : Type 0} (x : X) (s : S) → done x ≡ on s → ⊥
not_on x s e = cc

pub not_done : {S X : Type 0} (x : X) (s : S) → on s ≡ done x → ⊥
not_done x s e = cc

pub on_same : {S X : Type 0} (s t : S) → on {X = X} s ≡ on t → s ≡ t
on_same s t e = cc

pub done_same : {S X : Type 0} (x y : X) → done {S = S} x ≡ done y → x ≡ y
done_same x y e = cc

-- what holds of each last step, and is kept by each step before one, holds of every loop that ends
pub steps_found : {S X : Type 0} (step : S → Result (Step S X) Fault) (F : S → X → Type 0)
    → ((s : S) (x : X) → step s ≡ Ok (Done x) → F s x)
    → ((s t : S) (x : X) → step s ≡ Ok (On t) → F t x → F s x)
    → (n : ℕ) (s : S) (x : X) → steps step n s ≡ Ok x → F s x
unfolding steps
steps_found {S = S} {X = X} step F last on zero s x e = absurd (cc)
steps_found {S = S} {X = X} step F last on (suc n) s x e = of (step s) refl (λ t e. steps_found step F last on n t x e) e
  where
    last_same : (y : X) → ok y ≡ ok x → y ≡ x
    last_same y e = cc

    of : (r : Result (Step S X) Fault) → step s ≡ r → ((t : S) → steps step n t ≡ Ok x → F t x) → (r >>= go_on (steps step n)) ≡ Ok x → F s x
    of (Ok (On t)) is ih e = on s t x is (ih t e)
    of (Ok (Done y)) is ih e = last s x (is ∙ ap done (last_same y e))
    of (Err d) is ih e = absurd (cc)
