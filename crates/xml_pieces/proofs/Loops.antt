-- Loops, step by step.
use Rattle.std.proofs.Common.{◌≡◌, ℕ, suc, ◌+◌, ◌-◌, ◌<◌, ◌≤◌, List, ◌∷◌, Bool, true, false, Ok, Err, Result, refl, sym, ap, ◌∙◌, arith}
use Rattle.std.specs.Prelude.{if◌then◌else◌}
use Rattle.xml_pieces.specs.declared.fault.Fault.{Fault}
use Rattle.xml_pieces.specs.declared.fault.Stop.{Stop}
use Rattle.xml_pieces.specs.declared.fault.Stop.TheVariants as stop
use Rattle.xml_pieces.specs.declared.fault.XmlFaultKind.TheVariants as kind
use Rattle.xml_pieces.specs.Reading.{◌>>=◌, cut_off, Step, On, Done, go_on, steps, Stops}
use Rattle.xml_pieces.specs.Bytes.{skip}

pub skip_more : (test : ℕ → Bool) (bytes behind : List ℕ) (b : ℕ) → bytes ≡ b ∷ behind → test b ≡ true → skip test bytes ≡ skip test behind
skip_more test bytes behind b is passes = ap (skip test) is ∙ ap (λ t. if t then skip test behind else b ∷ behind) passes

pub skip_end : (test : ℕ → Bool) (bytes behind : List ℕ) (b : ℕ) → bytes ≡ b ∷ behind → test b ≡ false → skip test bytes ≡ bytes
skip_end test bytes behind b is fails = ap (skip test) is ∙ ap (λ t. if t then skip test behind else b ∷ behind) fails ∙ sym is

steps_at : {S X : Type 0} (step : S → Result (Step S X) Fault) (n i : ℕ) (s : S) → i < n → steps step (n - i) s ≡ step s >>= go_on (steps step (n - (i + 1)))
unfolding steps
steps_at step n i s lt = let k : n - i ≡ suc (n - (i + 1)) = omega arith in rw k refl

-- a step that goes on
pub steps_on : {S X : Type 0} (step : S → Result (Step S X) Fault) (n i : ℕ) (s t : S) (total : Result X Fault) → i < n → steps step (n - i) s ≡ total → step s ≡ Ok (On t) → steps step (n - (i + 1)) t ≡ total
steps_on step n i s t total lt so_far is = ap (λ r. r >>= go_on (steps step (n - (i + 1)))) (sym is) ∙ sym (steps_at step n i s lt) ∙ so_far

-- the last step
pub steps_done : {S X : Type 0} (step : S → Result (Step S X) Fault) (n i : ℕ) (s : S) (x : X) (total : Result X Fault) → i < n → steps step (n - i) s ≡ total → step s ≡ Ok (Done x) → total ≡ Ok x
steps_done step n i s x total lt so_far is = sym so_far ∙ steps_at step n i s lt ∙ ap (λ r. r >>= go_on (steps step (n - (i + 1)))) is

-- a step with a fault
pub steps_err : {S X : Type 0} (step : S → Result (Step S X) Fault) (n i : ℕ) (s : S) (e : Fault) (total : Result X Fault) → i < n → steps step (n - i) s ≡ total → step s ≡ Err e → total ≡ Err e
steps_err step n i s e total lt so_far is = sym so_far ∙ steps_at step n i s lt ∙ ap (λ r. r >>= go_on (steps step (n - (i + 1)))) is

pub steps_stop : {S X : Type 0} (step : S → Result (Step S X) Fault) (n i : ℕ) (s : S) (e : Stop) (total : Result X Fault) → i < n → steps step (n - i) s ≡ total → Stops e (step s) → Stops e total
steps_stop step n i s stop.Memory total lt so_far stops = tt
steps_stop step n i s (stop.Bad fault) total lt so_far stops = steps_err step n i s fault total lt so_far stops

-- no step is left
pub steps_end : {S X : Type 0} (step : S → Result (Step S X) Fault) (n i : ℕ) (s : S) (total : Result X Fault) → n ≤ i → steps step (n - i) s ≡ total → total ≡ cut_off
unfolding steps
steps_end step n i s total le so_far = let k : n - i ≡ 0 = omega arith in let e : steps step (n - i) s ≡ cut_off = rw k refl in sym so_far ∙ e

pub steps_over : {S X : Type 0} (step : S → Result (Step S X) Fault) (n i : ℕ) (s : S) (e : Stop) (total : Result X Fault) → n ≤ i → steps step (n - i) s ≡ total → e ≡ stop.Bad (record { kind = kind.Malformed; left = 0 }) → Stops e total
steps_over step n i s stop.Memory total le so_far is = absurd cc
steps_over step n i s (stop.Bad fault) total le so_far is = let f : fault ≡ record { kind = kind.Malformed; left = 0 } = cc in rw f (steps_end step n i s total le so_far)

pub ruleset steps_rules = (steps_on, steps_done, steps_stop, steps_end, steps_over)
