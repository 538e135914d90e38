-- What a call says of its pass, whatever its outcome.
use Rattle.std.proofs.Common.{◌≡◌, ℕ, List, Result, Ok, Err}
use Rattle.std.specs.Prelude.{IfOk, IfErr}
use mathlib.Core.List.{IsPrefix}
use Rattle.history_lock.specs.declared.machine.EndCause.{EndCause}
use Rattle.history_lock.specs.declared.refused.AdmitRefused.{AdmitRefused}
use Rattle.history_lock.specs.declared.refused.AdmitRefused.TheVariants.{Full}
use Rattle.history_lock.specs.declared.refused.CallRefused.{CallRefused}
use Rattle.history_lock.specs.declared.refused.CallRefused.TheVariants.{Ended, Machine}
use Rattle.history_lock.specs.Known.{Known}
use Rattle.history_lock.specs.Calls.{Learned, Answered, Refused, Admitted, NoneAdmitted}
use Rattle.history_lock.proofs.Growth.{learned_begins, learned_own_begins}

module _ {I : Type 0} (caller_of : I → ℕ) (Legal : List I → Type 0) where
  -- an admission teaches the old pass, whether one is made or not
  pub admit_learned : (v w : Known I) (result : Result (Known I) AdmitRefused) → IfOk result (λ p. Admitted caller_of Legal v p w) → IfErr result (λ r. NoneAdmitted caller_of Legal v r w) → Learned caller_of Legal v w
  admit_learned v w (Ok p) ok err = ok.learned
  admit_learned v w (Err (Full admitted)) ok err = err.2

module _ {I O R F : Type 0} (caller_of : I → ℕ) (Legal : List I → Type 0) (is_ready : ℕ → O → List I → Type 0) (gives : ℕ → O → List I → I → R → Type 0) (refuses : ℕ → O → List I → F → Type 0) (fits : EndCause → List I → ℕ → Type 0) where
  -- a refused call teaches its pass
  refused_learned : (v w : Known I) (op : O) (r : CallRefused O F) → Refused caller_of Legal refuses fits v op r w → Learned caller_of Legal v w
  refused_learned v w op (Ended cause back) refused = refused.2
  refused_learned v w op (Machine refusal back) refused = refused.2

  -- a call's pass is the same caller's
  pub call_number : (v w : Known I) (op : O) (result : Result R (CallRefused O F)) → IfOk result (λ reply. Answered caller_of Legal is_ready gives v op reply w) → IfErr result (λ r. Refused caller_of Legal refuses fits v op r w)
      → w.number ≡ v.number
  call_number v w op (Ok reply) ok err = ok.learned.number
  call_number v w op (Err r) ok err = (refused_learned v w op r err).number

  -- what a call's pass knew begins what it knows
  pub call_grows : (v w : Known I) (op : O) (result : Result R (CallRefused O F)) → IfOk result (λ reply. Answered caller_of Legal is_ready gives v op reply w) → IfErr result (λ r. Refused caller_of Legal refuses fits v op r w)
      → IsPrefix v.history w.history
  call_grows v w op (Ok reply) ok err = learned_own_begins caller_of Legal v ok.entry w ok.learned
  call_grows v w op (Err r) ok err = learned_begins caller_of Legal v w (refused_learned v w op r err)
