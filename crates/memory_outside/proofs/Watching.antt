-- What a sink with a rule holds after a write.
use Rattle.std.proofs.Common.{◌++◌, List, ℕ, Some, sym, ◌∙◌, ap, subst, append_assoc, append-nil, take, drop, Result, Ok, Err}
use Rattle.std.proofs.lemmas.List.{take-append-drop}
use Rattle.pk_outside.specs.Streams.{WriteGot}

-- Each prefix of what may be written may be written, so a write of some of the bytes obeys the rule.
pub obeys_after : {E : Type 0} (allows : List ℕ → Type 0) → ((text more : List ℕ) → allows (text ++ more) → allows text)
    → (held after bytes : List ℕ) (r : Result ℕ E) → ∥ allows held ∥₁ → allows (held ++ bytes) → WriteGot (Some held) (Some after) r bytes → ∥ allows after ∥₁
obeys_after allows prefix held after bytes (Ok n) obeys may got =
    ∣ subst allows (sym got)
    (prefix (held ++ take n bytes) (drop n bytes)
    (subst allows (ap (λ r. held ++ r) (sym (take-append-drop n bytes)) ∙ sym (append_assoc held (take n bytes) (drop n bytes))) may)) ∣₁
obeys_after allows prefix held after bytes (Err e) obeys may got = subst (λ (text : List ℕ). ∥ allows text ∥₁) (sym (got ∙ append-nil held)) obeys
