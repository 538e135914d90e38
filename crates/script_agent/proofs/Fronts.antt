-- Prefixes of what is due, and the faults of a link.
use Rattle.std.proofs.Common.{◌≡◌, ℕ, ◌+◌, true, List, [], ◌∷◌, ◌++◌, length, Option, Result, Ok, Err, refl, ap, sym, ◌∙◌, subst, append_assoc, append-nil, arith}
use Rattle.std.specs.Prelude.{IsErrAnd}
use Rattle.pk_outside.specs.Causes.{one_more}
use Rattle.pk_outside.specs.Stations.{has_fault}
use Rattle.authority_model.specs.Words.{Bytes}
use Rattle.client_link.specs.declared.stop.LinkStop.{LinkStop}
use Rattle.client_link.specs.declared.stop.LinkStop.TheVariants as stop
use Rattle.client_link.specs.Faults.{OneFailed}
use Rattle.pk_outside.specs.Allowing.{IsFront}
use Rattle.script_agent.specs.Lines.{LineNow, IsSound}
use Rattle.script_agent.specs.Steps.{link_fails}

pub front_all : (bytes all : Bytes) → bytes ≡ all → IsFront bytes all
front_all bytes all e = ([], sym e ∙ sym (append-nil bytes))

-- a prefix of what comes next
pub front_more : (before written due : Bytes) → IsFront written due → IsFront (before ++ written) (before ++ due)
front_more before written due f = (f.0, ap (λ x. before ++ x) f.1 ∙ sym (append_assoc before written f.0))

-- what was written so far is one too
pub front_before : (before due : Bytes) → IsFront before (before ++ due)
front_before before due = (due, refl)

pub front_along : (a b c d : Bytes) → a ≡ b → c ≡ d → IsFront b d → IsFront a c
front_along a b c d e k f = (f.0, k ∙ f.1 ∙ ap (λ x. x ++ f.0) (sym e))

-- a direction failed, and the other did not
pub fails_write : (now : LineNow) → now.read_faults ≡ 0 → now.write_faults ≡ one_more 0 → link_fails now ≡ true
fails_write now r w = rw (r, w) refl

pub fails_read : (now : LineNow) → now.read_faults ≡ one_more 0 → now.write_faults ≡ 0 → link_fails now ≡ true
fails_read now r w = rw (r, w) refl

-- what holds of an error holds of what is that error
pub err_along : {A E : Type 0} (P : Result A E → Type 0) (result : Result A E) (why : E) → IsErrAnd result (λ (y : E). y ≡ why) → P (Err why) → P result
err_along P (Ok value) why is h = absurd is
err_along P (Err y) why is h = subst (λ x. P (Err x)) (sym is) h
