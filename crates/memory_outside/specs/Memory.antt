-- The counted calls of the objects in memory.
use Rattle.std.specs.Prelude.{◌≡◌, ℕ, List, Bool, cond, nat_eq}
use Rattle.std.specs.List.{list_any}
use Rattle.std.proofs.Common.{arith, drop, length, [], IsTrue}
use Rattle.std.proofs.lemmas.List.{drop_all}
use Rattle.std.proofs.lemmas.Bool.{eqb-true}
use Rattle.pk_outside.specs.Causes.{one_more}

-- What an object in memory counts: the calls made, the faults among them, and the numbers of the
-- calls that are to fail, from 1. Both counts stand still at their greatest value.
pub record Counted : Type 0 where
  pub made : ℕ
  pub faults : ℕ
  pub failing : List ℕ

-- The next call is one of those that are to fail.
abbrev pub fails_next : Counted → Bool
fails_next calls = list_any (λ number. nat_eq number (one_more calls.made)) calls.failing

-- One more call was made, which failed or not.
abbrev pub one_call : Counted → Bool → Counted
one_call calls failed = record calls { made = one_more calls.made; faults = cond failed (one_more calls.faults) calls.faults }

-- Behind all of the bytes nothing is left.
pub used_up : (at : ℕ) (bytes : List ℕ) → IsTrue (nat_eq at (length bytes)) → drop at bytes ≡ []
used_up at bytes at_end = let e : at ≡ length bytes = eqb-true at (length bytes) at_end in drop_all at bytes (omega (arith, e))
