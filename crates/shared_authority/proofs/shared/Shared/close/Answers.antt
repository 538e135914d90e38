-- The authority that is given back is the one that was under the lock.
use Rattle.std.proofs.Common.{◌≡◌, sym, subst}
use Rattle.std.specs.Prelude.{IfSome}
use mathlib.Core.List.{IsPrefix}
use Rattle.authority_core.specs.Journal.{Journal}
use Rattle.authority_laws.specs.Batches.{in_order}
use Rattle.shared_authority.proofs.shared.Shared.close.Goals as goal

pub returns-clause-begins : goal.returns-clause-begins
returns-clause-begins g c = subst (λ (j : Journal). IsPrefix c.args.pass.history (in_order j.history)) (sym c.into_authority.ensures.same) c.close.ensures.begins

pub returns-clause-ended : goal.returns-clause-ended
returns-clause-ended g c = subst (λ (j : Journal). IfSome c.args.pass.ended (λ _. in_order j.history ≡ c.args.pass.history)) (sym c.into_authority.ensures.same) c.close.ensures.ended
