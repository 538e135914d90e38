-- A legal journal has no yes without a licence.
use Rattle.std.proofs.Common.{subst}
use Rattle.authority_core.specs.Journal.{Journal}
use Rattle.authority_model.specs.Items.{items_of}
use Rattle.authority_model.specs.Licensed.{AllLicensed}
use Rattle.authority_laws.proofs.Tracing.{access}
use Rattle.authority_core.proofs.authority.Authority.history.Goals as goal

pub returns-clause-licensed : goal.returns-clause-licensed
returns-clause-licensed c = subst (λ (j : Journal). AllLicensed (items_of j.history)) c.self.view_is (access _ c.self.invariant.legal.items)
