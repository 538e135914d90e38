use Rattle.std.proofs.Common.{sym, subst}
use Rattle.memory_outside.proofs.watched.WatchedSink.over.Goals as goal

pub invariant_of-result : goal.invariant_of-result
invariant_of-result g c = record { obeys = ∣ subst g.P.WriteRule.allows (sym c.requires.unwritten) g.P.WriteRule.allows_nothing ∣₁ }
