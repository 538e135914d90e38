use Rattle.memory_outside.proofs.Watching.{obeys_after}
use Rattle.memory_outside.proofs.watched.WatchedSinkSink.write.Goals as goal

pub invariant_of-self : goal.invariant_of-self
invariant_of-self g c = record {
  obeys = obeys_after g.P.WriteRule.allows g.P.WriteRule.allows_prefix _ _ _ _ c.args.self.now.obeys c.requires.may c.write.ensures.bytes;
}
