-- The process was taken out, or was not listed; or the lock has ended.
use Rattle.std.proofs.Common.{false, true, inl, inr}
use Rattle.history_lock.proofs.Growth.{learned_trans}
use Rattle.shared_authority.specs.Journals.{IsJournal, caller_of}
use Rattle.connection_lookout.proofs.Unlisting.{not_listed_out, refused_learned, unlisted_out}
use Rattle.connection_lookout.proofs.lookout.take_out.Goals as goal

pub returns-in-Ok : goal.returns-in-Ok
returns-in-Ok g c = record { out = (true, (_, c.in-Ok.ensures.ok), inl (unlisted_out c.args.sighter.now c.args.pid c.args.start _ c.submit_unlist.new.pass c.in-Ok.ensures.ok)) }

pub returns-in-None : goal.returns-in-None
returns-in-None g c = record {
  out = (
    false,
    inr (refused_learned g.L.LimitsName.limits c.args.sighter.now c.args.pid c.args.start c.in-Err.refused c.submit_unlist.new.pass c.in-Err.ensures.err),
    inl (not_listed_out g.L.LimitsName.limits c.args.sighter.now c.args.pid c.args.start c.in-Err.refused c.submit_unlist.new.pass c.in-None.ensures.else_ends c.in-Err.ensures.err),
  );
}

pub returns-in-Some : goal.returns-in-Some
returns-in-Some g c = record {
  out = (
    false,
    inr
        (learned_trans caller_of IsJournal c.args.sighter.now c.submit_unlist.new.pass c.end.new.pass
        (refused_learned g.L.LimitsName.limits c.args.sighter.now c.args.pid c.args.start c.in-Err.refused c.submit_unlist.new.pass c.in-Err.ensures.err) c.end.ensures.learned),
    inr (c.end.result, c.end.ensures.knows),
  );
}
