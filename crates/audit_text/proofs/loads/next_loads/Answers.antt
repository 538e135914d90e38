use Rattle.std.proofs.Common.{rules}
use Rattle.audit_text.specs.Audit.{load}
use Rattle.audit_text.proofs.Taking.{passed_on, none_taken, one_taken, some_stop, some_lost, all_taken}
use Rattle.audit_text.proofs.loads.next_loads.Goals as goal

pub loop-init : goal.loop-init
loop-init g c = none_taken load c.args.count _ _ (search rules)

pub loop-preserved : goal.loop-preserved
loop-preserved g c =
    rw c.in_ok-try_push.ensures.ok
    (one_taken load c.args.count c.loop.counter c.loop.loads c.in_ok-load.load _ _ _ c.loop-test.true c.loop.invariant c.in_ok-load.ensures.taken)

pub returns-in_err-load : goal.returns-in_err-load
returns-in_err-load g c = record {
  taken = passed_on _ _ _ c.from_residual.result _ c.from_residual.ensures.1 (some_stop load c.args.count c.loop.counter c.loop.loads _ _ _ _ c.loop-test.true c.loop.invariant c.in_err-load.ensures.taken);
}

pub returns-in_err-try_push : goal.returns-in_err-try_push
returns-in_err-try_push g c = record {
  taken = passed_on _ _ _ c.from_residual-in_err-try_push.result _ c.from_residual-in_err-try_push.ensures.1
      (some_lost load c.args.count c.loop.counter c.loop.loads c.in_ok-load.load _ _ _ c.loop.invariant c.in_ok-load.ensures.taken);
}

pub returns : goal.returns
returns g c = record {
  taken = all_taken load c.args.count c.loop.counter c.loop.loads _ _ c.loop-test.false c.loop.invariant;
}
