use Rattle.std.proofs.Common.{rules}
use Rattle.audit_text.specs.Lines.{line}
use Rattle.audit_text.proofs.Taking.{passed_on, none_taken, one_taken, some_stop, some_lost, all_taken}
use Rattle.audit_text.proofs.loads.next_items.Goals as goal

pub loop-init : goal.loop-init
loop-init g c = none_taken (line c.args.word.now g.T.Spell.codec) c.args.count _ _ (search rules)

pub loop-preserved : goal.loop-preserved
loop-preserved g c =
    rw c.in_ok-try_push.ensures.ok
    (one_taken (line c.args.word.now g.T.Spell.codec) c.args.count c.loop.counter c.loop.items c.in_ok-item.item _ _ _ c.loop-test.true c.loop.invariant c.in_ok-item.ensures.taken)

pub returns-in_err-item : goal.returns-in_err-item
returns-in_err-item g c = record {
  taken = passed_on _ _ _ c.from_residual.result _ c.from_residual.ensures.1 (some_stop (line c.args.word.now g.T.Spell.codec) c.args.count c.loop.counter c.loop.items _ _ _ _ c.loop-test.true c.loop.invariant c.in_err-item.ensures.taken);
}

pub returns-in_err-try_push : goal.returns-in_err-try_push
returns-in_err-try_push g c = record {
  taken = passed_on _ _ _ c.from_residual-in_err-try_push.result _ c.from_residual-in_err-try_push.ensures.1
      (some_lost (line c.args.word.now g.T.Spell.codec) c.args.count c.loop.counter c.loop.items c.in_ok-item.item _ _ _ c.loop.invariant c.in_ok-item.ensures.taken);
}

pub returns : goal.returns
returns g c = record {
  taken = all_taken (line c.args.word.now g.T.Spell.codec) c.args.count c.loop.counter c.loop.items _ _ c.loop-test.false c.loop.invariant;
}
