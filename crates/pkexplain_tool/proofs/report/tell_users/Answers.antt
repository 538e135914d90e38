-- One more user.
use Rattle.std.proofs.Common.{◌∙◌}
use Rattle.pk_outside.proofs.Written.{on_err}
use Rattle.pkexplain_tool.proofs.Writing.{users_front, users_told}
use Rattle.pkexplain_tool.proofs.report.tell_users.Goals as goal

pub returns-in_err-tell_user-clause-err : goal.returns-in_err-tell_user-clause-err
returns-in_err-tell_user-clause-err g c =
    on_err _
    (users_front c.args.book.now c.args.users.now c.loop-user.user-index c.user-item.result _ _ _ _ _ c.loop-user-test.true c.user-item.is
    c.loop-user.invariant.told c.in_err-tell_user.ensures.err)

pub loop-user-preserved : goal.loop-user-preserved
loop-user-preserved g c = record {
  told = users_told c.args.book.now c.args.users.now c.loop-user.user-index c.user-item.result _ _ _ _ _ _ c.loop-user-test.true c.user-item.is
      c.loop-user.invariant.told c.in_ok-tell_user.ensures.ok;
  quiet = c.in_ok-tell_user.ensures.faults ∙ c.loop-user.invariant.quiet;
}
