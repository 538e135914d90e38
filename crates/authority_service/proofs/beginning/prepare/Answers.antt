use Rattle.authority_service.proofs.FirstLoad.{begins_longer, some_begun}
use Rattle.history_lock.proofs.Prefixes.{prefix_trans}
use Rattle.authority_service.proofs.beginning.prepare.Goals as goal

pub returns-in_err-control-clause-begins : goal.returns-in_err-control-clause-begins
returns-in_err-control-clause-begins g c =
    let z = c.enter_first.new.zero in
    begins_longer c.args.first z.history c.admit_one.new.zero.history c.enter_first.ensures.begins (some_begun z c.in_ok-enter_first.ensures.begun) c.admit_one.ensures.grows

pub returns-in_err-passes-clause-begins : goal.returns-in_err-passes-clause-begins
returns-in_err-passes-clause-begins g c =
    let z = c.enter_first.new.zero in
    begins_longer c.args.first z.history c.admit_passes.new.zero.history c.enter_first.ensures.begins (some_begun z c.in_ok-enter_first.ensures.begun)
    (prefix_trans z.history c.admit_one.new.zero.history c.admit_passes.new.zero.history c.admit_one.ensures.grows c.admit_passes.ensures.grows)

pub returns-in_default-clause-begins : goal.returns-in_default-clause-begins
returns-in_default-clause-begins g c =
    let z = c.enter_first.new.zero in
    begins_longer c.args.first z.history c.admit_passes.new.zero.history c.enter_first.ensures.begins (some_begun z c.in_ok-enter_first.ensures.begun)
    (prefix_trans z.history c.admit_one.new.zero.history c.admit_passes.new.zero.history c.admit_one.ensures.grows c.admit_passes.ensures.grows)

pub returns-clause-begins : goal.returns-clause-begins
returns-clause-begins g c =
    let z = c.enter_first.new.zero in
    begins_longer c.args.first z.history c.admit_passes.new.zero.history c.enter_first.ensures.begins (some_begun z c.in_ok-enter_first.ensures.begun)
    (prefix_trans z.history c.admit_one.new.zero.history c.admit_passes.new.zero.history c.admit_one.ensures.grows c.admit_passes.ensures.grows)
