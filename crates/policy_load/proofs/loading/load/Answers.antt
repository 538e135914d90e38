use Rattle.policy_load.proofs.Administrators.{no_admin_fault}
use Rattle.policy_load.proofs.loading.load.Goals as goal

pub finish-requires-after_bounds : goal.finish-requires-after_bounds
finish-requires-after_bounds g c = λ κs lives. no_admin_fault c.as_slice.result.now c.in_ok-findings.findings.items c.in_ok-findings.ensures.found
