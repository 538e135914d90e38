-- Standard output takes any text.
use Rattle.std.proofs.Common.{None}
use Rattle.polkit_daemon.proofs.Promised.{may_run_free}
use Rattle.daemon_program.proofs.command.Goals as goal

pub polkitd-status-requires-clause-may : goal.polkitd-status-requires-clause-may
polkitd-status-requires-clause-may g c κs within = may_run_free _ None (g.T.Tree.told c.args.tree.now) _ (λ text. tt {0})
