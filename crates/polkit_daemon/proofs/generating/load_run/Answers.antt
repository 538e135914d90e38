-- Where memory is refused nothing was written.
use Rattle.std.proofs.Common.{◌∙◌}
use Rattle.pk_outside.proofs.Going.{may_go_whole}
use Rattle.polkit_daemon.proofs.Loading.{none_written}
use Rattle.polkit_daemon.proofs.generating.load_run.Goals as goal

pub returns-in-Err-NoMemory-clause-run : goal.returns-in-Err-NoMemory-clause-run
returns-in-Err-NoMemory-clause-run g c = none_written _ _

pub write_all-requires-clause-may : goal.write_all-requires-clause-may
write_all-requires-clause-may g c κs within = rw (c.as_slice.ensures.items ∙ c.in-Ok.ensures.line) (may_go_whole g.O.Sink.allowed _ _ c.requires.may)
