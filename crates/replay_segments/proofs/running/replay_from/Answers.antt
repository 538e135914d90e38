-- What was skipped is told first.
use Rattle.std.proofs.Common.{[], refl, true}
use Rattle.replay_run.proofs.Faults.{outputs_later, write_ends, write_reads}
use Rattle.replay_run.proofs.Promised.{may_begin, may_skipped}
use Rattle.replay_segments.proofs.Filing.{told_after, untold}
use Rattle.replay_segments.proofs.running.replay_from.Goals as goal

pub write_skipped-requires-clause-may : goal.write_skipped-requires-clause-may
write_skipped-requires-clause-may g c κs within = may_skipped g.O.Sink.allowed _ c.args.first c.requires.may

pub run_told-requires-clause-may : goal.run_told-requires-clause-may
run_told-requires-clause-may g c κs within = may_begin g.O.Sink.allowed _ _ c.args.first true [] c.in-Ok.ensures.ok refl c.requires.may

pub returns-in-Ok-clause-run : goal.returns-in-Ok-clause-run
returns-in-Ok-clause-run g c = told_after c.args.first _ _ _ _ _ _ _ _ _ _ c.run_told.result c.in-Ok.ensures.ok c.run_told.ensures.run

pub returns-in-Err-clause-run : goal.returns-in-Err-clause-run
returns-in-Err-clause-run g c = rw c.end.ensures.end (untold c.args.first _ _ _ _ _ _ _ _ c.in-Err.refused c.in-Err.ensures.err)
