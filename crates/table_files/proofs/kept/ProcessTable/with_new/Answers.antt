-- The pid of the new process goes last.
use Rattle.std.proofs.Common.{ap, ◌∙◌, ◌++◌, ◌∷◌, []}
use Rattle.table_files.specs.Kept.{process_at}
use Rattle.table_files.proofs.Keys.{number_pushed}
use Rattle.table_files.proofs.kept.ProcessTable.with_new.Goals as goal

pub invariant_of-result : goal.invariant_of-result
invariant_of-result c = record {
  pids_stand = number_pushed c.args.self.processes (λ p. p.pid) c.args.self.pids.keys c.insert.new.self.keys (process_at c.args.row.now) c.try_push.new.self
      c.args.self.pids_stand c.requires.new c.in_ok-insert.ensures.keys
      (c.in_ok-try_push.ensures.ok ∙ ap (λ p. c.args.self.processes ++ p ∷ []) c.in_ok-process.ensures.process);
}
