use Rattle.std.proofs.Common.{◌∙◌}
use Rattle.table_files.proofs.Keys.{number_stands}
use Rattle.table_files.proofs.kept.ProcessTable.has.Goals as goal

pub returns : goal.returns
returns c = record {
  has = c.contains.ensures ∙ number_stands c.args.self.now.processes (λ p. p.pid) c.args.self.now.pids.keys c.args.pid c.args.self.now.pids_stand;
}
