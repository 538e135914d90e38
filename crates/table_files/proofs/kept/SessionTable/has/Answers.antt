use Rattle.std.proofs.Common.{◌∙◌}
use Rattle.table_files.proofs.Keys.{now_of, name_stands}
use Rattle.table_files.proofs.kept.SessionTable.has.Goals as goal

pub returns : goal.returns
returns c = record {
  has = c.contains.ensures ∙ name_stands c.args.self.now.sessions now_of (λ s. s.id) c.args.self.now.ids.keys c.args.id.now c.args.self.now.ids_stand;
}
