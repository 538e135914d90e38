use Rattle.std.proofs.Common.{◌∙◌}
use Rattle.table_files.proofs.Keys.{name_stands}
use Rattle.policy_load.proofs.files.kept.ActionTable.has.Goals as goal

pub returns : goal.returns
returns c = record {
  has = c.contains.ensures ∙ name_stands c.args.self.now.actions (λ id. id.items) (λ a. a.id) c.args.self.now.ids.keys c.args.id.now c.args.self.now.ids_stand;
}
