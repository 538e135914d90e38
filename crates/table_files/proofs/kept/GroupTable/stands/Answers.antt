use Rattle.std.proofs.Common.{sym, ◌∙◌}
use Rattle.table_files.specs.Kept.{listing_in}
use Rattle.table_files.proofs.Keys.{number_found, name_found}
use Rattle.table_files.proofs.GroupRows.{stands-rows}
use Rattle.table_files.proofs.kept.GroupTable.stands.Goals as goal

pub returns-then-contains : goal.returns-then-contains
returns-then-contains c = record {
  stands = number_found c.args.self.now.rows.items (λ r. r.gid) (λ r. r.name.now) c.args.self.now.gids.keys c.args.row.now.gid c.args.row.now.name.now c.contains.result
      c.args.self.now.gids_stand c.contains.ensures c.if-contains.true
      ∙ sym (stands-rows (listing_in c.args.row.now).group c.args.self.now.rows.items);
}

pub returns-else-contains : goal.returns-else-contains
returns-else-contains c = record {
  stands = name_found c.args.self.now.rows.items (λ r. r.gid) (λ r. r.name.now) c.args.self.now.gids.keys c.args.self.now.names.keys c.args.row.now.gid c.args.row.now.name.now
      c.contains.result c.contains-else-contains.result c.args.self.now.gids_stand c.args.self.now.names_stand c.contains.ensures c.if-contains.false
      c.contains-else-contains.ensures
      ∙ sym (stands-rows (listing_in c.args.row.now).group c.args.self.now.rows.items);
}
