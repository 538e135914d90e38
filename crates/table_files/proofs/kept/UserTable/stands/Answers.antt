use Rattle.table_files.proofs.Keys.{number_found, name_found}
use Rattle.table_files.proofs.kept.UserTable.stands.Goals as goal

pub returns-then-contains : goal.returns-then-contains
returns-then-contains c = record {
  stands = number_found c.args.self.now.users (λ r. r.uid) (λ r. r.name) c.args.self.now.uids.keys c.args.row.now.uid c.args.row.now.name.now c.contains.result
      c.args.self.now.uids_stand c.contains.ensures c.if-contains.true;
}

pub returns-else-contains : goal.returns-else-contains
returns-else-contains c = record {
  stands = name_found c.args.self.now.users (λ r. r.uid) (λ r. r.name) c.args.self.now.uids.keys c.args.self.now.names.keys c.args.row.now.uid c.args.row.now.name.now
      c.contains.result c.contains-else-contains.result c.args.self.now.uids_stand c.args.self.now.names_stand c.contains.ensures c.if-contains.false
      c.contains-else-contains.ensures;
}
