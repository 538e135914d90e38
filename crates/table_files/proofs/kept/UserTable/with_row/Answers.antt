-- The user is added where neither key stands and there is room.
use Rattle.std.proofs.Common.{Ok, sym, ◌∙◌}
use Rattle.table_files.specs.Tables.{with_row as with_row_of}
use Rattle.table_files.specs.Users.{user_stands}
use Rattle.table_files.specs.Kept.{user_in}
use Rattle.table_files.proofs.Rows.{otherwise, row_added}
use Rattle.table_files.proofs.kept.UserTable.with_row.Goals as goal

pub returns : goal.returns
returns c = record {
  users = otherwise (user_stands (user_in c.args.row.now) c.args.self.users) (Ok c.args.self.users) (with_row_of (user_in c.args.row.now) c.args.self.users) (Ok c.in_ok-table.table.users)
      (sym c.stands.ensures.stands ∙ c.if-stands.false)
      (row_added (user_in c.args.row.now) c.args.self.users c.in_ok-table.table.users c.len.result c.len.ensures.length c.if-len-ge-MAX_ROWS.false c.in_ok-table.ensures.users);
}
