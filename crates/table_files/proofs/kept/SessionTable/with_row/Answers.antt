-- The session is added where its id is new and there is room.
use Rattle.std.proofs.Common.{Ok, Err, sym, ◌∙◌}
use Rattle.table_files.specs.declared.fault.TableFault.TheVariants.{Repeated}
use Rattle.table_files.specs.Tables.{with_row as with_row_of}
use Rattle.table_files.specs.Sessions.{is_listed}
use Rattle.table_files.specs.Kept.{session_at}
use Rattle.table_files.proofs.Rows.{otherwise, row_added}
use Rattle.table_files.proofs.kept.SessionTable.with_row.Goals as goal

pub returns : goal.returns
returns c = record {
  sessions = otherwise (is_listed c.args.self.sessions c.args.row.now.id.now) (Err (Repeated c.args.line)) (with_row_of (session_at c.args.row.now) c.args.self.sessions) (Ok c.in_ok-table.table.sessions)
      (sym c.has.ensures.has ∙ c.if-has.false)
      (row_added (session_at c.args.row.now) c.args.self.sessions c.in_ok-table.table.sessions c.len.result c.len.ensures.length c.if-len-ge-MAX_ROWS.false c.in_ok-table.ensures.sessions);
}
