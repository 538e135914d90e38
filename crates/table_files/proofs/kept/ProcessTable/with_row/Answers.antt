-- The process is added where its pid is new, its session is listed and there is room.
use Rattle.std.proofs.Common.{Ok, Err, cond, sym, ◌==◌, ◌∙◌}
use Rattle.authority_model.specs.Lists.{any_of}
use Rattle.table_files.specs.declared.fault.TableFault.TheVariants.{Repeated, Dangling}
use Rattle.table_files.specs.Tables.{with_row as with_row_of}
use Rattle.table_files.specs.Processes.{dangles, session_in}
use Rattle.table_files.specs.Sets.{has_name}
use Rattle.table_files.specs.Kept.{process_at}
use Rattle.table_files.proofs.Rows.{otherwise, row_added}
use Rattle.table_files.proofs.kept.ProcessTable.with_row.Goals as goal

pub returns-clause-processes : goal.returns-clause-processes
returns-clause-processes c =
    otherwise (any_of (λ p. c.args.row.now.pid == p.pid) c.args.self.processes) (Err (Repeated c.args.line))
    (cond (dangles (has_name c.args.self.listed) (session_in c.args.row.now.session.now)) (Err (Dangling c.args.line)) (with_row_of (process_at c.args.row.now) c.args.self.processes))
    (Ok c.in_ok-table.table.processes)
    (sym c.has.ensures.has ∙ c.if-has.false)
    (otherwise (dangles (has_name c.args.self.listed) (session_in c.args.row.now.session.now)) (Err (Dangling c.args.line)) (with_row_of (process_at c.args.row.now) c.args.self.processes) (Ok c.in_ok-table.table.processes)
    (sym c.dangles.ensures.dangles ∙ c.if-dangles.false)
    (row_added (process_at c.args.row.now) c.args.self.processes c.in_ok-table.table.processes c.len.result c.len.ensures.length c.if-len-ge-MAX_ROWS.false c.in_ok-table.ensures.processes))
