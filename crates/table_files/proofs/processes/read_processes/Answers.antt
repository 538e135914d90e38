-- The set of ids lists what the sessions list.
use Rattle.std.proofs.Common.{◌≡◌, ℕ, List, [], Result, ap, sym, subst, ◌∙◌, rules}
use Rattle.std.specs.Prelude.{IfErr}
use Rattle.authority_model.specs.declared.world.Session.{Session}
use Rattle.authority_model.specs.declared.world.Process.{Process}
use Rattle.table_files.specs.declared.fault.TableFault.{TableFault}
use Rattle.table_files.specs.Faults.{IsDueFault}
use Rattle.table_files.specs.Tables.{table_of}
use Rattle.table_files.specs.Sessions.{is_listed}
use Rattle.table_files.specs.Processes.{with_process_line, processes_of}
use Rattle.table_files.specs.Sets.{NameSet, has_name}
use Rattle.table_files.proofs.processes.read_processes.Goals as goal

due : (bytes : List ℕ) (sessions : List Session) (ids listed : NameSet) (rows : List Process) → listed ≡ ids → ((name : List ℕ) → has_name ids name ≡ is_listed sessions name)
    → rows ≡ [] → table_of (with_process_line (has_name listed)) bytes rows ≡ processes_of bytes sessions
due bytes sessions ids listed rows e same empty =
    ap (λ l. table_of (with_process_line (has_name l)) bytes rows) e
    ∙ ap (λ f. table_of (with_process_line f) bytes rows) (λ i. λ name. same name i)
    ∙ ap (table_of (with_process_line (is_listed sessions)) bytes) empty

pub returns-in_err-table-clause-fault : goal.returns-in_err-table-clause-fault
returns-in_err-table-clause-fault c =
    let P : Result (List Process) TableFault → Type 0 = λ r. IfErr c.from_residual-in_err-table.result (λ fault. IsDueFault fault r) in
    let h : IfErr c.from_residual-in_err-table.result (λ fault. IsDueFault fault (table_of (with_process_line (has_name c.new.result.listed)) c.args.bytes.now c.new.result.processes)) = search rules in
    subst P
    (due c.args.bytes.now c.args.sessions.now c.in_ok-listed.listed c.new.result.listed c.new.result.processes c.new.ensures.listed
    (λ name. c.in_ok-listed.ensures.names name ∙ ap (λ s. is_listed s name) c.as_slice.ensures.items) c.new.ensures.empty)
    h

pub returns-clause-processes : goal.returns-clause-processes
returns-clause-processes c =
    sym
    (due c.args.bytes.now c.args.sessions.now c.in_ok-listed.listed c.new.result.listed c.new.result.processes c.new.ensures.listed
    (λ name. c.in_ok-listed.ensures.names name ∙ ap (λ s. is_listed s name) c.as_slice.ensures.items) c.new.ensures.empty)
    ∙ c.in_ok-table.ensures.rows
