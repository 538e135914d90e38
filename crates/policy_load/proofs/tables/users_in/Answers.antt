use Rattle.std.proofs.Common.{refl, arith, subst, Err}
use Rattle.std.specs.Prelude.{codes}
use Rattle.pk_types.proofs.Texts.{plain_text}
use Rattle.table_files.specs.Faults.{IsDueFault}
use Rattle.table_files.specs.Users.{users_of}
use Rattle.policy_load.specs.Loads.{table, of_table}
use Rattle.policy_load.proofs.Steps.{step_ok, table_err}
use Rattle.policy_load.proofs.tables.users_in.Goals as goal

pub table-requires-after_bounds : goal.table-requires-after_bounds
table-requires-after_bounds g c = λ κs lives. plain_text (codes "etc/passwd") refl (omega arith)

pub bad_table-requires : goal.bad_table-requires
bad_table-requires g c = plain_text (codes "etc/passwd") refl (omega arith)

pub returns-clause-loads : goal.returns-clause-loads
returns-clause-loads g c =
    λ told e.
    step_ok (table told c.args.root.now (codes "etc/passwd")) (λ bytes. of_table (codes "etc/passwd") (users_of bytes)) c.in_ok-bytes.bytes (Err c.bad_table.result) (c.in_ok-bytes.ensures.bytes told e)
    (table_err (codes "etc/passwd") (users_of c.in_ok-bytes.bytes) c.in-Err.fault c.bad_table.result
    (subst (λ bytes. IsDueFault c.in-Err.fault (users_of bytes)) c.as_slice.ensures.items c.in-Err.ensures.fault) c.bad_table.ensures.refused)
