use Rattle.std.proofs.Common.{refl, arith}
use Rattle.std.specs.Prelude.{codes}
use Rattle.pk_types.proofs.Texts.{plain_text}
use Rattle.policy_load.proofs.tables.processes_in.Goals as goal

pub table-requires-after_bounds : goal.table-requires-after_bounds
table-requires-after_bounds g c = λ κs lives. plain_text (codes "tables/processes") refl (omega arith)

pub bad_table-requires : goal.bad_table-requires
bad_table-requires g c = plain_text (codes "tables/processes") refl (omega arith)
