use Rattle.audit_text.proofs.Written.{first_may, rest_may, broke_on, then_writes, then_broke, cut_short}
use Rattle.audit_text.proofs.writing.write_history.Goals as goal

pub write_line-requires-clause-may : goal.write_line-requires-clause-may
write_line-requires-clause-may g c κs within = rw c.of.ensures.head (first_may _ c.requires.may)

pub write_loads-requires-clause-may : goal.write_loads-requires-clause-may
write_loads-requires-clause-may g c κs within =
    let first = rw c.of.ensures.head at c.in_ok-write_line.ensures.writes in
    first_may _ (rest_may first c.requires.may)

pub write_lines-requires-clause-may : goal.write_lines-requires-clause-may
write_lines-requires-clause-may g c κs within =
    let first = rw c.of.ensures.head at c.in_ok-write_line.ensures.writes in
    rest_may c.in_ok-write_loads.ensures.writes (rest_may first c.requires.may)

pub returns-in_err-write_line : goal.returns-in_err-write_line
returns-in_err-write_line g c = record { writes = broke_on _ _ _ _ c.from_residual.result _ _ c.from_residual.ensures.1 (cut_short _ (rw c.of.ensures.head at c.in_err-write_line.ensures.writes)) }

pub returns-in_err-write_loads : goal.returns-in_err-write_loads
returns-in_err-write_loads g c =
    let first = rw c.of.ensures.head at c.in_ok-write_line.ensures.writes in
    record { writes = broke_on _ _ _ _ c.from_residual-in_err-write_loads.result _ _ c.from_residual-in_err-write_loads.ensures.1 (then_broke first (cut_short _ c.in_err-write_loads.ensures.writes)) }

pub returns : goal.returns
returns g c =
    let first = rw c.of.ensures.head at c.in_ok-write_line.ensures.writes in
    record { writes = then_writes c.write_lines.result _ _ _ _ _ _ _ first (then_writes c.write_lines.result _ _ _ _ _ _ _ c.in_ok-write_loads.ensures.writes c.write_lines.ensures.writes) }
