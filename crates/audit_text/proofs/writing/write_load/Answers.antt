use Rattle.audit_text.proofs.Written.{first_may, rest_may, broke_on, then_writes, then_broke, cut_short}
use Rattle.audit_text.proofs.writing.write_load.Goals as goal

pub write_line-requires-clause-may : goal.write_line-requires-clause-may
write_line-requires-clause-may g c κs within = rw c.of.ensures.head (first_may _ c.requires.may)

pub write_lines-requires-clause-may : goal.write_lines-requires-clause-may
write_lines-requires-clause-may g c κs within =
    let first = rw c.of.ensures.head at c.in_ok-write_line.ensures.writes in
    first_may _ (rest_may first c.requires.may)

pub write_lines-requires-2-clause-may : goal.write_lines-requires-2-clause-may
write_lines-requires-2-clause-may g c κs within =
    let first = rw c.of.ensures.head at c.in_ok-write_line.ensures.writes in
    first_may _ (rest_may c.in_ok-write_lines.ensures.writes (rest_may first c.requires.may))

pub write_lines-requires-3-clause-may : goal.write_lines-requires-3-clause-may
write_lines-requires-3-clause-may g c κs within =
    let first = rw c.of.ensures.head at c.in_ok-write_line.ensures.writes in
    first_may _ (rest_may c.in_ok-write_lines-2.ensures.writes (rest_may c.in_ok-write_lines.ensures.writes (rest_may first c.requires.may)))

pub write_lines-requires-4-clause-may : goal.write_lines-requires-4-clause-may
write_lines-requires-4-clause-may g c κs within =
    let first = rw c.of.ensures.head at c.in_ok-write_line.ensures.writes in
    first_may _ (rest_may c.in_ok-write_lines-3.ensures.writes (rest_may c.in_ok-write_lines-2.ensures.writes (rest_may c.in_ok-write_lines.ensures.writes (rest_may first c.requires.may))))

pub write_lines-requires-5-clause-may : goal.write_lines-requires-5-clause-may
write_lines-requires-5-clause-may g c κs within =
    let first = rw c.of.ensures.head at c.in_ok-write_line.ensures.writes in
    first_may _ (rest_may c.in_ok-write_lines-4.ensures.writes (rest_may c.in_ok-write_lines-3.ensures.writes (rest_may c.in_ok-write_lines-2.ensures.writes (rest_may c.in_ok-write_lines.ensures.writes (rest_may first c.requires.may)))))

pub write_lines-requires-6-clause-may : goal.write_lines-requires-6-clause-may
write_lines-requires-6-clause-may g c κs within =
    let first = rw c.of.ensures.head at c.in_ok-write_line.ensures.writes in
    first_may _ (rest_may c.in_ok-write_lines-5.ensures.writes (rest_may c.in_ok-write_lines-4.ensures.writes (rest_may c.in_ok-write_lines-3.ensures.writes (rest_may c.in_ok-write_lines-2.ensures.writes (rest_may c.in_ok-write_lines.ensures.writes (rest_may first c.requires.may))))))

pub write_lines-requires-7-clause-may : goal.write_lines-requires-7-clause-may
write_lines-requires-7-clause-may g c κs within =
    let first = rw c.of.ensures.head at c.in_ok-write_line.ensures.writes in
    first_may _ (rest_may c.in_ok-write_lines-6.ensures.writes (rest_may c.in_ok-write_lines-5.ensures.writes (rest_may c.in_ok-write_lines-4.ensures.writes (rest_may c.in_ok-write_lines-3.ensures.writes (rest_may c.in_ok-write_lines-2.ensures.writes (rest_may c.in_ok-write_lines.ensures.writes (rest_may first c.requires.may)))))))

pub write_lines-requires-8-clause-may : goal.write_lines-requires-8-clause-may
write_lines-requires-8-clause-may g c κs within =
    let first = rw c.of.ensures.head at c.in_ok-write_line.ensures.writes in
    rest_may c.in_ok-write_lines-7.ensures.writes (rest_may c.in_ok-write_lines-6.ensures.writes (rest_may c.in_ok-write_lines-5.ensures.writes (rest_may c.in_ok-write_lines-4.ensures.writes (rest_may c.in_ok-write_lines-3.ensures.writes (rest_may c.in_ok-write_lines-2.ensures.writes (rest_may c.in_ok-write_lines.ensures.writes (rest_may first c.requires.may)))))))

pub returns-in_err-write_line : goal.returns-in_err-write_line
returns-in_err-write_line g c = record { writes = broke_on _ _ _ _ c.from_residual.result _ _ c.from_residual.ensures.1 (cut_short _ (rw c.of.ensures.head at c.in_err-write_line.ensures.writes)) }

pub returns-in_err-write_lines : goal.returns-in_err-write_lines
returns-in_err-write_lines g c =
    let first = rw c.of.ensures.head at c.in_ok-write_line.ensures.writes in
    record { writes = broke_on _ _ _ _ c.from_residual-in_err-write_lines.result _ _ c.from_residual-in_err-write_lines.ensures.1 (then_broke first (cut_short _ c.in_err-write_lines.ensures.writes)) }

pub returns-in_err-write_lines-2 : goal.returns-in_err-write_lines-2
returns-in_err-write_lines-2 g c =
    let first = rw c.of.ensures.head at c.in_ok-write_line.ensures.writes in
    record { writes = broke_on _ _ _ _ c.from_residual-in_err-write_lines-2.result _ _ c.from_residual-in_err-write_lines-2.ensures.1 (then_broke first (then_broke c.in_ok-write_lines.ensures.writes (cut_short _ c.in_err-write_lines-2.ensures.writes))) }

pub returns-in_err-write_lines-3 : goal.returns-in_err-write_lines-3
returns-in_err-write_lines-3 g c =
    let first = rw c.of.ensures.head at c.in_ok-write_line.ensures.writes in
    record { writes = broke_on _ _ _ _ c.from_residual-in_err-write_lines-3.result _ _ c.from_residual-in_err-write_lines-3.ensures.1 (then_broke first (then_broke c.in_ok-write_lines.ensures.writes (then_broke c.in_ok-write_lines-2.ensures.writes (cut_short _ c.in_err-write_lines-3.ensures.writes)))) }

pub returns-in_err-write_lines-4 : goal.returns-in_err-write_lines-4
returns-in_err-write_lines-4 g c =
    let first = rw c.of.ensures.head at c.in_ok-write_line.ensures.writes in
    record { writes = broke_on _ _ _ _ c.from_residual-in_err-write_lines-4.result _ _ c.from_residual-in_err-write_lines-4.ensures.1 (then_broke first (then_broke c.in_ok-write_lines.ensures.writes (then_broke c.in_ok-write_lines-2.ensures.writes (then_broke c.in_ok-write_lines-3.ensures.writes (cut_short _ c.in_err-write_lines-4.ensures.writes))))) }

pub returns-in_err-write_lines-5 : goal.returns-in_err-write_lines-5
returns-in_err-write_lines-5 g c =
    let first = rw c.of.ensures.head at c.in_ok-write_line.ensures.writes in
    record { writes = broke_on _ _ _ _ c.from_residual-in_err-write_lines-5.result _ _ c.from_residual-in_err-write_lines-5.ensures.1 (then_broke first (then_broke c.in_ok-write_lines.ensures.writes (then_broke c.in_ok-write_lines-2.ensures.writes (then_broke c.in_ok-write_lines-3.ensures.writes (then_broke c.in_ok-write_lines-4.ensures.writes (cut_short _ c.in_err-write_lines-5.ensures.writes)))))) }

pub returns-in_err-write_lines-6 : goal.returns-in_err-write_lines-6
returns-in_err-write_lines-6 g c =
    let first = rw c.of.ensures.head at c.in_ok-write_line.ensures.writes in
    record { writes = broke_on _ _ _ _ c.from_residual-in_err-write_lines-6.result _ _ c.from_residual-in_err-write_lines-6.ensures.1 (then_broke first (then_broke c.in_ok-write_lines.ensures.writes (then_broke c.in_ok-write_lines-2.ensures.writes (then_broke c.in_ok-write_lines-3.ensures.writes (then_broke c.in_ok-write_lines-4.ensures.writes (then_broke c.in_ok-write_lines-5.ensures.writes (cut_short _ c.in_err-write_lines-6.ensures.writes))))))) }

pub returns-in_err-write_lines-7 : goal.returns-in_err-write_lines-7
returns-in_err-write_lines-7 g c =
    let first = rw c.of.ensures.head at c.in_ok-write_line.ensures.writes in
    record { writes = broke_on _ _ _ _ c.from_residual-in_err-write_lines-7.result _ _ c.from_residual-in_err-write_lines-7.ensures.1 (then_broke first (then_broke c.in_ok-write_lines.ensures.writes (then_broke c.in_ok-write_lines-2.ensures.writes (then_broke c.in_ok-write_lines-3.ensures.writes (then_broke c.in_ok-write_lines-4.ensures.writes (then_broke c.in_ok-write_lines-5.ensures.writes (then_broke c.in_ok-write_lines-6.ensures.writes (cut_short _ c.in_err-write_lines-7.ensures.writes)))))))) }

pub returns : goal.returns
returns g c =
    let first = rw c.of.ensures.head at c.in_ok-write_line.ensures.writes in
    record { writes = then_writes c.write_lines-8.result _ _ _ _ _ _ _ first (then_writes c.write_lines-8.result _ _ _ _ _ _ _ c.in_ok-write_lines.ensures.writes (then_writes c.write_lines-8.result _ _ _ _ _ _ _ c.in_ok-write_lines-2.ensures.writes (then_writes c.write_lines-8.result _ _ _ _ _ _ _ c.in_ok-write_lines-3.ensures.writes (then_writes c.write_lines-8.result _ _ _ _ _ _ _ c.in_ok-write_lines-4.ensures.writes (then_writes c.write_lines-8.result _ _ _ _ _ _ _ c.in_ok-write_lines-5.ensures.writes (then_writes c.write_lines-8.result _ _ _ _ _ _ _ c.in_ok-write_lines-6.ensures.writes (then_writes c.write_lines-8.result _ _ _ _ _ _ _ c.in_ok-write_lines-7.ensures.writes c.write_lines-8.ensures.writes))))))) }
