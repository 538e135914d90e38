use Rattle.std.proofs.Common.{refl}
use Rattle.audit_text.specs.Audit.{behind_head, first_line}
use Rattle.audit_text.proofs.Ending.{then_ends, stop_ends}
use Rattle.audit_text.proofs.reading.read_lines.Goals as goal

pub returns-in-Ok : goal.returns-in-Ok
returns-in-Ok g c = record { ends = then_ends c.in-Ok.head _ _ _ _ first_line.take behind_head c.in-Ok.ensures.taken c.history_of.ensures.ends }

pub returns-in-Err : goal.returns-in-Err
returns-in-Err g c = record { ends = stop_ends c.in-Err.stop _ _ _ _ first_line.take behind_head (λ n k. refl) c.in-Err.ensures.taken c.refused.ensures.refusal }
