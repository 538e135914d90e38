use Rattle.std.proofs.Common.{codes}
use Rattle.audit_values.specs.Entries.{entry}
use Rattle.audit_text.specs.Audit.{load, history_headed}
use Rattle.audit_text.specs.Lines.{line, items}
use Rattle.audit_text.proofs.Taking.{passed_on, parts_take, parts_stop, both_takes, second_stops, first_stops}
use Rattle.audit_text.proofs.reading.history_behind.Goals as goal

pub returns-in_err-loads : goal.returns-in_err-loads
returns-in_err-loads g c = record {
  taken = passed_on _ _ _ c.from_residual.result _ c.from_residual.ensures.1 (parts_stop history_headed c.args.head _ _ _ (first_stops (items load c.args.head.loads) (items (line (codes "entry") entry) c.args.head.entries) _ _ _ c.in_err-loads.ensures.taken));
}

pub returns-in_err-entries : goal.returns-in_err-entries
returns-in_err-entries g c = record {
  taken = passed_on _ _ _ c.from_residual-in_err-entries.result _ c.from_residual-in_err-entries.ensures.1 (parts_stop history_headed c.args.head _ _ _ (second_stops (items load c.args.head.loads) (items (line (codes "entry") entry) c.args.head.entries) _ _ _ _ _ c.in_ok-loads.ensures.taken c.in_err-entries.ensures.taken));
}

pub returns : goal.returns
returns g c = record {
  taken = parts_take history_headed c.args.head _ _ _
      (both_takes (items load c.args.head.loads) (items (line (codes "entry") entry) c.args.head.entries) _ _ _ _ _ c.in_ok-loads.ensures.taken c.in_ok-entries.ensures.taken);
}
