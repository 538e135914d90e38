use Rattle.std.proofs.Common.{refl}
use Rattle.audit_text.specs.Audit.{history_headed, of_lines}
use Rattle.audit_text.specs.Lines.{take_parts}
use Rattle.audit_text.proofs.Ending.{many_ends, few_ends, then_ends, stop_ends}
use Rattle.audit_text.proofs.reading.history_of.Goals as goal

pub returns-in-Ok : goal.returns-in-Ok
returns-in-Ok g c = record {
  ends = few_ends c.args.head _ _ _ c.if-head-gt-MAX_ENTRIES.false
      (then_ends c.in-Ok.history _ _ _ _ (λ p. take_parts history_headed (c.args.head, p)) of_lines c.in-Ok.ensures.taken c.whole_history.ensures.ends);
}

pub returns-in-Err : goal.returns-in-Err
returns-in-Err g c = record {
  ends = few_ends c.args.head _ _ _ c.if-head-gt-MAX_ENTRIES.false
      (stop_ends c.in-Err.stop _ _ _ _ (λ p. take_parts history_headed (c.args.head, p)) of_lines (λ n k. refl) c.in-Err.ensures.taken c.refused.ensures.refusal);
}

pub returns-then-head-gt-MAX_ENTRIES : goal.returns-then-head-gt-MAX_ENTRIES
returns-then-head-gt-MAX_ENTRIES g c = record { ends = many_ends c.args.head _ _ _ c.if-head-gt-MAX_ENTRIES.true c.close.ensures.closed }
