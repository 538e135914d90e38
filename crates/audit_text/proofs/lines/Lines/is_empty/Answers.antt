use Rattle.audit_text.proofs.Taking.{one_left}
use Rattle.audit_text.proofs.lines.Lines.is_empty.Goals as goal

pub returns-in-There : goal.returns-in-There
returns-in-There g c = let f = c.in-There.ensures.fills in record { empty = one_left _ _ f.0 f.1 f.2.0 f.2.1 c.in-There.ensures.later }
