use Rattle.journal_audit.proofs.Faults.{not_legal}
use Rattle.journal_audit.proofs.laws.legal_has_no_fault.Goals as goal

pub returns : goal.returns
returns c = record { none = not_legal }
