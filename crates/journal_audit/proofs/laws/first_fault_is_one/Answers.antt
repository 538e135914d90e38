use Rattle.journal_audit.proofs.Faults.{one_broken, one_place}
use Rattle.journal_audit.proofs.laws.first_fault_is_one.Goals as goal

pub returns : goal.returns
returns c = record { place = one_place; clause = one_broken }
