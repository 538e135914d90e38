use Rattle.explain_laws.proofs.Taken.{dead_not, not_dead}
use Rattle.explain_laws.proofs.removing.dead_rules_matter_not.Goals as goal

pub returns : goal.returns
returns c = record { exactly = λ policy world place. (dead_not policy world place, not_dead policy world place) }
