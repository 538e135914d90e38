-- A decision as the decision that the definitions speak of.
use Rattle.check_decision.specs.declared.decisions.DecisionRef.{DecisionRef}
use Rattle.authority_model.specs.Deciding.{Decision}

-- the decision that a decision with a borrowed id stands for
abbrev pub decision_seen : DecisionRef → Decision
decision_seen DecisionRef.Root = Decision.Root
decision_seen (DecisionRef.Yes source) = Decision.Yes source
decision_seen (DecisionRef.Grant g) = Decision.Granted g
decision_seen (DecisionRef.Imply id) = Decision.Imply id.now
decision_seen (DecisionRef.Challenge value source) = Decision.Challenge value source
decision_seen (DecisionRef.No source) = Decision.No source
