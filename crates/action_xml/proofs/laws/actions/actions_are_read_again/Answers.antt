use Rattle.action_xml.proofs.ActionsAgain.{action_again}
use Rattle.action_xml.proofs.laws.actions.actions_are_read_again.Goals as goal

pub returns : goal.returns
returns c = record { again = action_again }
