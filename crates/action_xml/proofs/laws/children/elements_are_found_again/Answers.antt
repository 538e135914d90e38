use Rattle.action_xml.proofs.NextAgain.{child_again}
use Rattle.action_xml.proofs.laws.children.elements_are_found_again.Goals as goal

pub returns : goal.returns
returns c = record { again = child_again }
