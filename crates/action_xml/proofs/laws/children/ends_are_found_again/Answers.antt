use Rattle.action_xml.proofs.NextAgain.{end_of_parent_again}
use Rattle.action_xml.proofs.laws.children.ends_are_found_again.Goals as goal

pub returns : goal.returns
returns c = record { again = end_of_parent_again }
