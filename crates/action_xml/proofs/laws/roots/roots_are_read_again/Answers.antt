use Rattle.action_xml.proofs.RootAgain.{root_again}
use Rattle.action_xml.proofs.laws.roots.roots_are_read_again.Goals as goal

pub returns : goal.returns
returns c = record { again = root_again }
