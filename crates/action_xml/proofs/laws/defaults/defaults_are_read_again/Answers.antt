use Rattle.action_xml.proofs.DefaultsAgain.{defaults_element_again}
use Rattle.action_xml.proofs.laws.defaults.defaults_are_read_again.Goals as goal

pub returns : goal.returns
returns c = record { again = defaults_element_again }
