use Rattle.action_xml.proofs.ValuesAgain.{value_again}
use Rattle.action_xml.proofs.laws.values.values_are_read_again.Goals as goal

pub returns : goal.returns
returns c = record { again = value_again }
