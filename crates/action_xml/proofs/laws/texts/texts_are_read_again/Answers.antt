use Rattle.action_xml.proofs.TextsAgain.{bits_again}
use Rattle.action_xml.proofs.laws.texts.texts_are_read_again.Goals as goal

pub returns : goal.returns
returns c = record { again = bits_again }
