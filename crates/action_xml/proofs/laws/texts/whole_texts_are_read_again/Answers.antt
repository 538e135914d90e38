use Rattle.action_xml.proofs.TextsAgain.{whole_again}
use Rattle.action_xml.proofs.laws.texts.whole_texts_are_read_again.Goals as goal

pub returns : goal.returns
returns c = record { again = whole_again }
