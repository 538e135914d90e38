use Rattle.action_xml.proofs.TagsAgain.{tag_again}
use Rattle.action_xml.proofs.laws.tags.tags_are_read_again.Goals as goal

pub returns : goal.returns
returns c = record { again = tag_again }
