use Rattle.action_xml.proofs.TextsFound.{comment_found}
use Rattle.action_xml.proofs.laws.texts.comments_read_have_a_form.Goals as goal

pub returns : goal.returns
returns c = record { found = comment_found }
