use Rattle.action_xml.proofs.DocumentAgain.{document_again}
use Rattle.action_xml.proofs.laws.documents.documents_are_read_again.Goals as goal

pub returns : goal.returns
returns c = record { again = document_again }
