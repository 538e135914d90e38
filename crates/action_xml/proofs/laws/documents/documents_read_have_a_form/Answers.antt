use Rattle.action_xml.proofs.DocumentFound.{document_found}
use Rattle.action_xml.proofs.laws.documents.documents_read_have_a_form.Goals as goal

pub returns : goal.returns
returns c = record { found = λ bytes f e. let w = document_found bytes f e in (w.whole, w.says, w.bytes_are) }
