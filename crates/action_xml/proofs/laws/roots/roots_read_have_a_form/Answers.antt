use Rattle.action_xml.proofs.RootFound.{root_found}
use Rattle.action_xml.proofs.laws.roots.roots_read_have_a_form.Goals as goal

pub returns : goal.returns
returns c = record { found = λ bytes rest f e. let f = root_found bytes (f, rest) e in (f.element, f.says, f.bytes_are) }
