use Rattle.action_xml.proofs.NextFound.{next_found}
use Rattle.action_xml.proofs.laws.children.what_is_found_next_has_a_form.Goals as goal

pub returns : goal.returns
returns c = record { found = λ parent bytes x e. let f = next_found parent bytes x e in (f.gaps, f.here, f.are, f.bytes_are, f.is) }
