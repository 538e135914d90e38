use Rattle.action_xml.proofs.DefaultsFound.{defaults_element_found}
use Rattle.action_xml.proofs.laws.defaults.defaults_read_have_a_form.Goals as goal

pub returns : goal.returns
returns c = record { found = λ place old bytes rest d e. let f = defaults_element_found place old bytes (d, rest) e in (f.new, (f.element, f.says, f.bytes_are)) }
