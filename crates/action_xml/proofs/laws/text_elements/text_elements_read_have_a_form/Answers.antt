use Rattle.action_xml.proofs.TextElementsFound.{element_found}
use Rattle.action_xml.proofs.laws.text_elements.text_elements_read_have_a_form.Goals as goal

pub returns : goal.returns
returns c = record { found = λ name place bytes held rest t is_tag is_text. let f = element_found name place bytes t (held, rest) is_tag is_text in (f.element, f.is, f.bytes_are, f.text, f.pairs) }
