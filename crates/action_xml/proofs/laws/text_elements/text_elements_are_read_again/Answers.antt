use Rattle.action_xml.specs.TextElementForm.{attributes_of}
use Rattle.action_xml.proofs.TextElementsAgain.{element_tag_again, element_text_again}
use Rattle.action_xml.proofs.laws.text_elements.text_elements_are_read_again.Goals as goal

pub returns : goal.returns
returns c = record {
  start = element_tag_again;
  text = λ name place rest e is_name is. element_text_again name place rest e.end_white (attributes_of e) e.inside is_name is.white.1 is.inside;
}
