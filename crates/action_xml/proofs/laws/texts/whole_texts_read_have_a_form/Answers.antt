use Rattle.action_xml.proofs.TextsFound.{whole_found}
use Rattle.action_xml.proofs.laws.texts.whole_texts_read_have_a_form.Goals as goal

pub returns : goal.returns
returns c = record { found = λ wanted place bytes text rest e. let f = whole_found wanted place bytes (text, rest) e in (f.bits, f.white, f.is_white, f.are, f.bytes_are, f.text, f.is_text) }
