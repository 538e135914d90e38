use Rattle.action_xml.proofs.TextsFound.{bit_found}
use Rattle.action_xml.proofs.laws.texts.steps_take_pieces.Goals as goal

pub returns : goal.returns
returns c = record { found = λ wanted place so bytes more rest e. let f = bit_found wanted place so bytes (more, rest) e in (f.bit, f.is, f.bytes_are, f.text) }
