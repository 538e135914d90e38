use Rattle.action_xml.proofs.ValuesFound.{value_found}
use Rattle.action_xml.proofs.laws.values.values_read_have_a_form.Goals as goal

pub returns : goal.returns
returns c = record { found = λ place bytes text rest e. let f = value_found place bytes (text, rest) e in (f.quote, f.bits, f.is_quote, f.are, f.bytes_are, f.text, f.is_text) }
