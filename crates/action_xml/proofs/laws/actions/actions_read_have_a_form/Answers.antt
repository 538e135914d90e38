use Rattle.action_xml.proofs.ActionsFound.{action_found}
use Rattle.action_xml.proofs.laws.actions.actions_read_have_a_form.Goals as goal

pub returns : goal.returns
returns c = record { found = λ place bytes rest a e. let f = action_found place bytes (a, rest) e in (f.element, f.says, f.bytes_are) }
