use Rattle.audit_words.proofs.TextWords.{text_lawful}
use Rattle.audit_values.proofs.PoliciesLaws.{action_lawful, rule_entry_lawful, file_fault_lawful}
use Rattle.audit_values.proofs.WorldsLaws.{user_lawful, group_lawful, session_lawful, process_lawful}
use Rattle.audit_values.proofs.laws.load_laws.Goals as goal

pub returns : goal.returns
returns c = record {
  actions = action_lawful;
  rules = rule_entry_lawful;
  admins = text_lawful;
  users = user_lawful;
  groups = group_lawful;
  sessions = session_lawful;
  processes = process_lawful;
  faults = file_fault_lawful;
}
