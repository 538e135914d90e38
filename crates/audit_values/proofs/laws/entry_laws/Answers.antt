use Rattle.audit_words.proofs.Listed.{list_lawful}
use Rattle.audit_values.proofs.EntriesLaws.{entry_lawful, output_lawful}
use Rattle.audit_values.proofs.laws.entry_laws.Goals as goal

pub returns : goal.returns
returns c = record { entries = entry_lawful; outputs = list_lawful output_lawful }
