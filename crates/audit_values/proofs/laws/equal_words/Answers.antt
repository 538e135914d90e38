use Rattle.audit_words.proofs.Listed.{list_lawful}
use Rattle.audit_words.proofs.Splitting.{same_words}
use Rattle.audit_values.proofs.EntriesLaws.{output_lawful}
use Rattle.audit_values.proofs.laws.equal_words.Goals as goal

pub returns : goal.returns
returns c = record { outputs = same_words (list_lawful output_lawful) }
