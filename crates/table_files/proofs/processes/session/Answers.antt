use Rattle.table_files.proofs.Texts.{name_text}
use Rattle.table_files.proofs.processes.session.Goals as goal

pub of_known-requires : goal.of_known-requires
of_known-requires c = record { text = name_text c.args.field.now c.requires }
