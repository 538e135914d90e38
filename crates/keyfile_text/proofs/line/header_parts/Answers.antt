use Rattle.keyfile_text.proofs.Cleans.{text_unless_long}
use Rattle.keyfile_text.proofs.line.header_parts.Goals as goal

pub returns-clause-texts : goal.returns-clause-texts
returns-clause-texts c = λ clean. text_unless_long _ clean c.if-is_too_long.ensures.long
