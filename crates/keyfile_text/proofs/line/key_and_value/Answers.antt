use Rattle.keyfile_text.proofs.Cleans.{text_unless_long}
use Rattle.keyfile_text.proofs.line.key_and_value.Goals as goal

pub returns-clause-texts : goal.returns-clause-texts
returns-clause-texts c = λ key value. (text_unless_long _ key c.if-is_too_long.ensures.long, text_unless_long _ value c.if-is_too_long-2.ensures.long)
