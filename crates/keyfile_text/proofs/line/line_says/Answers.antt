use Rattle.std.proofs.Common.{[], arith}
use Rattle.keyfile_text.proofs.Cleans.{clean-cut}
use Rattle.keyfile_text.proofs.line.line_says.Goals as goal

pub returns-then-first-eq91-clause-texts : goal.returns-then-first-eq91-clause-texts
returns-then-first-eq91-clause-texts c = λ clean.
    c.header_line.ensures.texts (clean-cut _ [] _ _ c.in-Some.ensures.cases.0 (omega (arith, c.if-first-eq91.true)) clean).1
