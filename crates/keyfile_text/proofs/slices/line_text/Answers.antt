-- What is left is cut at ASCII bytes.
use Rattle.std.proofs.Common.{[], arith}
use Rattle.keyfile_text.proofs.Cleans.{clean-cut}
use Rattle.keyfile_text.proofs.slices.line_text.Goals as goal

pub returns-in-Some-eq13-default-clause-clean : goal.returns-in-Some-eq13-default-clause-clean
returns-in-Some-eq13-default-clause-clean c = λ clean.
    (clean-cut _ _ [] _ c.in-Some-eq13-default.ensures.cases.0 (omega arith) (clean-cut _ _ [] _ c.in-Some-eq10-default.ensures.cases.0 (omega arith) clean).0).0

pub returns-in_default-split_last-clause-clean : goal.returns-in_default-split_last-clause-clean
returns-in_default-split_last-clause-clean c = λ clean. (clean-cut _ _ [] _ c.in-Some-eq10-default.ensures.cases.0 (omega arith) clean).0
