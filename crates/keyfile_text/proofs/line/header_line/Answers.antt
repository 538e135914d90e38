-- The line is cut at its first `]`.
use Rattle.std.proofs.Common.{sym, ◌∙◌, ap, arith}
use Rattle.keyfile_text.specs.Lines.{header_of}
use Rattle.keyfile_text.proofs.Cleans.{clean-cut}
use Rattle.keyfile_text.proofs.Cutting.{cut_at-found, cut_at-none}
use Rattle.keyfile_text.proofs.line.header_line.Goals as goal

pub returns-in-Some-clause-says : goal.returns-in-Some-clause-says
returns-in-Some-clause-says c = c.header_parts.ensures.says ∙ ap header_of (sym (cut_at-found 93 _ _ _ c.in-Some.ensures.found))

pub returns-in-Some-clause-texts : goal.returns-in-Some-clause-texts
returns-in-Some-clause-texts c = λ clean. c.header_parts.ensures.texts (clean-cut _ _ _ 93 c.in-Some.ensures.found.whole (omega arith) clean).0

pub returns-in-None-clause-says : goal.returns-in-None-clause-says
returns-in-None-clause-says c = ap header_of (sym (cut_at-none 93 _ c.in-None.ensures.none))
