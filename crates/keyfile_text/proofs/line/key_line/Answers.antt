-- The line is cut at its first `=`.
use Rattle.std.proofs.Common.{sym, ◌∙◌, ap, arith}
use Rattle.keyfile_text.specs.Lines.{setting, setting_of}
use Rattle.keyfile_text.proofs.Cleans.{clean-cut}
use Rattle.keyfile_text.proofs.Cutting.{cut_at-found, cut_at-none}
use Rattle.keyfile_text.proofs.line.key_line.Goals as goal

pub returns-in-Some-clause-says : goal.returns-in-Some-clause-says
returns-in-Some-clause-says c =
    c.key_and_value.ensures.says
    ∙ ap (λ k. setting k c.trimmed-in-Some.result.now) c.trimmed.ensures.trimmed
    ∙ ap (setting _) c.trimmed-in-Some.ensures.trimmed
    ∙ ap setting_of (sym (cut_at-found 61 _ _ _ c.in-Some.ensures.found))

pub returns-in-Some-clause-texts : goal.returns-in-Some-clause-texts
returns-in-Some-clause-texts c = λ clean.
    let parts = clean-cut _ _ _ 61 c.in-Some.ensures.found.whole (omega arith) clean in
    c.key_and_value.ensures.texts (c.trimmed.ensures.clean parts.0) (c.trimmed-in-Some.ensures.clean parts.1)

pub returns-in-None-clause-says : goal.returns-in-None-clause-says
returns-in-None-clause-says c = ap setting_of (sym (cut_at-none 61 _ c.in-None.ensures.none))
