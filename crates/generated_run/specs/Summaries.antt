-- The totals of a run of checks.
use Rattle.std.specs.Prelude.{ℕ, ◌+◌, Bool, false, not, ◌&&◌, List, [], ◌∷◌, ◌++◌, codes, count_by, decimal, is_some, length}
use Rattle.authority_model.specs.declared.journal.Item.{Item}
use Rattle.authority_model.specs.declared.message.Answer.TheVariants as answer
use Rattle.authority_model.specs.declared.message.Message.{Message}
use Rattle.authority_model.specs.declared.message.Message.TheVariants.{Reply}
use Rattle.authority_model.specs.declared.message.Answer.{Answer}
use Rattle.authority_model.specs.declared.message.Output.{Output}
use Rattle.authority_model.specs.declared.verdict.Verdict.{Verdict}
use Rattle.authority_model.specs.Words.{Bytes}
use Rattle.generated_run.specs.declared.summary.Summary.{Summary}
use Rattle.generated_run.specs.declared.summary.Mark.{Mark}

-- whether a verdict has this mark
abbrev pub has_mark : Mark → Verdict → Bool
has_mark Mark.Yes v = v.yes
has_mark Mark.No v = not v.yes && not v.challenge
has_mark Mark.Challenge v = not v.yes && v.challenge
has_mark Mark.Grant v = is_some v.grant

-- whether an answer is a verdict with this mark
abbrev pub marks : Mark → Answer → Bool
marks mark (answer.Verdict v) = has_mark mark v
marks mark _ = false

-- whether a message tells such a verdict
abbrev pub tells : Mark → Message → Bool
tells mark (Reply serial answer) = marks mark answer
tells mark _ = false

-- how many outputs tell one
abbrev pub told_in : Mark → List Output → ℕ
told_in mark outputs = count_by (λ o. tells mark o.message) outputs

-- how many outputs of the items tell one
abbrev pub told : Mark → List Item → ℕ
told mark [] = 0
told mark (i ∷ past) = told mark past + told_in mark i.entry.outputs

-- the counts of verdicts that are yes, no and challenges, of those with a temporary authorization, and of items
abbrev pub summary_of : List Item → Summary
summary_of past = record {
  yes = told Mark.Yes past;
  no = told Mark.No past;
  challenges = told Mark.Challenge past;
  grants = told Mark.Grant past;
  entries = length past;
}

-- the line of a summary
abbrev pub line_of : Summary → Bytes
line_of s = codes "yes " ++ (decimal s.yes ++ (codes " no " ++ (decimal s.no ++ (codes " challenge " ++ (decimal s.challenges ++ (codes " grants " ++ (decimal s.grants ++ (codes " entries " ++ (decimal s.entries ++ codes "\n")))))))))
