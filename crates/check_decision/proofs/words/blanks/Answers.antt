use Rattle.std.proofs.Common.{ap, ◌∙◌, not, length}
use Rattle.std.specs.Prelude.{unwrap_or}
use Rattle.pk_types.specs.Text.{is_blank}
use Rattle.check_decision.proofs.FirstWord.{unwrap_or-position, place-within}
use Rattle.check_decision.proofs.words.blanks.Goals as goal

pub returns-clause-first : goal.returns-clause-first
returns-clause-first c =
    let text = c.args.text.now in
    c.unwrap_or.ensures ∙ ap (λ o. unwrap_or o (length text)) c.first_other.ensures.first ∙ unwrap_or-position (λ b. not (is_blank b)) text (place-within (λ b. not (is_blank b)) text)
