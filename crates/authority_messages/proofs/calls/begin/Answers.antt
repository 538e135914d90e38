use Rattle.std.proofs.Common.{refl, sym, ◌∙◌}
use Rattle.authority_messages.specs.Outgoing.{outgoing}
use Rattle.authority_messages.proofs.Choices.{sent_ok, sent_whole}
use Rattle.authority_messages.proofs.calls.begin.Goals as goal

pub returns-then-is_over-clause-form : goal.returns-then-is_over-clause-form
returns-then-is_over-clause-form c = sent_ok c.asking-then-is_over.result _ _ refl refl c.asking-then-is_over.ensures.sent

pub returns-else-is_over-clause-form : goal.returns-else-is_over-clause-form
returns-else-is_over-clause-form c = sent_whole (outgoing c.in_ok-whole.whole) c.in_ok-whole.ensures.form (sym c.is_over.ensures.over ∙ c.if-is_over.false)
