use Rattle.std.proofs.Common.{refl, lit≤, codes}
use Rattle.pk_types.proofs.Texts.{plain_text}
use Rattle.scenario_text.proofs.caller_lines.dismiss_words.Goals as goal

pub error_words-requires : goal.error_words-requires
error_words-requires c = rw c.as_slice.ensures (plain_text (codes "org.freedesktop.PolicyKit1.Error.Cancelled") refl (lit≤ tt))

pub returns-clause-value : goal.returns-clause-value
returns-clause-value c = rw c.as_slice.ensures at c.error_words.ensures.value
