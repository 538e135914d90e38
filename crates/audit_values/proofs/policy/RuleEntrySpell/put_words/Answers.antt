use Rattle.audit_words.proofs.Putting.{words_put}
use Rattle.audit_values.proofs.policy.RuleEntrySpell.put_words.Goals as goal

pub returns : goal.returns
returns c = record { words = words_put _ _ _ _ _ c.put_words.ensures.words (words_put _ _ _ _ _ c.put_words-2.ensures.words (words_put _ _ _ _ _ c.put_words-3.ensures.words (words_put _ _ _ _ _ c.put_words-4.ensures.words (words_put _ _ _ _ _ c.put_words-5.ensures.words c.put_words-6.ensures.words)))) }
