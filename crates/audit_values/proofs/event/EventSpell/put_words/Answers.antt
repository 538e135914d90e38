use Rattle.audit_words.proofs.Putting.{words_put}
use Rattle.audit_values.proofs.event.EventSpell.put_words.Goals as goal

pub returns-in-Returned : goal.returns-in-Returned
returns-in-Returned c = record { words = rw c.in-Returned.is (words_put _ _ _ _ _ c.put_plain-in-Returned.ensures.word c.put_words-in-Returned.ensures.words) }

pub returns-in-LoadFailed : goal.returns-in-LoadFailed
returns-in-LoadFailed c = record { words = rw c.in-LoadFailed.is (words_put _ _ _ _ _ c.put_plain-in-LoadFailed.ensures.word c.put_words-in-LoadFailed.ensures.words) }
