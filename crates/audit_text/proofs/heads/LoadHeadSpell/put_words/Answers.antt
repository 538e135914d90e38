use Rattle.audit_words.proofs.Putting.{words_put}
use Rattle.audit_text.proofs.heads.LoadHeadSpell.put_words.Goals as goal

pub returns : goal.returns
returns c = record { words = words_put _ _ _ _ _ c.put_number.ensures.word (words_put _ _ _ _ _ c.put_number-2.ensures.word (words_put _ _ _ _ _ c.put_number-3.ensures.word (words_put _ _ _ _ _ c.put_number-4.ensures.word (words_put _ _ _ _ _ c.put_number-5.ensures.word (words_put _ _ _ _ _ c.put_number-6.ensures.word (words_put _ _ _ _ _ c.put_number-7.ensures.word c.put_number-8.ensures.word)))))) }
