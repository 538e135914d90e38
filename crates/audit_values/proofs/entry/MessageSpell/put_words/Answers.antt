use Rattle.audit_words.proofs.Putting.{words_put}
use Rattle.audit_values.proofs.entry.MessageSpell.put_words.Goals as goal

pub returns-in-Begin : goal.returns-in-Begin
returns-in-Begin c = record { words = rw c.in-Begin.is (words_put _ _ _ _ _ c.put_plain-in-Begin.ensures.word (words_put _ _ _ _ _ c.put_words-in-Begin.ensures.words (words_put _ _ _ _ _ c.put_words-in-Begin-2.ensures.words (words_put _ _ _ _ _ c.put_words-in-Begin-3.ensures.words (words_put _ _ _ _ _ c.put_words-in-Begin-4.ensures.words (words_put _ _ _ _ _ c.put_words-in-Begin-5.ensures.words (words_put _ _ _ _ _ c.put_words-in-Begin-6.ensures.words c.put_words-in-Begin-7.ensures.words))))))) }

pub returns-in-CancelBegin : goal.returns-in-CancelBegin
returns-in-CancelBegin c = record { words = rw c.in-CancelBegin.is (words_put _ _ _ _ _ c.put_plain-in-CancelBegin.ensures.word (words_put _ _ _ _ _ c.put_words-in-CancelBegin.ensures.words c.put_words-in-CancelBegin-2.ensures.words)) }

pub returns-in-LoadWanted : goal.returns-in-LoadWanted
returns-in-LoadWanted c = record { words = rw c.in-LoadWanted.is c.put_plain-in-LoadWanted.ensures.word }
