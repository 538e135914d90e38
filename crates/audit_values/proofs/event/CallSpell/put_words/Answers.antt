use Rattle.audit_words.proofs.Putting.{words_put}
use Rattle.audit_values.proofs.event.CallSpell.put_words.Goals as goal

pub returns-in-Announce : goal.returns-in-Announce
returns-in-Announce c = record { words = rw c.in-Announce.is (words_put _ _ _ _ _ c.put_plain.ensures.word (words_put _ _ _ _ _ c.put_words.ensures.words c.put_words-in-Announce.ensures.words)) }

pub returns-in-Register : goal.returns-in-Register
returns-in-Register c = record { words = rw c.in-Register.is (words_put _ _ _ _ _ c.put_plain-in-Register.ensures.word (words_put _ _ _ _ _ c.put_words-in-Register.ensures.words (words_put _ _ _ _ _ c.put_words-in-Register-2.ensures.words c.put_words-in-Register-3.ensures.words))) }

pub returns-in-Unregister : goal.returns-in-Unregister
returns-in-Unregister c = record { words = rw c.in-Unregister.is (words_put _ _ _ _ _ c.put_plain-in-Unregister.ensures.word (words_put _ _ _ _ _ c.put_words-in-Unregister.ensures.words c.put_words-in-Unregister-2.ensures.words)) }

pub returns-in-EnumerateActions : goal.returns-in-EnumerateActions
returns-in-EnumerateActions c = record { words = rw c.in-EnumerateActions.is (words_put _ _ _ _ _ c.put_plain-in-EnumerateActions.ensures.word c.put_words-in-EnumerateActions.ensures.words) }

pub returns-in-EnumerateGrants : goal.returns-in-EnumerateGrants
returns-in-EnumerateGrants c = record { words = rw c.in-EnumerateGrants.is (words_put _ _ _ _ _ c.put_plain-in-EnumerateGrants.ensures.word c.put_words-in-EnumerateGrants.ensures.words) }

pub returns-in-RevokeAll : goal.returns-in-RevokeAll
returns-in-RevokeAll c = record { words = rw c.in-RevokeAll.is (words_put _ _ _ _ _ c.put_plain-in-RevokeAll.ensures.word c.put_words-in-RevokeAll.ensures.words) }

pub returns-in-RevokeOne : goal.returns-in-RevokeOne
returns-in-RevokeOne c = record { words = rw c.in-RevokeOne.is (words_put _ _ _ _ _ c.put_plain-in-RevokeOne.ensures.word c.put_words-in-RevokeOne.ensures.words) }
