use Rattle.audit_values.proofs.answers.ReasonSpell.put_words.Goals as goal

pub returns-in-Challenge : goal.returns-in-Challenge
returns-in-Challenge c = record { words = rw c.in-Challenge.is c.put_plain-in-Challenge.ensures.word }

pub returns-in-Dismissed : goal.returns-in-Dismissed
returns-in-Dismissed c = record { words = rw c.in-Dismissed.is c.put_plain-in-Dismissed.ensures.word }

pub returns-in-SubjectGone : goal.returns-in-SubjectGone
returns-in-SubjectGone c = record { words = rw c.in-SubjectGone.is c.put_plain-in-SubjectGone.ensures.word }

pub returns-in-IdentityGone : goal.returns-in-IdentityGone
returns-in-IdentityGone c = record { words = rw c.in-IdentityGone.is c.put_plain-in-IdentityGone.ensures.word }
