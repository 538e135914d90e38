-- The laws of what calls are answered.
use Rattle.std.proofs.Common.{◌≡◌, Some, refl}
use Rattle.authority_model.specs.declared.key.Key.TheVariants as key_is
use Rattle.authority_model.specs.declared.verdict.Reason.TheVariants as reason_is
use Rattle.authority_model.specs.declared.message.ErrorCause.{ErrorCause}
use Rattle.authority_model.specs.declared.message.ErrorCause.TheVariants as error_cause_is
use Rattle.authority_model.specs.declared.message.Answer.TheVariants as answer_is
use Rattle.audit_words.specs.Codecs.{named_in}
use Rattle.audit_words.specs.Faults.{Lawful}
use Rattle.audit_words.proofs.Parts.{nothing_lawful, made_lawful, ◌⊗◌}
use Rattle.audit_words.proofs.Chosen.{case_is, again_in, AreCases, AreAgain, cases_lawful, option_lawful}
use Rattle.audit_words.proofs.Listed.{list_lawful}
use Rattle.audit_words.proofs.Names.{name_among_lawful}
use Rattle.audit_words.proofs.Numbers.{word_32, word_64, boolean_lawful}
use Rattle.audit_words.proofs.TextWords.{text_lawful}
use Rattle.audit_values.specs.Answers.{key, key_spelled, key_cases, reason, reason_spelled, reason_cases, verdict, verdict_shape, grant_row, grant_row_shape, error_cause, error_cause_name, error_cause_names, answer, answer_spelled, answer_cases}
use Rattle.audit_values.proofs.ValuesLaws.{category_lawful, pair_lawful}

key_again : AreAgain key
key_again (key_is.Process pid start uid) rest f = again_in (word_32 ⊗ word_64 ⊗ word_32) (λ p. key_is.Process p.0 p.1.0 p.1.1) (pid, (start, uid)) rest f
key_again (key_is.Session id uid) rest f = again_in (text_lawful ⊗ word_32) (λ p. key_is.Session p.0 p.1) (id, uid) rest f

key_are : AreCases key key_cases
key_are = (case_is (word_32 ⊗ word_64 ⊗ word_32) refl (λ ws. refl) (λ p. refl) (λ p f. f), (case_is (text_lawful ⊗ word_32) refl (λ ws. refl) (λ p. refl) (λ p f. f), tt))

pub key_lawful : Lawful key
key_lawful = cases_lawful key_spelled key_cases tt key_are key_again

reason_again : AreAgain reason
reason_again reason_is.Root rest f = again_in nothing_lawful (λ p. reason_is.Root) tt rest tt
reason_again (reason_is.Default c) rest f = again_in category_lawful (λ p. reason_is.Default p) c rest f
reason_again (reason_is.Entry n) rest f = again_in word_32 (λ p. reason_is.Entry p) n rest f
reason_again (reason_is.Grant n) rest f = again_in word_64 (λ p. reason_is.Grant p) n rest f
reason_again (reason_is.Imply t) rest f = again_in text_lawful (λ p. reason_is.Imply p) t rest f
reason_again reason_is.Challenge rest f = again_in nothing_lawful (λ p. reason_is.Challenge) tt rest tt
reason_again reason_is.Dismissed rest f = again_in nothing_lawful (λ p. reason_is.Dismissed) tt rest tt
reason_again reason_is.AgentGone rest f = again_in nothing_lawful (λ p. reason_is.AgentGone) tt rest tt
reason_again reason_is.SubjectGone rest f = again_in nothing_lawful (λ p. reason_is.SubjectGone) tt rest tt
reason_again reason_is.ActionGone rest f = again_in nothing_lawful (λ p. reason_is.ActionGone) tt rest tt
reason_again reason_is.IdentityGone rest f = again_in nothing_lawful (λ p. reason_is.IdentityGone) tt rest tt

reason_are : AreCases reason reason_cases
reason_are = (case_is nothing_lawful refl (λ ws. refl) (λ p. refl) (λ p f. tt), (case_is category_lawful refl (λ ws. refl) (λ p. refl) (λ p f. f), (case_is word_32 refl (λ ws. refl) (λ p. refl) (λ p f. f), (case_is word_64 refl (λ ws. refl) (λ p. refl) (λ p f. f), (case_is text_lawful refl (λ ws. refl) (λ p. refl) (λ p f. f), (case_is nothing_lawful refl (λ ws. refl) (λ p. refl) (λ p f. tt), (case_is nothing_lawful refl (λ ws. refl) (λ p. refl) (λ p f. tt), (case_is nothing_lawful refl (λ ws. refl) (λ p. refl) (λ p f. tt), (case_is nothing_lawful refl (λ ws. refl) (λ p. refl) (λ p f. tt), (case_is nothing_lawful refl (λ ws. refl) (λ p. refl) (λ p f. tt), (case_is nothing_lawful refl (λ ws. refl) (λ p. refl) (λ p f. tt), tt)))))))))))

pub reason_lawful : Lawful reason
reason_lawful = cases_lawful reason_spelled reason_cases tt reason_are reason_again

pub verdict_lawful : Lawful verdict
verdict_lawful = made_lawful verdict_shape (λ p. refl) (boolean_lawful ⊗ boolean_lawful ⊗ reason_lawful ⊗ boolean_lawful ⊗ option_lawful word_64 ⊗ list_lawful pair_lawful)

pub grant_row_lawful : Lawful grant_row
grant_row_lawful = made_lawful grant_row_shape (λ p. refl) (word_64 ⊗ text_lawful ⊗ key_lawful ⊗ word_64 ⊗ word_64)

error_cause_back : (v : ErrorCause) → named_in error_cause_names (error_cause_name v) ≡ Some v
error_cause_back error_cause_is.IdInUse = refl
error_cause_back error_cause_is.UnknownAction = refl
error_cause_back error_cause_is.UnknownSubject = refl
error_cause_back error_cause_is.NotTrusted = refl
error_cause_back error_cause_is.TooManyPending = refl
error_cause_back error_cause_is.Cancelled = refl
error_cause_back error_cause_is.NoSuchId = refl
error_cause_back error_cause_is.NotPrivileged = refl
error_cause_back error_cause_is.NoSuchCookie = refl
error_cause_back error_cause_is.NotOffered = refl
error_cause_back error_cause_is.AgentExists = refl
error_cause_back error_cause_is.NoSuchAgent = refl
error_cause_back error_cause_is.NotYours = refl
error_cause_back error_cause_is.NoSuchGrant = refl
error_cause_back error_cause_is.UnknownObject = refl
error_cause_back error_cause_is.UnknownMethod = refl
error_cause_back error_cause_is.InvalidArgs = refl
error_cause_back error_cause_is.BadAnnounce = refl

pub error_cause_lawful : Lawful error_cause
error_cause_lawful = name_among_lawful error_cause_name error_cause_names error_cause_is.IdInUse refl error_cause_back

answer_again : AreAgain answer
answer_again (answer_is.Verdict v) rest f = again_in verdict_lawful (λ p. answer_is.Verdict p) v rest f
answer_again answer_is.Done rest f = again_in nothing_lawful (λ p. answer_is.Done) tt rest tt
answer_again (answer_is.Name t) rest f = again_in text_lawful (λ p. answer_is.Name p) t rest f
answer_again (answer_is.Actions load locale) rest f = again_in (word_32 ⊗ text_lawful) (λ p. answer_is.Actions p.0 p.1) (load, locale) rest f
answer_again (answer_is.Grants rows) rest f = again_in (list_lawful grant_row_lawful) (λ p. answer_is.Grants p) rows rest f
answer_again (answer_is.Refused c) rest f = again_in error_cause_lawful (λ p. answer_is.Refused p) c rest f

answer_are : AreCases answer answer_cases
answer_are = (case_is verdict_lawful refl (λ ws. refl) (λ p. refl) (λ p f. f), (case_is nothing_lawful refl (λ ws. refl) (λ p. refl) (λ p f. tt), (case_is text_lawful refl (λ ws. refl) (λ p. refl) (λ p f. f), (case_is (word_32 ⊗ text_lawful) refl (λ ws. refl) (λ p. refl) (λ p f. f), (case_is (list_lawful grant_row_lawful) refl (λ ws. refl) (λ p. refl) (λ p f. f), (case_is error_cause_lawful refl (λ ws. refl) (λ p. refl) (λ p f. f), tt))))))

pub answer_lawful : Lawful answer
answer_lawful = cases_lawful answer_spelled answer_cases tt answer_are answer_again
