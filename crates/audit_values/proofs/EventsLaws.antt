-- The laws of what happens to the authority.
use Rattle.std.proofs.Common.{refl}
use Rattle.authority_model.specs.declared.event.Call.TheVariants as call_is
use Rattle.authority_model.specs.declared.event.Event.TheVariants as event_is
use Rattle.audit_words.specs.Faults.{Lawful}
use Rattle.audit_words.proofs.Parts.{nothing_lawful, ◌⊗◌}
use Rattle.audit_words.proofs.Chosen.{case_is, again_in, AreCases, AreAgain, cases_lawful}
use Rattle.audit_words.proofs.Listed.{list_lawful}
use Rattle.audit_words.proofs.Numbers.{word_32, word_64, boolean_lawful}
use Rattle.audit_words.proofs.TextWords.{text_lawful}
use Rattle.audit_values.specs.Events.{call, call_spelled, call_cases, event, event_spelled, event_cases}
use Rattle.audit_values.proofs.ValuesLaws.{subject_lawful, pair_lawful, identity_lawful}
use Rattle.audit_values.proofs.AnswersLaws.{error_cause_lawful}

call_again : AreAgain call
call_again (call_is.Announce pid start) rest f = again_in (word_32 ⊗ word_64) (λ p. call_is.Announce p.0 p.1) (pid, start) rest f
call_again (call_is.Check about action details flags cancel) rest f = again_in (subject_lawful ⊗ text_lawful ⊗ list_lawful pair_lawful ⊗ word_32 ⊗ text_lawful) (λ p. call_is.Check p.0 p.1.0 p.1.1.0 p.1.1.1.0 p.1.1.1.1) (about, (action, (details, (flags, cancel)))) rest f
call_again (call_is.Cancel cancel) rest f = again_in text_lawful (λ p. call_is.Cancel p) cancel rest f
call_again (call_is.Register about locale path) rest f = again_in (subject_lawful ⊗ text_lawful ⊗ text_lawful) (λ p. call_is.Register p.0 p.1.0 p.1.1) (about, (locale, path)) rest f
call_again (call_is.Unregister about path) rest f = again_in (subject_lawful ⊗ text_lawful) (λ p. call_is.Unregister p.0 p.1) (about, path) rest f
call_again (call_is.Respond sign who) rest f = again_in (text_lawful ⊗ identity_lawful) (λ p. call_is.Respond p.0 p.1) (sign, who) rest f
call_again (call_is.EnumerateActions locale) rest f = again_in text_lawful (λ p. call_is.EnumerateActions p) locale rest f
call_again (call_is.EnumerateGrants about) rest f = again_in subject_lawful (λ p. call_is.EnumerateGrants p) about rest f
call_again (call_is.RevokeAll about) rest f = again_in subject_lawful (λ p. call_is.RevokeAll p) about rest f
call_again (call_is.RevokeOne id) rest f = again_in text_lawful (λ p. call_is.RevokeOne p) id rest f
call_again call_is.Reload rest f = again_in nothing_lawful (λ p. call_is.Reload) tt rest tt
call_again (call_is.Wrong cause) rest f = again_in error_cause_lawful (λ p. call_is.Wrong p) cause rest f

call_are : AreCases call call_cases
call_are = (case_is (word_32 ⊗ word_64) refl (λ ws. refl) (λ p. refl) (λ p f. f), (case_is (subject_lawful ⊗ text_lawful ⊗ list_lawful pair_lawful ⊗ word_32 ⊗ text_lawful) refl (λ ws. refl) (λ p. refl) (λ p f. f), (case_is text_lawful refl (λ ws. refl) (λ p. refl) (λ p f. f), (case_is (subject_lawful ⊗ text_lawful ⊗ text_lawful) refl (λ ws. refl) (λ p. refl) (λ p f. f), (case_is (subject_lawful ⊗ text_lawful) refl (λ ws. refl) (λ p. refl) (λ p f. f), (case_is (text_lawful ⊗ identity_lawful) refl (λ ws. refl) (λ p. refl) (λ p f. f), (case_is text_lawful refl (λ ws. refl) (λ p. refl) (λ p f. f), (case_is subject_lawful refl (λ ws. refl) (λ p. refl) (λ p f. f), (case_is subject_lawful refl (λ ws. refl) (λ p. refl) (λ p f. f), (case_is text_lawful refl (λ ws. refl) (λ p. refl) (λ p f. f), (case_is nothing_lawful refl (λ ws. refl) (λ p. refl) (λ p f. tt), (case_is error_cause_lawful refl (λ ws. refl) (λ p. refl) (λ p f. f), tt))))))))))))

pub call_lawful : Lawful call
call_lawful = cases_lawful call_spelled call_cases tt call_are call_again

event_again : AreAgain event
event_again (event_is.Connect uid) rest f = again_in word_32 (λ p. event_is.Connect p) uid rest f
event_again (event_is.Call serial quiet asked) rest f = again_in (word_32 ⊗ boolean_lawful ⊗ call_lawful) (λ p. event_is.Call p.0 p.1.0 p.1.1) (serial, (quiet, asked)) rest f
event_again (event_is.Returned serial) rest f = again_in word_32 (λ p. event_is.Returned p) serial rest f
event_again (event_is.AgentError serial name) rest f = again_in (word_32 ⊗ text_lawful) (λ p. event_is.AgentError p.0 p.1) (serial, name) rest f
event_again event_is.Passed rest f = again_in nothing_lawful (λ p. event_is.Passed) tt rest tt
event_again event_is.Depart rest f = again_in nothing_lawful (λ p. event_is.Depart) tt rest tt
event_again (event_is.Load load) rest f = again_in word_32 (λ p. event_is.Load p) load rest f
event_again (event_is.LoadFailed code) rest f = again_in word_32 (λ p. event_is.LoadFailed p) code rest f
event_again event_is.Stop rest f = again_in nothing_lawful (λ p. event_is.Stop) tt rest tt
event_again (event_is.Collect of) rest f = again_in word_32 (λ p. event_is.Collect p) of rest f

event_are : AreCases event event_cases
event_are = (case_is word_32 refl (λ ws. refl) (λ p. refl) (λ p f. f), (case_is (word_32 ⊗ boolean_lawful ⊗ call_lawful) refl (λ ws. refl) (λ p. refl) (λ p f. f), (case_is word_32 refl (λ ws. refl) (λ p. refl) (λ p f. f), (case_is (word_32 ⊗ text_lawful) refl (λ ws. refl) (λ p. refl) (λ p f. f), (case_is nothing_lawful refl (λ ws. refl) (λ p. refl) (λ p f. tt), (case_is nothing_lawful refl (λ ws. refl) (λ p. refl) (λ p f. tt), (case_is word_32 refl (λ ws. refl) (λ p. refl) (λ p f. f), (case_is word_32 refl (λ ws. refl) (λ p. refl) (λ p f. f), (case_is nothing_lawful refl (λ ws. refl) (λ p. refl) (λ p f. tt), (case_is word_32 refl (λ ws. refl) (λ p. refl) (λ p f. f), tt))))))))))

pub event_lawful : Lawful event
event_lawful = cases_lawful event_spelled event_cases tt event_are event_again
