-- The laws of messages and entries.
use Rattle.std.proofs.Common.{refl}
use Rattle.authority_model.specs.declared.message.Message.TheVariants as message_is
use Rattle.audit_words.specs.Faults.{Lawful}
use Rattle.audit_words.proofs.Parts.{nothing_lawful, made_lawful, ◌⊗◌}
use Rattle.audit_words.proofs.Chosen.{case_is, again_in, AreCases, AreAgain, cases_lawful}
use Rattle.audit_words.proofs.Listed.{list_lawful}
use Rattle.audit_words.proofs.Numbers.{word_32, word_64}
use Rattle.audit_words.proofs.TextWords.{text_lawful}
use Rattle.audit_words.proofs.SaltWords.{salt_lawful, cookie_lawful}
use Rattle.audit_values.specs.Entries.{message, message_spelled, message_cases, output, output_shape, entry, entry_shape}
use Rattle.audit_values.proofs.AnswersLaws.{answer_lawful}
use Rattle.audit_values.proofs.ValuesLaws.{pair_lawful, identity_lawful}
use Rattle.audit_values.proofs.EventsLaws.{event_lawful}

message_again : AreAgain message
message_again (message_is.Reply serial told) rest f = again_in (word_32 ⊗ answer_lawful) (λ p. message_is.Reply p.0 p.1) (serial, told) rest f
message_again (message_is.Begin path action shown icon details sign identities) rest f = again_in (text_lawful ⊗ text_lawful ⊗ text_lawful ⊗ text_lawful ⊗ list_lawful pair_lawful ⊗ cookie_lawful ⊗ list_lawful identity_lawful) (λ p. message_is.Begin p.0 p.1.0 p.1.1.0 p.1.1.1.0 p.1.1.1.1.0 p.1.1.1.1.1.0 p.1.1.1.1.1.1) (path, (action, (shown, (icon, (details, (sign, identities)))))) rest f
message_again (message_is.CancelBegin path sign) rest f = again_in (text_lawful ⊗ cookie_lawful) (λ p. message_is.CancelBegin p.0 p.1) (path, sign) rest f
message_again message_is.Changed rest f = again_in nothing_lawful (λ p. message_is.Changed) tt rest tt
message_again message_is.LoadWanted rest f = again_in nothing_lawful (λ p. message_is.LoadWanted) tt rest tt
message_again message_is.StopWanted rest f = again_in nothing_lawful (λ p. message_is.StopWanted) tt rest tt

message_are : AreCases message message_cases
message_are = (case_is (word_32 ⊗ answer_lawful) refl (λ ws. refl) (λ p. refl) (λ p f. f), (case_is (text_lawful ⊗ text_lawful ⊗ text_lawful ⊗ text_lawful ⊗ list_lawful pair_lawful ⊗ cookie_lawful ⊗ list_lawful identity_lawful) refl (λ ws. refl) (λ p. refl) (λ p f. f), (case_is (text_lawful ⊗ cookie_lawful) refl (λ ws. refl) (λ p. refl) (λ p f. f), (case_is nothing_lawful refl (λ ws. refl) (λ p. refl) (λ p f. tt), (case_is nothing_lawful refl (λ ws. refl) (λ p. refl) (λ p f. tt), (case_is nothing_lawful refl (λ ws. refl) (λ p. refl) (λ p f. tt), tt))))))

pub message_lawful : Lawful message
message_lawful = cases_lawful message_spelled message_cases tt message_are message_again

pub output_lawful : Lawful output
output_lawful = made_lawful output_shape (λ p. refl) (word_32 ⊗ message_lawful)

pub entry_lawful : Lawful entry
entry_lawful = made_lawful entry_shape (λ p. refl) (word_32 ⊗ word_64 ⊗ salt_lawful ⊗ event_lawful ⊗ list_lawful output_lawful)
