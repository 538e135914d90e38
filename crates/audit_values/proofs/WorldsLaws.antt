-- The laws of users, groups, sessions and processes.
use Rattle.std.proofs.Common.{refl}
use Rattle.audit_words.specs.Faults.{Lawful}
use Rattle.audit_words.proofs.Parts.{made_lawful, ◌⊗◌}
use Rattle.audit_words.proofs.Chosen.{option_lawful}
use Rattle.audit_words.proofs.Listed.{list_lawful}
use Rattle.audit_words.proofs.Numbers.{word_32, word_64, boolean_lawful}
use Rattle.audit_words.proofs.TextWords.{text_lawful, short_text_lawful}
use Rattle.audit_values.specs.Worlds.{user, user_shape, group, group_shape, session, session_shape, process, process_shape}

pub user_lawful : Lawful user
user_lawful = made_lawful user_shape (λ p. refl) (word_32 ⊗ short_text_lawful ⊗ list_lawful word_32)

pub group_lawful : Lawful group
group_lawful = made_lawful group_shape (λ p. refl) (word_32 ⊗ short_text_lawful)

pub session_lawful : Lawful session
session_lawful = made_lawful session_shape (λ p. refl) (text_lawful ⊗ word_32 ⊗ boolean_lawful ⊗ boolean_lawful)

pub process_lawful : Lawful process
process_lawful = made_lawful process_shape (λ p. refl) (word_32 ⊗ word_64 ⊗ word_32 ⊗ option_lawful text_lawful)
