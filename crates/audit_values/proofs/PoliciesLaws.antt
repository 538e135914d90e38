-- The laws of actions, rules and what was skipped.
use Rattle.std.proofs.Common.{refl}
use Rattle.audit_words.specs.Faults.{Lawful}
use Rattle.audit_words.proofs.Parts.{made_lawful, ◌⊗◌}
use Rattle.audit_words.proofs.Chosen.{option_lawful}
use Rattle.audit_words.proofs.Listed.{list_lawful}
use Rattle.audit_words.proofs.Numbers.{word_64}
use Rattle.audit_words.proofs.TextWords.{text_lawful, action_id_lawful}
use Rattle.audit_values.specs.Policies.{localized, localized_shape, action, action_shape, rule_entry, rule_entry_shape, file_fault, file_fault_shape}
use Rattle.audit_values.proofs.ValuesLaws.{implicit_lawful, pair_lawful}

pub localized_lawful : Lawful localized
localized_lawful = made_lawful localized_shape (λ p. refl) (text_lawful ⊗ text_lawful)

pub action_lawful : Lawful action
action_lawful = made_lawful action_shape (λ p. refl) (action_id_lawful ⊗ list_lawful localized_lawful ⊗ list_lawful localized_lawful ⊗ text_lawful ⊗ text_lawful ⊗ text_lawful ⊗ implicit_lawful ⊗ implicit_lawful ⊗ implicit_lawful ⊗ list_lawful pair_lawful)

pub rule_entry_lawful : Lawful rule_entry
rule_entry_lawful = made_lawful rule_entry_shape (λ p. refl) (list_lawful text_lawful ⊗ list_lawful text_lawful ⊗ option_lawful implicit_lawful ⊗ option_lawful implicit_lawful ⊗ option_lawful implicit_lawful ⊗ list_lawful pair_lawful)

pub file_fault_lawful : Lawful file_fault
file_fault_lawful = made_lawful file_fault_shape (λ p. refl) (text_lawful ⊗ text_lawful ⊗ word_64)
