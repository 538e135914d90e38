-- The laws of loads and histories.
use Rattle.std.proofs.Common.{ℕ, [], ◌∷◌, length, codes, refl, ap, ◌∙◌}
use Rattle.audit_words.specs.Faults as words
use Rattle.audit_words.proofs.Names.{name_among_lawful}
use Rattle.audit_words.proofs.Numbers.{word_32, word_64}
use Rattle.audit_words.proofs.Parts as word_parts
use Rattle.audit_words.proofs.TextWords.{text_lawful}
use Rattle.audit_values.proofs.PoliciesLaws.{action_lawful, rule_entry_lawful, file_fault_lawful}
use Rattle.audit_values.proofs.WorldsLaws.{user_lawful, group_lawful, session_lawful, process_lawful}
use Rattle.audit_values.proofs.EntriesLaws.{entry_lawful}
use Rattle.audit_text.specs.Audit.{load_head, load_head_shape, load_headed, load, version, text_head, text_head_shape, first_line, history_headed, history}
use Rattle.audit_text.proofs.Basics.{Lawful}
use Rattle.audit_text.proofs.OneLine.{line_lawful}
use Rattle.audit_text.proofs.Parts.{◌⊗◌, items_lawful, GivesParts, headed_lawful}

load_head_lawful : words.Lawful load_head
load_head_lawful =
    word_parts.made_lawful load_head_shape (λ p. refl)
    (word_parts.both_lawful word_32 (word_parts.both_lawful word_32 (word_parts.both_lawful word_32 (word_parts.both_lawful word_32 (word_parts.both_lawful word_32 (word_parts.both_lawful word_32 (word_parts.both_lawful word_32 word_32)))))))

load_parts : GivesParts load_headed
load_parts = record {
  parts = λ x. refl;
  head = λ h x e f.
      ap (λ (n : ℕ). record { actions = n; rules = length x.1.0; admins = length x.1.1.0; users = length x.1.1.1.0; groups = length x.1.1.1.1.0; sessions = length x.1.1.1.1.1.0; processes = length x.1.1.1.1.1.1.0; faults = length x.1.1.1.1.1.1.1 }) e.0.0
      ∙ ap (λ (n : ℕ). record { actions = h.actions; rules = n; admins = length x.1.1.0; users = length x.1.1.1.0; groups = length x.1.1.1.1.0; sessions = length x.1.1.1.1.1.0; processes = length x.1.1.1.1.1.1.0; faults = length x.1.1.1.1.1.1.1 }) e.1.0.0
      ∙ ap (λ (n : ℕ). record { actions = h.actions; rules = h.rules; admins = n; users = length x.1.1.1.0; groups = length x.1.1.1.1.0; sessions = length x.1.1.1.1.1.0; processes = length x.1.1.1.1.1.1.0; faults = length x.1.1.1.1.1.1.1 }) e.1.1.0.0
      ∙ ap (λ (n : ℕ). record { actions = h.actions; rules = h.rules; admins = h.admins; users = n; groups = length x.1.1.1.1.0; sessions = length x.1.1.1.1.1.0; processes = length x.1.1.1.1.1.1.0; faults = length x.1.1.1.1.1.1.1 }) e.1.1.1.0.0
      ∙ ap (λ (n : ℕ). record { actions = h.actions; rules = h.rules; admins = h.admins; users = h.users; groups = n; sessions = length x.1.1.1.1.1.0; processes = length x.1.1.1.1.1.1.0; faults = length x.1.1.1.1.1.1.1 }) e.1.1.1.1.0.0
      ∙ ap (λ (n : ℕ). record { actions = h.actions; rules = h.rules; admins = h.admins; users = h.users; groups = h.groups; sessions = n; processes = length x.1.1.1.1.1.1.0; faults = length x.1.1.1.1.1.1.1 }) e.1.1.1.1.1.0.0
      ∙ ap (λ (n : ℕ). record { actions = h.actions; rules = h.rules; admins = h.admins; users = h.users; groups = h.groups; sessions = h.sessions; processes = n; faults = length x.1.1.1.1.1.1.1 }) e.1.1.1.1.1.1.0.0
      ∙ ap (λ (n : ℕ). record { actions = h.actions; rules = h.rules; admins = h.admins; users = h.users; groups = h.groups; sessions = h.sessions; processes = h.processes; faults = n }) e.1.1.1.1.1.1.1.0;
}

pub load_lawful : Lawful load
load_lawful =
    headed_lawful load_headed load_parts (line_lawful (codes "load") refl load_head_lawful)
    (λ h. items_lawful h.actions (line_lawful (codes "action") refl action_lawful)
    ⊗ items_lawful h.rules (line_lawful (codes "rule") refl rule_entry_lawful)
    ⊗ items_lawful h.admins (line_lawful (codes "admin") refl text_lawful)
    ⊗ items_lawful h.users (line_lawful (codes "user") refl user_lawful)
    ⊗ items_lawful h.groups (line_lawful (codes "group") refl group_lawful)
    ⊗ items_lawful h.sessions (line_lawful (codes "session") refl session_lawful)
    ⊗ items_lawful h.processes (line_lawful (codes "process") refl process_lawful)
    ⊗ items_lawful h.faults (line_lawful (codes "fault") refl file_fault_lawful))

version_lawful : words.Lawful version
version_lawful = name_among_lawful (λ u. codes "1") ((codes "1", tt) ∷ []) tt refl (λ v. refl)

text_head_lawful : words.Lawful text_head
text_head_lawful = word_parts.made_lawful text_head_shape (λ p. refl) (word_parts.both_lawful version_lawful (word_parts.both_lawful word_32 word_64))

pub first_line_lawful : Lawful first_line
first_line_lawful = line_lawful (codes "audit") refl text_head_lawful

history_parts : GivesParts history_headed
history_parts = record {
  parts = λ x. refl;
  head = λ h x e f. ap (λ (n : ℕ). record { loads = n; entries = length x.1 }) e.0.0 ∙ ap (λ (n : ℕ). record { loads = h.loads; entries = n }) e.1.0;
}

pub history_lawful : Lawful history
history_lawful =
    headed_lawful history_headed history_parts first_line_lawful
    (λ h. items_lawful h.loads load_lawful ⊗ items_lawful h.entries (line_lawful (codes "entry") refl entry_lawful))
