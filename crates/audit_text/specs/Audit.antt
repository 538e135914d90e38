-- The audit text of a history, and what the bytes of one say.
use Rattle.std.specs.Prelude.{ℕ, nat_lt, List, [], ◌∷◌, length, codes, Result, Ok, Err, if◌then◌else◌}
use Rattle.authority_model.specs.declared.journal.History.{History}
use Rattle.authority_model.specs.declared.journal.Entry.{Entry}
use Rattle.authority_model.specs.declared.load.Loaded.{Loaded}
use Rattle.audit_words.specs.Codecs.{Codec, Shape, shape, made, number, name_among, ◌&◌}
use Rattle.audit_words.specs.Escapes.{text}
use Rattle.audit_values.specs.Policies.{action, rule_entry, file_fault}
use Rattle.audit_values.specs.Worlds.{user, group, session, process}
use Rattle.audit_values.specs.Entries.{entry}
use Rattle.audit_text.specs.declared.fault.AuditReadRefused.{AuditReadRefused}
use Rattle.audit_text.specs.declared.fault.AuditReadRefused.TheVariants as refused
use Rattle.audit_text.specs.declared.fault.LineKind.TheVariants as kind
use Rattle.audit_text.specs.declared.heads.LoadHead.{LoadHead}
use Rattle.audit_text.specs.declared.heads.TextHead.{TextHead}
use Rattle.audit_text.specs.declared.reading.TheConstants.{MAX_ENTRIES}
use Rattle.audit_text.specs.Lines.{Place, Reading, LineCodec, Headed, headed, take_parts, line, items, ◌↵◌}

-- ---- a load: its eight lengths, and then a line for each item

abbrev pub load_head_shape : Shape LoadHead
load_head_shape = shape (number 32 & number 32 & number 32 & number 32 & number 32 & number 32 & number 32 & number 32)
    (λ p. record { actions = p.0; rules = p.1.0; admins = p.1.1.0; users = p.1.1.1.0; groups = p.1.1.1.1.0; sessions = p.1.1.1.1.1.0; processes = p.1.1.1.1.1.1.0; faults = p.1.1.1.1.1.1.1 })
    (λ h. (h.actions, (h.rules, (h.admins, (h.users, (h.groups, (h.sessions, (h.processes, h.faults))))))))

abbrev pub load_head : Codec LoadHead
load_head = made load_head_shape

abbrev pub load_head_of : Loaded → LoadHead
load_head_of l = record {
  actions = length l.policy.actions;
  rules = length l.policy.entries;
  admins = length l.policy.admins;
  users = length l.world.users;
  groups = length l.world.groups;
  sessions = length l.world.sessions;
  processes = length l.world.processes;
  faults = length l.faults;
}

abbrev pub load_headed : Headed Loaded
load_headed = record {
  Head = LoadHead;
  head = line (codes "load") load_head;
  Parts = _;
  parts = λ h. items (line (codes "action") action) h.actions
      ↵ items (line (codes "rule") rule_entry) h.rules
      ↵ items (line (codes "admin") text) h.admins
      ↵ items (line (codes "user") user) h.users
      ↵ items (line (codes "group") group) h.groups
      ↵ items (line (codes "session") session) h.sessions
      ↵ items (line (codes "process") process) h.processes
      ↵ items (line (codes "fault") file_fault) h.faults;
  make = λ p. record {
    policy = record { actions = p.0; entries = p.1.0; admins = p.1.1.0 };
    world = record { users = p.1.1.1.0; groups = p.1.1.1.1.0; sessions = p.1.1.1.1.1.0; processes = p.1.1.1.1.1.1.0 };
    faults = p.1.1.1.1.1.1.1;
  };
  parts_of = λ l. (l.policy.actions, (l.policy.entries, (l.policy.admins, (l.world.users, (l.world.groups, (l.world.sessions, (l.world.processes, l.faults)))))));
  head_of = load_head_of;
}

abbrev pub load : LineCodec Loaded
load = headed load_headed

-- ---- a history: how many loads and entries it has, the loads, and the entries

abbrev pub version : Codec (Unit {0})
version = name_among (λ u. codes "1") ((codes "1", tt) ∷ [])

abbrev pub text_head_shape : Shape TextHead
text_head_shape = shape (version & number 32 & number 64)
    (λ p. record { loads = p.1.0; entries = p.1.1 })
    (λ h. (tt, (h.loads, h.entries)))

abbrev pub text_head : Codec TextHead
text_head = made text_head_shape

abbrev pub first_line : LineCodec TextHead
first_line = line (codes "audit") text_head

abbrev pub history_headed : Headed History
history_headed = record {
  Head = TextHead;
  head = first_line;
  Parts = List Loaded × List Entry;
  parts = λ h. items load h.loads ↵ items (line (codes "entry") entry) h.entries;
  make = λ p. record { entries = p.1; loads = p.0 };
  parts_of = λ h. (h.loads, h.entries);
  head_of = λ h. record { loads = length h.loads; entries = length h.entries };
}

abbrev pub history : LineCodec History
history = headed history_headed

-- the audit text of a history
abbrev pub audit_text : History → List ℕ
audit_text h = history.spell h

-- the histories that have an audit text: no list has 2^32 items or more, at any depth, but for the entries, of which there
-- are fewer than 2^64; the names of users and groups have at most 4,096 bytes, and their labels are made of them
abbrev pub IsSpelled : History → Type 0
IsSpelled h = history.fits h

-- ---- reading

abbrev pub all_lines : {V : Type 0} → V × Place → Result V AuditReadRefused
all_lines (v, (n, [])) = Ok v
all_lines (v, (n, b ∷ bs)) = Err (refused.BadLine n kind.End)

abbrev pub of_lines : {V : Type 0} → Reading V → Result V AuditReadRefused
of_lines (Ok x) = all_lines x
of_lines (Err e) = Err (refused.BadLine e.0 e.1)

abbrev pub unless_many : TextHead × Place → Result History AuditReadRefused
unless_many h = if nat_lt MAX_ENTRIES h.0.entries then Err (refused.TooMany h.0.entries) else of_lines (take_parts history_headed h)

abbrev pub behind_head : Reading TextHead → Result History AuditReadRefused
behind_head (Ok h) = unless_many h
behind_head (Err e) = Err (refused.BadLine e.0 e.1)

-- what bytes say: the history whose audit text they are, or why there is none
abbrev pub reading : List ℕ → Result History AuditReadRefused
reading bytes = behind_head (first_line.take (1, bytes))
