-- An audit by its status.
use Rattle.std.specs.Prelude.{◌≡◌, ◌⊎◌, ⊤, ℕ, List, ◌++◌, Option, codes, decimal}
use Rattle.pk_outside.specs.Causes.{FailsLast}
use Rattle.pk_outside.specs.Streams.{Got, GotFront}
use Rattle.authority_model.specs.declared.journal.History.{History}
use Rattle.authority_model.specs.Words.{Bytes}
use Rattle.audit_text.specs.declared.fault.AuditReadRefused.{AuditReadRefused}
use Rattle.audit_text.specs.declared.fault.AuditReadRefused.TheVariants as refused
use Rattle.audit_text.specs.Outcomes.{IsAuditText, IsBadLine, IsTooMany}
use Rattle.journal_audit.specs.declared.auditing.Finding.{Finding}
use Rattle.journal_audit.specs.declared.auditing.Finding.TheVariants.{Accepted, Faulty}
use Rattle.journal_audit.specs.declared.clause.Clause.{Clause}
use Rattle.journal_audit.specs.Fault.{Finds, IsAccepted, IsFirstFault}
use Rattle.pkaudit_tool.specs.declared.status.AuditStatus.{AuditStatus}
use Rattle.pkaudit_tool.specs.declared.status.AuditStatus.TheVariants as status

-- the exit code of each status
abbrev pub code_of : AuditStatus → ℕ
code_of status.Accepted = 0
code_of (status.Faulty entry clause) = 1
code_of status.Usage = 2
code_of status.ReadFault = 3
code_of status.WriteFault = 4
code_of (status.TooMany entries) = 5
code_of (status.BadLine line kind) = 6
code_of status.NoMemory = 70

-- the word of a clause
abbrev pub clause_word : Clause → Bytes
clause_word Clause.Load = codes "load"
clause_word Clause.Moment = codes "moment"
clause_word Clause.Salt = codes "salt"
clause_word Clause.Outputs = codes "outputs"
clause_word Clause.Loads = codes "loads"

-- the line of what was found: ok ENTRIES YES, or fault ENTRY CLAUSE
abbrev pub line_of : Finding → Bytes
line_of (Accepted entries count) = codes "ok " ++ (decimal entries ++ (codes " " ++ (decimal count ++ codes "\n")))
line_of (Faulty entry clause) = codes "fault " ++ (decimal entry ++ (codes " " ++ (clause_word clause ++ codes "\n")))

-- how a run ends that told what was found
abbrev pub status_of_finding : Finding → AuditStatus
status_of_finding (Accepted entries count) = status.Accepted
status_of_finding (Faulty entry clause) = status.Faulty entry clause

-- how a text that is refused ends the run
abbrev pub status_of_refused : AuditReadRefused → AuditStatus
status_of_refused refused.ReadFault = status.ReadFault
status_of_refused (refused.TooMany entries) = status.TooMany entries
status_of_refused (refused.BadLine line kind) = status.BadLine line kind
status_of_refused refused.NoMemory = status.NoMemory

-- The bytes are the audit text of a journal, of which this was found, and a prefix of its line was written.
pub record IsCutOff (bytes : List ℕ) (held_before held : Option (List ℕ)) : Type 0 where
  pub history : History
  pub text : IsAuditText bytes history
  pub finding : Finding
  pub found : Finds history finding
  pub written : GotFront held_before held (line_of finding)

-- The bytes are the audit text of a journal that is legal, in which each yes is licensed, and its line was written.
pub record IsPassed (bytes : List ℕ) (held_before held : Option (List ℕ)) : Type 0 where
  pub history : History
  pub text : IsAuditText bytes history
  pub entries : ℕ
  pub count : ℕ
  pub accepted : IsAccepted history entries count
  pub written : Got held_before held (line_of (Accepted entries count))

-- The bytes are the audit text of a journal with this first fault, and its line was written.
pub record IsFailed (bytes : List ℕ) (entry : ℕ) (clause : Clause) (held_before held : Option (List ℕ)) : Type 0 where
  pub history : History
  pub text : IsAuditText bytes history
  pub fault : IsFirstFault history entry clause
  pub written : Got held_before held (line_of (Faulty entry clause))

-- An audit of these bytes, by its status. Memory may be refused before the text is known.
abbrev pub Audited : List ℕ → Option (List ℕ) → Option (List ℕ) → AuditStatus → Type 0
Audited bytes held_before held status.Accepted = IsPassed bytes held_before held
Audited bytes held_before held (status.Faulty entry clause) = IsFailed bytes entry clause held_before held
Audited bytes held_before held status.Usage = ⊥
Audited bytes held_before held status.ReadFault = held ≡ held_before
Audited bytes held_before held status.WriteFault = IsCutOff bytes held_before held
Audited bytes held_before held (status.TooMany entries) = (held ≡ held_before) × IsTooMany bytes entries
Audited bytes held_before held (status.BadLine line kind) = (held ≡ held_before) × IsBadLine bytes line kind
Audited bytes held_before held status.NoMemory = (held ≡ held_before) ⊎ IsCutOff bytes held_before held

-- where the bytes themselves were judged, this holds
abbrev pub OnRead : AuditStatus → Type 0 → Type 0
OnRead status.Accepted P = P
OnRead (status.Faulty entry clause) P = P
OnRead (status.TooMany entries) P = P
OnRead (status.BadLine line kind) P = P
OnRead other P = ⊤

-- the run ended so, unless a fault was counted or memory was refused
abbrev pub Unless : AuditStatus → AuditStatus → Type 0
Unless due status.ReadFault = ⊤
Unless due status.WriteFault = ⊤
Unless due status.NoMemory = ⊤
Unless due other = other ≡ due

-- a write fault was counted by the last write to the output, and by no write before it
abbrev pub OutputFaults : {S : Type 0} → (S → Option (List ℕ)) → (S → ℕ) → S → S → AuditStatus → Type 0
OutputFaults held faults before now status.WriteFault = FailsLast held faults before now
OutputFaults held faults before now other = faults now ≡ faults before

-- the line of what was found was written, or a prefix of it up to a fault, or none for want of memory
abbrev pub Told : Finding → Option (List ℕ) → Option (List ℕ) → AuditStatus → Type 0
Told finding held_before held result = ((result ≡ status_of_finding finding) × Got held_before held (line_of finding))
    ⊎ (((result ≡ status.WriteFault) × GotFront held_before held (line_of finding))
    ⊎ ((result ≡ status.NoMemory) × (held ≡ held_before)))

-- what was found of a journal was told, or memory was refused before
abbrev pub AuditsHistory : History → Option (List ℕ) → Option (List ℕ) → AuditStatus → Type 0
AuditsHistory h held_before held result = ((finding : Finding) × Finds h finding × Told finding held_before held result)
    ⊎ ((result ≡ status.NoMemory) × (held ≡ held_before))
