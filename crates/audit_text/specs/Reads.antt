-- What a function that reads lines returned.
use Rattle.std.specs.Prelude.{◌≡◌, Result, Ok, Err}
use Rattle.authority_model.specs.declared.journal.History.{History}
use Rattle.audit_text.specs.declared.fault.LineKind.{LineKind}
use Rattle.audit_text.specs.declared.fault.LineStop.{LineStop}
use Rattle.audit_text.specs.declared.fault.LineStop.TheVariants as of_line
use Rattle.audit_text.specs.declared.fault.AuditReadRefused.{AuditReadRefused}
use Rattle.audit_text.specs.declared.fault.AuditReadRefused.TheVariants as refused

abbrev pub LineFails : {V : Type 0} → LineStop → Result V LineKind → Type 0
LineFails of_line.Memory read = Unit {0}
LineFails (of_line.Bad k) read = read ≡ Err k

-- It gave the value of the line, or its kind of fault, or memory ran out.
abbrev pub LineGives : {V : Type 0} → Result V LineStop → Result V LineKind → Type 0
LineGives (Ok v) read = read ≡ Ok v
LineGives (Err e) read = LineFails e read

-- It gave the history, or the refusal, or a read failed, or memory ran out.
abbrev pub GivesHistory : Result History AuditReadRefused → Result History AuditReadRefused → Type 0
GivesHistory (Err refused.NoMemory) read = Unit {0}
GivesHistory (Err refused.ReadFault) read = Unit {0}
GivesHistory result read = result ≡ read
