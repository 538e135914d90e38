-- What is read from the bytes of an input.
use Rattle.std.specs.Prelude.{◌≡◌, ◌≢◌, ◌<◌, ◌≤◌, ◌+◌, ℕ, List, ◌∷◌, ◌++◌, length, Result, Ok, Err}
use Rattle.std.proofs.Common.{◌⊎◌}
use Rattle.pk_types.specs.Pieces.{Lacks, pieces_of}
use Rattle.authority_model.specs.declared.journal.History.{History}
use Rattle.audit_text.specs.declared.fault.LineKind.{LineKind}
use Rattle.audit_text.specs.declared.fault.LineKind.TheVariants as kind
use Rattle.audit_text.specs.declared.fault.AuditReadRefused.{AuditReadRefused}
use Rattle.audit_text.specs.declared.fault.AuditReadRefused.TheVariants as refused
use Rattle.audit_text.specs.declared.heads.TextHead.{TextHead}
use Rattle.audit_text.specs.declared.reading.TheConstants.{MAX_ENTRIES}
use Rattle.audit_text.specs.Lines.{lines_in}
use Rattle.audit_text.specs.Audit.{first_line, history, audit_text, IsSpelled}
use Rattle.audit_text.specs.Faults.{Stops}

-- the bytes are the audit text of this history, which has at most 65,536 entries
pub record IsAuditText (bytes : List ℕ) (h : History) : Type 0 where
  pub spelled : IsSpelled h
  pub text : bytes ≡ audit_text h
  pub few : length h.entries ≤ MAX_ENTRIES

-- the first line is in form, and tells more than 65,536 entries
pub record IsTooMany (bytes : List ℕ) (entries : ℕ) : Type 0 where
  pub head : TextHead
  pub fits : first_line.fits head
  pub told : entries ≡ head.entries
  pub many : MAX_ENTRIES < entries
  pub rest : List ℕ
  pub begins : bytes ≡ first_line.spell head ++ rest

-- no audit text has these lines, and behind them a line with these words
abbrev pub NoTextHas : List ℕ → List (List ℕ) → Type 0
NoTextHas front words = (line rest : List ℕ) → Lacks 10 line → pieces_of 32 line ≡ words → (h : History) → IsSpelled h → audit_text h ≢ front ++ (line ++ 10 ∷ rest)

-- the bytes go on after the last line of an audit text
pub record GoesOnAfter (bytes : List ℕ) (line : ℕ) (k : LineKind) : Type 0 where
  pub value : History
  pub spelled : IsSpelled value
  pub byte : ℕ
  pub behind : List ℕ
  pub after : bytes ≡ audit_text value ++ byte ∷ behind
  pub number : line ≡ 1 + lines_in (audit_text value)
  pub end : k ≡ kind.End

-- this line is the first one out of the grammar, for this cause
abbrev pub IsBadLine : List ℕ → ℕ → LineKind → Type 0
IsBadLine bytes line k = Stops history NoTextHas (1, bytes) (line, k) ⊎ GoesOnAfter bytes line k

-- what all bytes of an input were read as; a read that failed and want of memory say nothing of them
abbrev pub IsReading : List ℕ → Result History AuditReadRefused → Type 0
IsReading bytes (Ok h) = IsAuditText bytes h
IsReading bytes (Err refused.ReadFault) = Unit {0}
IsReading bytes (Err (refused.TooMany entries)) = IsTooMany bytes entries
IsReading bytes (Err (refused.BadLine line k)) = IsBadLine bytes line k
IsReading bytes (Err refused.NoMemory) = Unit {0}

-- the history was read, or a read failed, or memory was refused
abbrev pub IsReadAs : History → Result History AuditReadRefused → Type 0
IsReadAs h (Ok read) = read ≡ h
IsReadAs h (Err refused.ReadFault) = Unit {0}
IsReadAs h (Err (refused.TooMany entries)) = ⊥
IsReadAs h (Err (refused.BadLine line k)) = ⊥
IsReadAs h (Err refused.NoMemory) = Unit {0}

-- the number of entries was refused, or a read failed, or memory was refused
abbrev pub IsRefusedMany : ℕ → Result History AuditReadRefused → Type 0
IsRefusedMany entries (Ok read) = ⊥
IsRefusedMany entries (Err refused.ReadFault) = Unit {0}
IsRefusedMany entries (Err (refused.TooMany told)) = told ≡ entries
IsRefusedMany entries (Err (refused.BadLine line k)) = ⊥
IsRefusedMany entries (Err refused.NoMemory) = Unit {0}

-- where the bytes themselves were judged, this holds
abbrev pub OnJudged : Result History AuditReadRefused → Type 0 → Type 0
OnJudged (Ok read) P = P
OnJudged (Err refused.ReadFault) P = Unit {0}
OnJudged (Err (refused.TooMany entries)) P = P
OnJudged (Err (refused.BadLine line k)) P = P
OnJudged (Err refused.NoMemory) P = Unit {0}
