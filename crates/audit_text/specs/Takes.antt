-- Lines that are taken from a source, of which the rest is not known yet.
use Rattle.std.specs.Prelude.{◌≡◌, ◌≤◌, ℕ, Bool, true, false, IsTrue, List, [], ◌++◌, ◌∷◌, Option, Result, Ok, Err, suc}
use Rattle.std.proofs.Common.{◌⊎◌}
use Rattle.pk_types.specs.Pieces.{Lacks}
use Rattle.pk_outside.specs.Causes.{Rose}
use Rattle.pk_outside.specs.Streams.{Gave}
use Rattle.authority_model.specs.declared.journal.History.{History}
use Rattle.audit_text.specs.declared.fault.LineKind.{LineKind}
use Rattle.audit_text.specs.declared.fault.LineKind.TheVariants as kind
use Rattle.audit_text.specs.declared.fault.Stop.{Stop}
use Rattle.audit_text.specs.declared.fault.Stop.TheVariants as stops
use Rattle.audit_text.specs.declared.fault.AuditReadRefused.{AuditReadRefused}
use Rattle.audit_text.specs.declared.fault.AuditReadRefused.TheVariants as refused
use Rattle.audit_text.specs.Lines.{Place, Reading}
use Rattle.audit_text.specs.Outcomes.{OnJudged}
use Rattle.audit_text.specs.Reads.{GivesHistory}

-- where reading stands: the number of the next line, the bytes that were read and not taken yet, what the source will give,
-- how often it has failed, and whether its last read has met the end
pub record Stand : Type 0 where
  pub number : ℕ
  pub kept : List ℕ
  pub left : Option (List ℕ)
  pub faults : ℕ
  pub ended : Bool

abbrev pub stand : ℕ → List ℕ → Option (List ℕ) → ℕ → Bool → Stand
stand number kept left faults ended = record { number = number; kept = kept; left = left; faults = faults; ended = ended }

-- the place of the next line, where these bytes come behind those that were read
abbrev pub place_at : Stand → List ℕ → Place
place_at s after = (s.number, s.kept ++ after)

-- only at the end of the input does it count that nothing comes behind
abbrev pub IfEnd : LineKind → Type 0 → Type 0
IfEnd kind.Word P = Unit {0}
IfEnd kind.Count P = Unit {0}
IfEnd kind.Number P = Unit {0}
IfEnd kind.Value P = Unit {0}
IfEnd kind.End P = P

-- what was returned of bytes that go on so, and why
abbrev pub GivesAt : {V : Type 0} → Result V Stop → Stand → Stand → List ℕ → Reading V → Type 0
GivesAt (Ok v) before now after reading = reading ≡ Ok (v, place_at now after)
GivesAt (Err stops.Memory) before now after reading = Unit {0}
GivesAt (Err stops.Failed) before now after reading = Unit {0}
GivesAt (Err (stops.Bad n k)) before now after reading = IfEnd k (after ≡ []) → reading ≡ Err (n, k)

abbrev pub HasStopCause : {V : Type 0} → Result V Stop → Stand → Stand → Type 0
HasStopCause (Ok v) before now = Unit {0}
HasStopCause (Err stops.Memory) before now = Unit {0}
HasStopCause (Err stops.Failed) before now = Rose before.faults now.faults
HasStopCause (Err (stops.Bad n k)) before now = IfEnd k (IsTrue now.ended)

-- Bytes were read, and whatever comes behind them: the value that they spell was given, or the faulty line.
pub record Takes {V : Type 0} (before now : Stand) (result : Result V Stop) (take : Place → Reading V) : Type 0 where
  pub read : List ℕ
  pub gave : Gave before.left now.left read
  pub gives : (after : List ℕ) → GivesAt result before now after (take (place_at before (read ++ after)))
  pub later : before.faults ≤ now.faults
  pub cause : HasStopCause result before now

-- ---- the next line

pub record IsLine (before now : Stand) (read line : List ℕ) : Type 0 where
  pub whole : before.kept ++ read ≡ line ++ 10 ∷ now.kept
  pub lacks : Lacks 10 line
  pub number : now.number ≡ suc before.number

pub record IsNoLine (before now : Stand) (read : List ℕ) (n : ℕ) (k : LineKind) : Type 0 where
  pub lacks : Lacks 10 (before.kept ++ read)
  pub ended : IsTrue now.ended
  pub number : n ≡ before.number
  pub end : k ≡ kind.End

abbrev pub LineAt : {T : Type 0} → Result T Stop → Stand → Stand → List ℕ → List ℕ → Type 0
LineAt (Ok x) before now read line = IsLine before now read line
LineAt (Err stops.Memory) before now read line = Unit {0}
LineAt (Err stops.Failed) before now read line = Rose before.faults now.faults
LineAt (Err (stops.Bad n k)) before now read line = IsNoLine before now read n k

pub record TakesLine {T : Type 0} (before now : Stand) (result : Result T Stop) (line : List ℕ) : Type 0 where
  pub read : List ℕ
  pub gave : Gave before.left now.left read
  pub is : LineAt result before now read line
  pub later : before.faults ≤ now.faults

-- ---- up to the end of the input

-- no byte is left, or this one is the next
abbrev pub LeftAt : Result Bool Stop → Stand → Stand → List ℕ → Type 0
LeftAt (Ok true) before now read = (before.kept ++ read ≡ []) × IsTrue now.ended
LeftAt (Ok false) before now read = (byte : ℕ) × (behind : List ℕ) × (before.kept ++ read ≡ byte ∷ behind) × (now.kept ≡ byte ∷ behind)
LeftAt (Err stops.Memory) before now read = Unit {0}
LeftAt (Err stops.Failed) before now read = Rose before.faults now.faults
LeftAt (Err (stops.Bad n k)) before now read = ⊥

pub record IsLeft (before now : Stand) (result : Result Bool Stop) : Type 0 where
  pub read : List ℕ
  pub gave : Gave before.left now.left read
  pub is : LeftAt result before now read
  pub later : before.faults ≤ now.faults

-- this answer was given where all was read, or a read failed or memory was refused before
abbrev pub IsClosed : AuditReadRefused → Stand → Stand → AuditReadRefused → Type 0
IsClosed answer before now result = ((result ≡ answer) × IsTrue now.ended) ⊎ ((result ≡ refused.ReadFault) × Rose before.faults now.faults ⊎ (result ≡ refused.NoMemory))

pub record Closes (answer : AuditReadRefused) (before now : Stand) (result : AuditReadRefused) : Type 0 where
  pub rest : List ℕ
  pub gave : Gave before.left now.left rest
  pub later : before.faults ≤ now.faults
  pub is : IsClosed answer before now result

-- The refusal for a stop: where the faulty line was not the end, all was read before.
abbrev pub IsRefusal : Stop → Stand → Stand → List ℕ → AuditReadRefused → Type 0
IsRefusal stops.Memory before now rest result = result ≡ refused.NoMemory
IsRefusal stops.Failed before now rest result = result ≡ refused.ReadFault
IsRefusal (stops.Bad n kind.End) before now rest result = (result ≡ refused.BadLine n kind.End) × (rest ≡ []) × (now.ended ≡ before.ended)
IsRefusal (stops.Bad n k) before now rest result = IsClosed (refused.BadLine n k) before now result

pub record Refuses (stop : Stop) (before now : Stand) (result : AuditReadRefused) : Type 0 where
  pub rest : List ℕ
  pub gave : Gave before.left now.left rest
  pub later : before.faults ≤ now.faults
  pub is : IsRefusal stop before now rest result

abbrev pub HasReadCause : {V : Type 0} → Result V AuditReadRefused → Stand → Stand → Type 0
HasReadCause (Ok v) before now = Unit {0}
HasReadCause (Err refused.ReadFault) before now = Rose before.faults now.faults
HasReadCause (Err (refused.TooMany n)) before now = Unit {0}
HasReadCause (Err (refused.BadLine n k)) before now = Unit {0}
HasReadCause (Err refused.NoMemory) before now = Unit {0}

-- All bytes were read, and what they say was given; or a read failed, or memory was refused.
pub record Ends (before now : Stand) (result : Result History AuditReadRefused) (says : Place → Result History AuditReadRefused) : Type 0 where
  pub read : List ℕ
  pub gave : Gave before.left now.left read
  pub gives : GivesHistory result (says (place_at before read))
  pub ended : OnJudged result (IsTrue now.ended)
  pub later : before.faults ≤ now.faults
  pub cause : HasReadCause result before now
