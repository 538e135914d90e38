-- What a service prints at its end.
use Rattle.std.specs.Prelude.{◌≡◌, ℕ, Bool, true, false, List, Option, None, Some, All, length, map}
use Rattle.authority_model.specs.declared.journal.History.{History}
use Rattle.authority_model.specs.declared.journal.Item.{Item}
use Rattle.authority_model.specs.Items.{items_of}
use Rattle.history_lock.specs.declared.machine.EndCause.{EndCause}
use Rattle.history_lock.specs.declared.machine.EndCause.TheVariants as cause
use Rattle.journal_scan.specs.Counts.{totals_of}
use Rattle.journal_scan.specs.Orderly.{IsOrderly}
use Rattle.pk_outside.specs.Causes.{one_more}
use Rattle.pk_outside.specs.Streams.{Got, GotFront}
use Rattle.service_slots.specs.declared.line.Line.{Line}
use Rattle.service_slots.specs.declared.opening.ShutSlot.{ShutSlot}
use Rattle.authority_service.specs.declared.ends.ServiceEnd.{ServiceEnd}
use Rattle.authority_service.specs.declared.ends.ServiceEnd.TheVariants as end
use Rattle.authority_service.specs.Lines.{closing_text, scanned}
use Rattle.authority_service.specs.Looks.{HasNoUnlisted, NeverLooked}
use Rattle.authority_service.specs.Service.{AreAllLoads, CanAdmitAll, end_of}

-- The journal was found to be orderly, its counts to fit the kept cause, and no look at a process in it unless the service is live.
pub record IsSound (live : Bool) (past : List Item) (lines : List Line) (slots : ℕ) (kept : Option EndCause) : Type 0 where
  pub orderly : IsOrderly (map scanned lines) past
  pub loads : kept ≡ None → AreAllLoads (totals_of past)
  pub passes : (admitted : ℕ) → kept ≡ Some (cause.Admissions admitted) → CanAdmitAll live (length lines) slots
  pub looks : live ≡ false → All NeverLooked lines
  pub unlisted : live ≡ false → HasNoUnlisted past

-- The text was written without a fault, or a front of it, and the output counted one fault.
abbrev pub WrittenAs : Option (List ℕ) → Option (List ℕ) → ℕ → ℕ → List ℕ → Bool → Type 0
WrittenAs before after faults_before faults text true = Got before after text × (faults ≡ faults_before)
WrittenAs before after faults_before faults text false = GotFront before after text × (faults ≡ one_more faults_before)

-- The journal was found to be sound. Then the closing text was written, whole or a front of it, and the end is chosen.
pub record WasPrinted (live audit : Bool) (journal : History) (lines : List Line) (kept : Option EndCause) (slots : List ShutSlot) (before after : Option (List ℕ)) (faults_before faults : ℕ) (e : ServiceEnd) : Type 0 where
  pub sound : IsSound live (items_of journal) lines (length slots) kept
  pub written : Bool
  pub end_is : e ≡ end_of kept slots written
  pub wrote : WrittenAs before after faults_before faults (closing_text audit journal lines) written

-- Nothing was written, since memory was refused.
pub record WasUntold (before after : Option (List ℕ)) (faults_before faults : ℕ) (e : ServiceEnd) : Type 0 where
  pub end_is : e ≡ end.NoMemory
  pub same : after ≡ before
  pub quiet : faults ≡ faults_before
