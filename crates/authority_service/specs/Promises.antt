-- What a service may print, whether or not it ends.
use Rattle.std.specs.Prelude.{◌≡◌, ◌≤◌, ℕ, false, List, Option, Ok, IfSome, All, length, map}
use Rattle.pk_outside.specs.Allowing.{MayFronts}
use Rattle.pk_outside.specs.Trees.{TreeTold}
use Rattle.policy_load.specs.Loads.{load_of}
use Rattle.authority_laws.specs.Batches.{in_order}
use Rattle.authority_model.specs.declared.journal.History.{History}
use Rattle.authority_model.specs.declared.load.Loaded.{Loaded}
use Rattle.authority_model.specs.Items.{items_of}
use Rattle.authority_model.specs.Licensed.{AllLicensed}
use Rattle.journal_scan.specs.Orderly.{IsOrderly}
use Rattle.serve_words.specs.declared.plan.ServePlan.{ServePlan}
use Rattle.service_slots.specs.declared.line.Line.{Line}
use Rattle.shared_authority.specs.Journals.{IsJournal}
use Rattle.authority_service.specs.Beginning.{BeginsWith}
use Rattle.authority_service.specs.Lines.{closing_text, opening_text, scanned}
use Rattle.authority_service.specs.Looks.{HasNoUnlisted, NeverLooked}
use Rattle.authority_service.specs.Service.{Left, printed}

-- A service may print this of its journal: it is legal and has no more entries than the plan allows, each yes in it is licensed, it begins with this first load, the lines of the connections are those of its items, and unless the plan is live no connection looked at a process.
pub record IsPrintable (plan : ServePlan) (first : Loaded) (left : Left) : Type 0 where
  pub legal : IsJournal (in_order left.journal)
  pub within : length left.journal.entries ≤ plan.limits.entries
  pub licensed : AllLicensed (items_of left.journal)
  pub begins : BeginsWith first (in_order left.journal)
  pub orderly : IsOrderly (map scanned left.lines) (items_of left.journal)
  pub looks : plan.live ≡ false → All NeverLooked left.lines
  pub unlisted : plan.live ≡ false → HasNoUnlisted (items_of left.journal)

-- Each prefix may be written of what is told of this first load, and of all that may be printed of a journal.
pub record MayPrintFrom (Allowed : List ℕ → Type 0) (held : Option (List ℕ)) (plan : ServePlan) (first : Loaded) : Type 0 where
  pub opening : MayFronts Allowed held (opening_text plan.audit first)
  pub all : (left : Left) → IsPrintable plan first left → MayFronts Allowed held (printed plan first left)

-- The same for the first load of the tree, where the tree tells its files, and else for any.
abbrev pub MayPrint : (List ℕ → Type 0) → Option (List ℕ) → ServePlan → Option TreeTold → Type 0
MayPrint Allowed held plan told = (first : Loaded) → IfSome told (λ tree. load_of tree plan.root ≡ Ok first) → MayPrintFrom Allowed held plan first

-- Each prefix may be written of the closing text of a journal, where the lines are those of its items, and show no look at a process unless the plan is live.
abbrev pub MayClose : (List ℕ → Type 0) → Option (List ℕ) → ServePlan → History → List Line → Type 0
MayClose Allowed held plan journal lines =
    IsOrderly (map scanned lines) (items_of journal)
    → (plan.live ≡ false → All NeverLooked lines)
    → (plan.live ≡ false → HasNoUnlisted (items_of journal))
    → MayFronts Allowed held (closing_text plan.audit journal lines)
