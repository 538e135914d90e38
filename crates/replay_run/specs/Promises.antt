-- What a run of a scenario may write to its output, whether or not it ends.
use Rattle.std.specs.Prelude.{◌≡◌, ℕ, Bool, true, List, ◌++◌, Option}
use Rattle.pk_outside.specs.Allowing.{MayFronts}
use Rattle.pk_outside.specs.Trees.{TreeTold}
use Rattle.authority_model.specs.declared.journal.History.{History}
use Rattle.authority_model.specs.declared.journal.Item.{Item}
use Rattle.authority_model.specs.declared.load.Loaded.{Loaded}
use Rattle.authority_model.specs.Items.{items_of}
use Rattle.authority_model.specs.Legal.{IsLegal, Legal}
use Rattle.authority_model.specs.Licensed.{AllLicensed}
use Rattle.audit_text.specs.Audit.{audit_text}
use Rattle.scenario_run.specs.Text.{last_outputs, loads_of, outputs_text, text_of}
use Rattle.scenario_text.specs.Skipped.{skipped_lines}
use Rattle.replay_run.specs.declared.telling.Telling.{Telling}
use Rattle.replay_run.specs.Rooted.{IsFirst}
use Rattle.replay_run.specs.Telling.{HasCounted, tells}

-- Each prefix may be written of what this first load skipped, and then of the answer lines of any legal history in which each yes is licensed.
abbrev pub MayReplayFrom : (List ℕ → Type 0) → Option (List ℕ) → Loaded → Type 0
MayReplayFrom Allowed held first = (past : List Item) → Legal past → AllLicensed past → MayFronts Allowed held (skipped_lines first.faults ++ text_of past)

-- The same for the first draft that the root gives, where the tree tells its files, and else for any.
abbrev pub MayReplay : (List ℕ → Type 0) → Option (List ℕ) → Option TreeTold → Option (List ℕ) → Type 0
MayReplay Allowed held told root = (first : Loaded) → IsFirst told root first → MayReplayFrom Allowed held first

-- Each prefix may be written of the audit text of any legal history in which each yes is licensed.
abbrev pub MayAudit : (List ℕ → Type 0) → Option (List ℕ) → Type 0
MayAudit Allowed held = (history : History) → IsLegal history → AllLicensed (items_of history) → MayFronts Allowed held (audit_text history)

-- Where answers are told: each prefix may be written of what later items of such a history add to the answer lines of these.
abbrev pub MayTellOn : Bool → (List ℕ → Type 0) → Option (List ℕ) → List Item → Type 0
MayTellOn tells Allowed held past = tells ≡ true → (later : List Item) (more : List ℕ) → Legal later → AllLicensed later → text_of later ≡ text_of past ++ more → MayFronts Allowed held more

-- Where answers are told: each prefix may be written of the answer lines of the newest item.
abbrev pub MayTellLast : Telling → (List ℕ → Type 0) → Option (List ℕ) → List Item → Type 0
MayTellLast telling Allowed held past = tells telling ≡ true → (counts : ℕ → ℕ) → HasCounted telling counts → MayFronts Allowed held (outputs_text (loads_of past) counts (last_outputs past))
