-- What explaining adds to what is ready to be written, and to the first case that each rule decides.
use Rattle.std.specs.Prelude.{◌≡◌, ℕ, List, ◌++◌, Option, Result, Ok, Err, option_map, slice_get}
use Rattle.pk_outside.specs.Causes.{FailsLast}
use Rattle.pk_outside.specs.Streams.{GotUpTo}
use Rattle.authority_model.specs.declared.load.Loaded.{Loaded}
use Rattle.authority_model.specs.Lists.{or_else}
use Rattle.pkexplain_tool.specs.Cases.{cases_of, first_decided}
use Rattle.pkexplain_tool.specs.Lines.{case_lines, text_of}
use Rattle.pkexplain_tool.specs.declared.account.Account.{Account}
use Rattle.pkexplain_tool.specs.declared.case.Case.{Case}
use Rattle.pkexplain_tool.specs.declared.stop.Stop.{Stop}
use Rattle.pkexplain_tool.specs.declared.stop.Stop.TheVariants as stop

-- each rule that had no first case has the one that was found for it
abbrev pub Notes : (ℕ → Option Case) → List (Option Case) → List (Option Case) → Type 0
Notes found before now = (place : ℕ) → slice_get now place ≡ option_map (λ first. or_else first (found place)) (slice_get before place)

-- cases were explained: their lines stand behind the text, and each rule that had no first case has the first of them that it decides
pub record Explains (loaded : Loaded) (cases : List Case) (before now : Account) : Type 0 where
  pub lines : now.text.items ≡ before.text.items ++ text_of (case_lines loaded cases)
  pub firsts : Notes (first_decided loaded cases) before.firsts now.firsts

-- cases were explained, and what is no longer ready was written
pub record Tells (loaded : Loaded) (cases : List Case) (before now : Account) (held_before held : Option (List ℕ)) : Type 0 where
  pub written : GotUpTo held_before held (before.text.items ++ text_of (case_lines loaded cases)) now.text.items
  pub firsts : Notes (first_decided loaded cases) before.firsts now.firsts

-- each rule has the first case that it decides, if there is one
abbrev pub AreFirsts : Loaded → List (Option Case) → Type 0
AreFirsts loaded firsts = (place : ℕ) → slice_get firsts place ≡ option_map (λ _. first_decided loaded (cases_of loaded) place) (slice_get loaded.policy.entries place)

-- a write that failed was the last, and counted one fault; otherwise none was counted
abbrev pub StopFaults : {S : Type 0} → (S → Option (List ℕ)) → (S → ℕ) → S → S → Result (Unit {0}) Stop → Type 0
StopFaults held faults before now (Ok done) = faults now ≡ faults before
StopFaults held faults before now (Err stop.Failed) = FailsLast held faults before now
StopFaults held faults before now (Err stop.NoMemory) = faults now ≡ faults before
