-- What an audit of a scenario writes.
use Rattle.std.specs.Prelude.{◌≡◌, ℕ, Bool, false, List, [], Option}
use Rattle.pk_outside.specs.Streams.{Got, GotFront}
use Rattle.pk_outside.specs.Trees.{TreeTold}
use Rattle.authority_model.specs.declared.journal.History.{History}
use Rattle.authority_model.specs.declared.journal.Limits.{Limits}
use Rattle.authority_model.specs.Items.{items_of}
use Rattle.authority_model.specs.Legal.{IsLegal}
use Rattle.authority_model.specs.Licensed.{AllLicensed}
use Rattle.audit_text.specs.Audit.{audit_text}
use Rattle.scenario_run.specs.Room.{whole}
use Rattle.scenario_run.specs.Scene.{Scene, start}
use Rattle.replay_run.specs.declared.ends.ReplayEnd.{ReplayEnd}
use Rattle.replay_run.specs.declared.ends.ReplayEnd.TheVariants as end
use Rattle.replay_run.specs.Replay.{Plays, IsRun}
use Rattle.replay_run.specs.Rooted.{IsUntouched, RunsFrom}

-- The whole input was run, and makes a legal history, in which each yes is licensed. Of its audit text so much was written.
pub record IsAudited (begin : Scene) (left_before left : Option (List ℕ)) (ended : Bool) (Written : List ℕ → Type 0) : Type 0 where
  pub history : History
  pub legal : IsLegal history
  pub licensed : AllLicensed (items_of history)
  pub run : IsRun begin left_before left ended (items_of history)
  pub written : Written (audit_text history)

-- what was written of the audit text of a history, by how its writing ended
abbrev pub IsWritten : History → Option (List ℕ) → Option (List ℕ) → ReplayEnd → Type 0
IsWritten history before held end.Done = Got before held (audit_text history)
IsWritten history before held end.WriteFault = GotFront before held (audit_text history)
IsWritten history before held end.NoMemory = held ≡ before
IsWritten history before held other = ⊥

-- the run of the lines ended so, as a replay would, and nothing was written
abbrev pub EndsUnwritten : Scene → Option (List ℕ) → Option (List ℕ) → Bool → Option (List ℕ) → Option (List ℕ) → ReplayEnd → Type 0
EndsUnwritten = Plays false []

-- An audit of the lines from where it begins, by its end. Nothing is written before the whole input was run, nor where memory is refused.
abbrev pub Audits : Scene → Option (List ℕ) → Option (List ℕ) → Bool → Option (List ℕ) → Option (List ℕ) → ReplayEnd → Type 0
Audits begin left_before left ended held_before held end.Done = IsAudited begin left_before left ended (Got held_before held)
Audits begin left_before left ended held_before held end.WriteFault = IsAudited begin left_before left ended (GotFront held_before held)
Audits begin left_before left ended held_before held other = EndsUnwritten begin left_before left ended held_before held other

-- An audit from a root, by its end.
abbrev pub AuditsFrom : Option TreeTold → Option (List ℕ) → Limits → ℕ → ℕ → Option (List ℕ) → Option (List ℕ) → Bool → Option (List ℕ) → Option (List ℕ) → ReplayEnd → Type 0
AuditsFrom told root limits before now left_before left ended held_before held =
    RunsFrom told root before now (IsUntouched left_before left held_before held)
    (λ first. Audits (start (whole limits) first) left_before left ended held_before held)
