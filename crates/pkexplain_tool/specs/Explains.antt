-- An explanation by its status.
use Rattle.std.specs.Prelude.{◌≡◌, ℕ, ◌⊎◌, List, Option, IfSome, Ok, Err}
use Rattle.pk_outside.specs.Causes.{FailsLast, Rose}
use Rattle.pk_outside.specs.Streams.{Got, GotFront}
use Rattle.pk_outside.specs.Trees.{TreeTold}
use Rattle.authority_model.specs.declared.load.Loaded.{Loaded}
use Rattle.policy_load.specs.declared.refused.LoadRefused.{LoadRefused}
use Rattle.policy_load.specs.declared.refused.LoadRefused.TheVariants as refused
use Rattle.policy_load.specs.Loads.{load_of}
use Rattle.pkexplain_tool.specs.Lines.{explained, text_of}
use Rattle.pkexplain_tool.specs.declared.status.ExplainStatus.{ExplainStatus}
use Rattle.pkexplain_tool.specs.declared.status.ExplainStatus.TheVariants as status

-- the exit code of each status
abbrev pub code_of : ExplainStatus → ℕ
code_of status.Done = 0
code_of status.Usage = 1
code_of (status.TreeFault count) = 2
code_of (status.LoadRefused refused) = 2
code_of status.WriteFault = 4
code_of status.NoMemory = 70

-- the tree gives this load below the root, where it tells its files
abbrev pub IsLoad : Option TreeTold → List ℕ → Loaded → Type 0
IsLoad told root loaded = IfSome told (λ tree. load_of tree root ≡ Ok loaded)

-- a limit or a table of the tree refuses its load for this cause, where the tree tells its files
abbrev pub IsRefused : Option TreeTold → List ℕ → LoadRefused → Type 0
IsRefused told root (refused.Limit which count) = IfSome told (λ tree. load_of tree root ≡ Err (refused.Limit which count))
IsRefused told root (refused.BadTable file fault) = IfSome told (λ tree. load_of tree root ≡ Err (refused.BadTable file fault))
IsRefused told root other = ⊥

-- how a load that is refused ends the run
abbrev pub status_of : LoadRefused → ExplainStatus
status_of (refused.TreeFault count) = status.TreeFault count
status_of refused.NoMemory = status.NoMemory
status_of other = status.LoadRefused other

-- The load of the root was explained: its lines were written.
pub record IsExplained (told : Option TreeTold) (root : List ℕ) (held_before held : Option (List ℕ)) : Type 0 where
  pub loaded : Loaded
  pub load : IsLoad told root loaded
  pub written : Got held_before held (text_of (explained loaded))

-- The load of the root was explained in part: a prefix of its lines was written.
pub record IsCutOff (told : Option TreeTold) (root : List ℕ) (held_before held : Option (List ℕ)) : Type 0 where
  pub loaded : Loaded
  pub load : IsLoad told root loaded
  pub written : GotFront held_before held (text_of (explained loaded))

-- An explanation from a root, by its status. The faults are those that the tree counted, before and after. Memory may be refused before the load is known.
abbrev pub Explained : Option TreeTold → List ℕ → ℕ → ℕ → Option (List ℕ) → Option (List ℕ) → ExplainStatus → Type 0
Explained told root before now held_before held status.Done = IsExplained told root held_before held
Explained told root before now held_before held status.Usage = ⊥
Explained told root before now held_before held (status.TreeFault count) = (held ≡ held_before) × (count ≡ now) × Rose before now
Explained told root before now held_before held (status.LoadRefused why) = (held ≡ held_before) × IsRefused told root why
Explained told root before now held_before held status.WriteFault = IsCutOff told root held_before held
Explained told root before now held_before held status.NoMemory = (held ≡ held_before) ⊎ IsCutOff told root held_before held

-- a write fault was counted by the last write to the output, and by no write before it
abbrev pub OutputFaults : {S : Type 0} → (S → Option (List ℕ)) → (S → ℕ) → S → S → ExplainStatus → Type 0
OutputFaults held faults before now status.WriteFault = FailsLast held faults before now
OutputFaults held faults before now other = faults now ≡ faults before
