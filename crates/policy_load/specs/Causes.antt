-- What a load answers, and why.
use Rattle.std.specs.Prelude.{◌≡◌, ◌≢◌, ℕ, ◌≤◌, Result, Ok, Err, IfErr, map}
use Rattle.pk_outside.specs.Causes.{Rose}
use Rattle.pk_outside.specs.Trees.{TreeTold}
use Rattle.pk_outside.specs.declared.tree.TreeRefused.{TreeRefused}
use Rattle.pk_outside.specs.declared.tree.TreeRefused.TheVariants as tree_refused
use Rattle.authority_model.specs.Words.{Bytes}
use Rattle.table_files.specs.declared.fault.TableFault.{TableFault}
use Rattle.table_files.specs.declared.fault.TableFault.TheVariants as fault
use Rattle.policy_load.specs.Kept.{found_with}
use Rattle.policy_load.specs.declared.files.reading.ReadFiles.{ReadFiles}
use Rattle.policy_load.specs.declared.refused.LoadRefused.{LoadRefused}
use Rattle.policy_load.specs.declared.refused.LoadRefused.TheVariants as refused
use Rattle.policy_load.specs.Loads.{load_of, load_joined, joined}

-- the answer is the one that is due; a fault of the tree and want of memory are free
abbrev pub LoadsAs : {A : Type 0} → Result A LoadRefused → Result A LoadRefused → Type 0
LoadsAs due (Ok value) = due ≡ Ok value
LoadsAs due (Err (refused.TreeFault count)) = Unit {0}
LoadsAs due (Err (refused.Limit which count)) = due ≡ Err (refused.Limit which count)
LoadsAs due (Err (refused.BadTable file why)) = due ≡ Err (refused.BadTable file why)
LoadsAs due (Err refused.NoMemory) = Unit {0}

-- `TreeFault` comes only where the count of the tree rose, and tells the count
abbrev pub FaultCause : ℕ → ℕ → LoadRefused → Type 0
FaultCause before now (refused.TreeFault count) = (count ≡ now) × Rose before now
FaultCause before now (refused.Limit which count) = Unit {0}
FaultCause before now (refused.BadTable file why) = Unit {0}
FaultCause before now refused.NoMemory = Unit {0}

-- a call never lowers the count of the tree, and tells its fault for its cause
pub record LoadCause {A : Type 0} (before now : ℕ) (result : Result A LoadRefused) : Type 0 where
  pub later : before ≤ now
  pub fault : IfErr result (FaultCause before now)

-- the refusal of a load for one of the tree, whose count is this
abbrev pub refusal_of : ℕ → TreeRefused → LoadRefused
refusal_of count tree_refused.Failed = refused.TreeFault count
refusal_of count tree_refused.NoMemory = refused.NoMemory

-- a table is refused for this fault, unless that is want of memory
abbrev pub IsBadTable : Bytes → TableFault → LoadRefused → Type 0
IsBadTable name why (refused.BadTable file told) = (file ≡ name) × (told ≡ why) × (why ≢ fault.NoMemory)
IsBadTable name why refused.NoMemory = Unit {0}
IsBadTable name why (refused.TreeFault count) = ⊥
IsBadTable name why (refused.Limit which count) = ⊥

-- the load of a tree is that of the files that were read, or it is refused
abbrev pub Gathers : TreeTold → Bytes → Result ReadFiles LoadRefused → Type 0
Gathers tree root (Ok read) = load_of tree root ≡ load_joined tree root (joined (map found_with read.files.items))
Gathers tree root (Err (refused.TreeFault count)) = Unit {0}
Gathers tree root (Err (refused.Limit which count)) = load_of tree root ≡ Err (refused.Limit which count)
Gathers tree root (Err (refused.BadTable file why)) = load_of tree root ≡ Err (refused.BadTable file why)
Gathers tree root (Err refused.NoMemory) = Unit {0}
