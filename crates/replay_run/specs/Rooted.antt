-- A replay from a root: its first load, and the run that begins with it.
use Rattle.std.specs.Prelude.{◌≡◌, ◌⊎◌, ℕ, Bool, List, Option, None, Some, Ok, Err, IfSome, IsSome}
use Rattle.pk_outside.specs.Causes.{Rose}
use Rattle.pk_outside.specs.Trees.{TreeTold}
use Rattle.authority_model.specs.declared.load.Loaded.{Loaded}
use Rattle.authority_model.specs.Items.{empty_loaded}
use Rattle.policy_load.specs.declared.refused.LoadRefused.{LoadRefused}
use Rattle.policy_load.specs.declared.refused.LoadRefused.TheVariants as refused
use Rattle.policy_load.specs.Loads.{load_of}
use Rattle.scenario_run.specs.Room.{Keeping}
use Rattle.scenario_run.specs.Scene.{start}
use Rattle.scenario_text.specs.Skipped.{skipped_lines}
use Rattle.replay_run.specs.declared.ends.ReplayEnd.{ReplayEnd}
use Rattle.replay_run.specs.declared.ends.ReplayEnd.TheVariants as end
use Rattle.replay_run.specs.Replay.{Replays}

-- this is the first draft: the empty one without a root, and otherwise what the tree gives below the root, where it tells its files
abbrev pub IsFirst : Option TreeTold → Option (List ℕ) → Loaded → Type 0
IsFirst told None first = first ≡ empty_loaded
IsFirst told (Some root) first = IfSome told (λ tree. load_of tree root ≡ Ok first)

-- the first load is refused for this, where the tree tells its files
abbrev pub IsFirstRefused : Option TreeTold → Option (List ℕ) → LoadRefused → Type 0
IsFirstRefused told None refused = ⊥
IsFirstRefused told (Some root) refused = IfSome told (λ tree. load_of tree root ≡ Err refused)

-- how a first load that is refused ends the run
abbrev pub refused_end : LoadRefused → ReplayEnd
refused_end (refused.TreeFault count) = end.TreeFault count
refused_end refused.NoMemory = end.NoMemory
refused_end other = end.LoadRefused other

-- why a first load is refused: the tree counted a fault, or it is due; want of memory is free
abbrev pub IsFirstStop : Option TreeTold → Option (List ℕ) → ℕ → ℕ → LoadRefused → Type 0
IsFirstStop told root before now (refused.TreeFault count) = IsSome root × (count ≡ now) × Rose before now
IsFirstStop told root before now refused.NoMemory = Unit {0}
IsFirstStop told root before now other = IsFirstRefused told root other

-- A run begins with a first draft, and goes on from there as the relation says.
pub record RunsFirst (told : Option TreeTold) (root : Option (List ℕ)) (Runs : Loaded → ReplayEnd → Type 0) (stop : ReplayEnd) : Type 0 where
  pub first : Loaded
  pub is_first : IsFirst told root first
  pub run : Runs first stop

-- nothing was read or written
pub record IsUntouched (left_before left held_before held : Option (List ℕ)) : Type 0 where
  pub unread : left ≡ left_before
  pub unwritten : held ≡ held_before

-- A run from a root, by its end. The faults are those that the tree counted, before and after. Where the first draft is refused it is untouched. Memory may be refused before the first draft is known.
abbrev pub RunsFrom : Option TreeTold → Option (List ℕ) → ℕ → ℕ → Type 0 → (Loaded → ReplayEnd → Type 0) → ReplayEnd → Type 0
RunsFrom told root before now Untouched Runs (end.TreeFault count) = Untouched × IsSome root × (count ≡ now) × Rose before now
RunsFrom told root before now Untouched Runs (end.LoadRefused refused) = Untouched × IsFirstRefused told root refused
RunsFrom told root before now Untouched Runs end.NoMemory = Untouched ⊎ RunsFirst told root Runs end.NoMemory
RunsFrom told root before now Untouched Runs other = RunsFirst told root Runs other

-- A replay from a root, over a journal that is kept so: what the first load skipped is told first, and then the lines of the input are run.
abbrev pub ReplaysFrom : Option TreeTold → Option (List ℕ) → Keeping → ℕ → ℕ → Option (List ℕ) → Option (List ℕ) → Bool → Option (List ℕ) → Option (List ℕ) → ReplayEnd → Type 0
ReplaysFrom told root keeping before now left_before left ended held_before held =
    RunsFrom told root before now (IsUntouched left_before left held_before held)
    (λ first. Replays (skipped_lines first.faults) (start keeping first) left_before left ended held_before held)
