-- How a first load leads to the run, or ends it.
use Rattle.std.proofs.Common.{◌≡◌, ℕ, List, Option, refl, sym, subst, inl, inr}
use Rattle.pk_outside.specs.Trees.{TreeTold}
use Rattle.authority_model.specs.declared.load.Loaded.{Loaded}
use Rattle.policy_load.specs.declared.refused.LoadRefused.{LoadRefused}
use Rattle.policy_load.specs.declared.refused.LoadRefused.TheVariants as refused
use Rattle.replay_run.specs.declared.ends.ReplayEnd.{ReplayEnd}
use Rattle.replay_run.specs.declared.ends.ReplayEnd.TheVariants as end
use Rattle.replay_run.specs.Rooted.{IsFirstStop, IsUntouched, RunsFrom, RunsFirst, refused_end}

untouched : (left held : Option (List ℕ)) → IsUntouched left left held held
untouched left held = record { unread = refl; unwritten = refl }

-- a first load that is refused ends the run, with nothing read and nothing written
stops : (told : Option TreeTold) (root : Option (List ℕ)) (before now : ℕ) (left held : Option (List ℕ)) (Runs : Loaded → ReplayEnd → Type 0) (why : LoadRefused)
    → IsFirstStop told root before now why → RunsFrom told root before now (IsUntouched left left held held) Runs (refused_end why)
stops told root before now left held Runs (refused.TreeFault count) stop = (untouched left held, stop.0, stop.1, stop.2)
stops told root before now left held Runs refused.NoMemory stop = inl (untouched left held)
stops told root before now left held Runs (refused.Limit which count) stop = (untouched left held, stop)
stops told root before now left held Runs (refused.BadTable file fault) stop = (untouched left held, stop)

pub refused_first : (told : Option TreeTold) (root : Option (List ℕ)) (before now : ℕ) (left held : Option (List ℕ)) (Runs : Loaded → ReplayEnd → Type 0) (why : LoadRefused) (st : ReplayEnd)
    → st ≡ refused_end why → IsFirstStop told root before now why → RunsFrom told root before now (IsUntouched left left held held) Runs st
refused_first told root before now left held Runs why st is stop =
    subst (λ (s : ReplayEnd). RunsFrom told root before now (IsUntouched left left held held) Runs s) (sym is) (stops told root before now left held Runs why stop)

-- the relation has no run that ends by its first load
pub record GoesOn (Runs : Loaded → ReplayEnd → Type 0) : Type 0 where
  pub no_fault : (first : Loaded) (count : ℕ) → Runs first (end.TreeFault count) → ⊥
  pub no_refusal : (first : Loaded) (why : LoadRefused) → Runs first (end.LoadRefused why) → ⊥

-- a run that began is one from the root
pub began_first : (told : Option TreeTold) (root : Option (List ℕ)) (before now : ℕ) (Untouched : Type 0) (Runs : Loaded → ReplayEnd → Type 0) (st : ReplayEnd)
    → GoesOn Runs → RunsFirst told root Runs st → RunsFrom told root before now Untouched Runs st
began_first told root before now Untouched Runs end.Done goes run = run
began_first told root before now Untouched Runs (end.TreeFault count) goes run = absurd (goes.no_fault run.first count run.run)
began_first told root before now Untouched Runs (end.LoadRefused why) goes run = absurd (goes.no_refusal run.first why run.run)
began_first told root before now Untouched Runs end.SegmentFault goes run = run
began_first told root before now Untouched Runs end.ReadFault goes run = run
began_first told root before now Untouched Runs end.WriteFault goes run = run
began_first told root before now Untouched Runs (end.Full full) goes run = run
began_first told root before now Untouched Runs (end.BadLine line why) goes run = run
began_first told root before now Untouched Runs end.NoMemory goes run = inr run
