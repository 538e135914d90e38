-- What a call of the loader leaves.
use Rattle.std.specs.Prelude.{◌≡◌, ◌≢◌, ℕ, ◌≤◌, true, List, [], Option, None, Result, Ok, Err, IfSome, length}
use mathlib.Core.List.{IsPrefix}
use Rattle.pk_outside.specs.Trees.{TreeTold}
use Rattle.history_lock.specs.Known.{Known}
use Rattle.history_lock.specs.Calls.{Learned}
use Rattle.history_lock.specs.declared.machine.EndCause.{EndCause}
use Rattle.authority_model.specs.declared.journal.Item.{Item}
use Rattle.authority_model.specs.declared.journal.Limits.{Limits}
use Rattle.authority_model.specs.declared.load.Loaded.{Loaded}
use Rattle.authority_model.specs.declared.message.Output.{Output}
use Rattle.authority_model.specs.Peers.{uid_of}
use Rattle.authority_model.specs.Sent.{batch}
use Rattle.authority_model.specs.Words.{Bytes}
use Rattle.authority_laws.specs.Batches.{collect_given}
use Rattle.policy_load.specs.declared.refused.LoadRefused.{LoadRefused}
use Rattle.policy_load.specs.Causes.{LoadCause, LoadsAs}
use Rattle.policy_load.specs.Loads.{load_of}
use Rattle.shared_authority.specs.Journals.{Fits, IsJournal, caller_of, past_of}
use Rattle.shared_authority.specs.Passes.{Entered}
use Rattle.serve_loader.specs.declared.ends.LoaderEnd.{LoaderEnd}
use Rattle.serve_loader.specs.declared.ends.LoaderEnd.TheVariants.{Stopped, Ended}
use Rattle.serve_loader.specs.Turns.{Loading, Standing}

-- This is what a load of the root gave, while the tree counted from so many faults up to so many: the load of the definition, where the tree tells its files, and its fault only where the count rose.
pub record IsLoad (told : Option TreeTold) (root : Bytes) (from until : ℕ) (gave : Result Loaded LoadRefused) : Type 0 where
  pub due : IfSome told (λ tree. LoadsAs (load_of tree root) gave)
  pub before : ℕ
  pub now : ℕ
  pub begins : from ≤ before
  pub cause : LoadCause before now gave
  pub ends : now ≤ until

-- A pass of the loader stood for v and stands for w: by then the loader stands so, and connection 0 has not connected.
pub record LoadsTo (P : Result Loaded LoadRefused → Type 0) (v w : Known Item) (s : Standing) : Type 0 where
  pub number : w.number ≡ v.number
  pub begins : IsPrefix v.history w.history
  pub unconnected : uid_of (past_of w.history) 0 ≡ None
  pub loading : Loading P (length v.history) (past_of w.history) s

-- the loader ends: with nothing left to do once it was told to stop, or by a cause that fits what its pass knows
abbrev pub IsEnd : Limits → Known Item → Standing → LoaderEnd → Type 0
IsEnd limits w s Stopped = (s.owed ≡ 0) × (s.stop ≡ true)
IsEnd limits w s (Ended cause) = Fits limits cause w.history w.made

-- The loader came so far, and ends.
pub record LoadsEnd (limits : Limits) (P : Result Loaded LoadRefused → Type 0) (v w : Known Item) (end : LoaderEnd) : Type 0 where
  pub standing : Standing
  pub loads : LoadsTo P v w standing
  pub ends : IsEnd limits w standing end

-- What a call of the loader leaves, over a tree that may tell its files and counted so many faults before and after.
abbrev pub Loads : Limits → Option TreeTold → Bytes → ℕ → ℕ → Known Item → Known Item → LoaderEnd → Type 0
Loads limits told root before now v w end = LoadsEnd limits (IsLoad told root before now) v w end

-- Nothing was entered, and the lock was ended by a cause that fits.
pub record HasEnded (limits : Limits) (v : Known Item) (cause : EndCause) (w : Known Item) : Type 0 where
  pub refused : Known Item
  pub first : Learned caller_of IsJournal v refused
  pub last : Learned caller_of IsJournal refused w
  pub fits : Fits limits cause w.history w.made

-- Some outputs to connection 0 were taken.
pub record Takes (v : Known Item) (outputs : List Output) (w : Known Item) : Type 0 where
  pub entered : Entered v (collect_given 0 0) w
  pub batch_is : outputs ≡ batch (past_of entered.learned.grown.before) 0 0
  pub some : outputs ≢ []

-- the loader goes on to stand so, or the lock was ended
abbrev pub GoesOn : Limits → (Result Loaded LoadRefused → Type 0) → Known Item → Standing → Known Item → Result (Unit {0}) EndCause → Type 0
GoesOn limits P v s w (Ok done) = LoadsTo P v w s
GoesOn limits P v s w (Err cause) = LoadsEnd limits P v w (Ended cause)
