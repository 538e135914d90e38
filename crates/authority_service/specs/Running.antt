-- What the slots and the loader of a service leave.
use Rattle.std.specs.Prelude.{◌≡◌, ◌≤◌, ◌∷◌, [], ℕ, List, Option, None, Some, Result, Ok, Err}
use mathlib.Core.List.{IsPrefix}
use Rattle.history_lock.specs.Entries.{GrownByOthers, entries_by}
use Rattle.history_lock.specs.Known.{Known}
use Rattle.history_lock.specs.declared.machine.EndCause.{EndCause}
use Rattle.history_lock.specs.declared.machine.TheConstants.{MOST_PASSES}
use Rattle.authority_model.specs.declared.journal.Item.{Item}
use Rattle.authority_model.specs.declared.journal.Limits.{Limits}
use Rattle.authority_model.specs.Words.{Bytes}
use Rattle.pk_outside.specs.Trees.{TreeTold}
use Rattle.serve_loader.specs.declared.ends.LoaderEnd.{LoaderEnd}
use Rattle.serve_loader.specs.declared.ends.LoaderEnd.TheVariants as loader
use Rattle.serve_loader.specs.Loads.{Loads}
use Rattle.shared_authority.specs.Journals.{caller_of}
use Rattle.service_slots.specs.declared.stop.SlotStop.{SlotStop}
use Rattle.service_slots.specs.declared.stop.SlotStop.TheVariants as stop

-- What the control pass and the loader's knew at the end begins the closed journal, and what came behind the loader's is others'. The loader's pass knew of no more passes than are made at most.
pub record HaveClosed (control zero : Known Item) (journal : List Item) : Type 0 where
  pub control_begins : IsPrefix control.history journal
  pub zero_begins : IsPrefix zero.history journal
  pub rest : GrownByOthers caller_of 0 zero.history journal
  pub top : zero.made ≤ MOST_PASSES

-- Nothing in a journal has the loader's number, which is 0, but the first load and what the loader entered: in what it knew when it began there is one entry of its own, and behind what it knew at its end there is none.
pub record LoadsAlone (before after journal : List Item) : Type 0 where
  pub first : Item
  pub begun : entries_by caller_of 0 before ≡ first ∷ []
  pub rest : GrownByOthers caller_of 0 after journal

-- The loader loaded until it ended so, by what it knew of this journal: it stood for `before` when it began and for `after` when it ended, and the tree counted from so many faults up to so many.
pub record LoadsUntil (end : LoaderEnd) (limits : Limits) (told : Option TreeTold) (root : Bytes) (journal : List Item) : Type 0 where
  pub from : ℕ
  pub until : ℕ
  pub before : Known Item
  pub after : Known Item
  pub begins : IsPrefix after.history journal
  pub loads : Loads limits told root from until before after end
  pub alone : LoadsAlone before.history after.history journal

-- the loader loaded to its end
abbrev pub LoadsAll : Limits → Option TreeTold → Bytes → List Item → Type 0
LoadsAll limits told root journal = LoadsUntil loader.Stopped limits told root journal

-- the loader loaded until it ended, however that was
abbrev pub HasLoaded : Limits → Option TreeTold → Bytes → List Item → Type 0
HasLoaded limits told root journal = (end : LoaderEnd) × LoadsUntil end limits told root journal

-- the cause by which the lock stopped a slot, if it did
abbrev pub ended_slot : Option SlotStop → Option EndCause
ended_slot (Some (stop.Ended cause)) = Some cause
ended_slot _ = None

-- the cause by which the lock ended the loader, if it did
abbrev pub ended_loader : LoaderEnd → Option EndCause
ended_loader loader.Stopped = None
ended_loader (loader.Ended cause) = Some cause

-- the cause by which Stop was refused, if it was
abbrev pub refused_stop : Result (Unit {0}) EndCause → Option EndCause
refused_stop (Ok done) = None
refused_stop (Err cause) = Some cause
