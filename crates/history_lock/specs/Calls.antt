-- What a call of the lock says of its passes. A pass stands for v before the call and for w after it.
use Rattle.std.specs.Prelude.{◌≡◌, ℕ, ◌+◌, ◌≤◌, List, [], ◌∷◌, ◌++◌, Option, Some, None}
use Rattle.history_lock.specs.Known.{Known}
use Rattle.history_lock.specs.Entries.{entries_by, NoneBy, GrownByOthers, Grown}
use Rattle.history_lock.specs.Causes.{KnowsEnd}
use Rattle.history_lock.specs.declared.view.View.{View}
use Rattle.history_lock.specs.declared.view.Kind.TheVariants.{Book}
use Rattle.history_lock.specs.declared.machine.EndCause.{EndCause}
use Rattle.history_lock.specs.declared.refused.AdmitRefused.{AdmitRefused}
use Rattle.history_lock.specs.declared.refused.AdmitRefused.TheVariants.{Full}
use Rattle.history_lock.specs.declared.refused.CallRefused.{CallRefused}
use Rattle.history_lock.specs.declared.refused.CallRefused.TheVariants.{Ended, Machine}
use Rattle.history_lock.specs.declared.machine.TheConstants.{MOST_PASSES}

module _ {I : Type 0} (caller_of : I → ℕ) (Legal : List I → Type 0) where
  -- The pass has learned of entries and of passes, and has no entry more of its own.
  pub record Learned (v w : Known I) : Type 0 where
    -- it is the same caller's
    pub number : w.number ≡ v.number
    -- it knows of no fewer passes
    pub made : v.made ≤ w.made
    -- others' entries came
    pub others : GrownByOthers caller_of v.number v.history w.history
    -- its own are those that it had
    pub own : entries_by caller_of v.number w.history ≡ entries_by caller_of v.number v.history
    -- the history is legal
    pub legal : Legal w.history
    -- a kept cause that it knew it knows still, and no entry came
    pub ended : KnowsEnd v.ended v.history w.ended w.history

  -- The pass has learned of entries and of passes, and then of the entry e, its own.
  pub record LearnedOwn (v : Known I) (e : I) (w : Known I) : Type 0 where
    -- it is the same caller's
    pub number : w.number ≡ v.number
    -- it knows of no fewer passes
    pub made : v.made ≤ w.made
    -- others' entries came, and then e
    pub grown : Grown caller_of v.history w.history v.number e
    -- its own are those that it had, and e
    pub own : entries_by caller_of v.number w.history ≡ entries_by caller_of v.number v.history ++ e ∷ []
    -- the history is legal
    pub legal : Legal w.history
    -- it knew of no kept cause
    pub knew_none : v.ended ≡ None
    -- and none was kept when e came
    pub none_kept : w.ended ≡ None

  -- A new pass, which stands for p, was made at the old one.
  pub record Admitted (v p w : Known I) : Type 0 where
    -- no pass that the old one knew has the number
    pub number : v.made ≤ p.number
    -- it is the last that the new one knows
    pub made : p.made ≡ p.number + 1
    -- no entry is by it
    pub none : NoneBy caller_of p.number p.history
    -- so it has no entries of its own
    pub no_entries : entries_by caller_of p.number p.history ≡ []
    -- the history is legal
    pub legal : Legal p.history
    -- the old pass knows the same history afterwards
    pub same_history : w.history ≡ p.history
    -- and the same count
    pub same_made : w.made ≡ p.made
    -- and the same kept cause, if there is one
    pub same_ended : w.ended ≡ p.ended
    -- and has learned it from others
    pub learned : Learned v w

  -- No pass was made, since none was left, and the old pass knows it.
  abbrev pub NoneAdmitted : Known I → AdmitRefused → Known I → Type 0
  NoneAdmitted v (Full admitted) w = (admitted ≡ MOST_PASSES) × (w.made ≡ MOST_PASSES) × Learned v w

module _ {I O R : Type 0} (caller_of : I → ℕ) (Legal : List I → Type 0) (is_ready : ℕ → O → List I → Type 0) (gives : ℕ → O → List I → I → R → Type 0) where
  -- The machine was called: the operation was ready after the entries before the new one, and the entry and the reply are the machine's after them.
  pub record Answered (v : Known I) (op : O) (reply : R) (w : Known I) : Type 0 where
    -- the entry that the call made
    pub entry : I
    -- others' entries came, and then this one
    pub learned : LearnedOwn caller_of Legal v entry w
    -- the operation was ready then
    pub ready : is_ready v.number op learned.grown.before
    -- the machine gives this entry and this reply for it
    pub given : gives v.number op learned.grown.before entry reply

module _ {I O F : Type 0} (caller_of : I → ℕ) (Legal : List I → Type 0) (refuses : ℕ → O → List I → F → Type 0) (fits : EndCause → List I → ℕ → Type 0) where
  -- The call was refused and the operation is handed back: the lock has ended, by a cause that fits what the pass now knows and that it now knows to be kept, or the machine refuses the operation after the history that the pass now knows, and no cause is kept.
  abbrev pub Refused : Known I → O → CallRefused O F → Known I → Type 0
  Refused v op (Ended cause back) w = (back ≡ op) × fits cause w.history w.made × Learned caller_of Legal v w × (w.ended ≡ Some cause)
  Refused v op (Machine refusal back) w = (back ≡ op) × refuses v.number op w.history refusal × Learned caller_of Legal v w × (w.ended ≡ None)

-- The refusal is by the kept cause where the lock has ended, and by the machine where it has not.
abbrev pub IsEndedBy : {O F : Type 0} → CallRefused O F → Option EndCause → Type 0
IsEndedBy (Ended cause back) kept = kept ≡ Some cause
IsEndedBy (Machine refusal back) kept = kept ≡ None

-- The book's view in the locked value: it has the machine's entries, the count of passes and the kept cause, and nobody is in flight.
pub record IsBook {I : Type 0} (v : View I) (entries : List I) (passes : ℕ) (kept : Option EndCause) : Type 0 where
  -- it is the book's
  pub kind : v.kind ≡ Book
  -- nobody is in flight
  pub idle : v.in_flight ≡ None
  -- its history is the machine's entries
  pub history : v.history ≡ entries
  -- it counts all passes
  pub made : v.made ≡ passes
  -- it knows the kept cause
  pub ended : v.ended ≡ kept

-- The kept cause, if there is one, fits the entries and the count of passes.
abbrev pub CauseFits : {I : Type 0} → (EndCause → List I → ℕ → Type 0) → Option EndCause → List I → ℕ → Type 0
CauseFits fits None entries made = Unit {0}
CauseFits fits (Some cause) entries made = fits cause entries made
