-- The rule in plain sentences. The rule that the code keeps is stronger, since these sentences alone are not kept by each step: see docs/lock.md.
use Rattle.std.specs.Prelude.{◌≡◌, ◌≢◌, ℕ, suc, ◌<◌, ◌≤◌, ◌⊎◌, List, [], ◌∷◌, ◌++◌, length, Some, slice_get}
use mathlib.Core.List.{IsPrefix}
use mathlib.Core.Option.{some}
use lib.ListN.{get_elem?}
use Rattle.history_lock.specs.declared.view.Kind.TheVariants.{Book, Caller, Note, Receipt, Spent}
use Rattle.history_lock.specs.declared.view.View.{View}
use Rattle.history_lock.specs.Entries.{entries_by, CallersBelow}
use Rattle.history_lock.specs.Causes.{KnowsEnd}

module _ {I : Type 0} (caller_of : I → ℕ) where
  -- The entries of the caller in a history are those that it had before, or those and then the last of the note that names it
  pub data OwnEntries (x : View I) : Type 0 where
    -- nothing of its own came with the note
    had : entries_by caller_of x.number x.history ≡ entries_by caller_of x.number x.old_history → OwnEntries x
    -- the note names the caller, and its last entry is the caller's
    told : (e : I) (others : List I) → x.note_name ≡ Some x.number → x.note_history ≡ others ++ e ∷ [] → entries_by caller_of x.number x.history ≡ entries_by caller_of x.number x.old_history ++ e ∷ [] → OwnEntries x

module _ {I : Type 0} (caller_of : I → ℕ) (Legal : List I → Type 0) where
  -- The sentences, where the book's view is v, at the seat b. No sentence speaks of a view that is spent.
  pub record PlainAt (words : List ℕ) (views : List (View I)) (b : ℕ) (v : View I) : Type 0 where
    -- One view is the book's.
    pub there : get_elem? views b ≡ some v
    pub is_book : v.kind ≡ Book
    pub one_book : (j : ℕ) (u : View I) → get_elem? views j ≡ some u → u.kind ≡ Book → j ≡ b
    -- The word is the length of its history.
    pub word : slice_get words 0 ≡ Some (length v.history)
    -- The history in every view is legal.
    pub legal : (j : ℕ) (u : View I) → get_elem? views j ≡ some u → u.kind ≢ Spent → Legal u.history
    -- Every history in a view, what it had and what it was told are beginnings of the book's, and every count is at most the book's.
    pub history : (j : ℕ) (u : View I) → get_elem? views j ≡ some u → u.kind ≢ Spent → IsPrefix u.history v.history
    pub old_history : (j : ℕ) (u : View I) → get_elem? views j ≡ some u → u.kind ≢ Spent → IsPrefix u.old_history v.history
    pub note_history : (j : ℕ) (u : View I) → get_elem? views j ≡ some u → u.kind ≢ Spent → IsPrefix u.note_history v.history
    pub made : (j : ℕ) (u : View I) → get_elem? views j ≡ some u → u.kind ≢ Spent → (u.made ≤ v.made) × (u.old_made ≤ v.made)
    -- A kept cause in a view, what it knew before and what it was told is the book's, and the history beside it is the book's whole history.
    pub ended : (j : ℕ) (u : View I) → get_elem? views j ≡ some u → u.kind ≢ Spent → KnowsEnd u.ended u.history v.ended v.history
    pub old_ended : (j : ℕ) (u : View I) → get_elem? views j ≡ some u → u.kind ≢ Spent → KnowsEnd u.old_ended u.old_history v.ended v.history
    pub note_ended : (j : ℕ) (u : View I) → get_elem? views j ≡ some u → u.kind ≢ Spent → KnowsEnd u.note_ended u.note_history v.ended v.history
    -- The numbers of callers' views differ and are below the book's count, and so are the callers of all entries.
    pub numbers_differ : (i : ℕ) (x : View I) (j : ℕ) (y : View I) → get_elem? views i ≡ some x → get_elem? views j ≡ some y → x.kind ≡ Caller → y.kind ≡ Caller → i ≢ j → x.number ≢ y.number
    pub numbers_below : (j : ℕ) (u : View I) → get_elem? views j ≡ some u → u.kind ≡ Caller → u.number < v.made
    pub callers_below : (j : ℕ) (u : View I) → get_elem? views j ≡ some u → u.kind ≢ Spent → CallersBelow caller_of u.history v.made
    -- Each entry of a caller in another view stands below the length of the caller's own history. The one exception is the last entry of a history whose view is the book's or a note's, and names the caller.
    pub seen : (i : ℕ) (x : View I) (j : ℕ) (y : View I) → get_elem? views i ≡ some x → get_elem? views j ≡ some y → x.kind ≡ Caller → y.kind ≢ Spent → i ≢ j → (k : ℕ) (e : I) → get_elem? y.history k ≡ some e → caller_of e ≡ x.number
        → (k < length x.history) ⊎ (((y.kind ≡ Book) ⊎ (y.kind ≡ Note)) × (y.in_flight ≡ Some x.number) × (suc k ≡ length y.history))
    -- The entries of a caller in its history are those that it had, and perhaps the last of the note that names it.
    pub own : (i : ℕ) (x : View I) → get_elem? views i ≡ some x → x.kind ≡ Caller → OwnEntries caller_of x
    -- The caller's view of a receipt's number, if there is one, has a history at least as long as the receipt's.
    pub receipt : (i : ℕ) (x : View I) (j : ℕ) (y : View I) → get_elem? views i ≡ some x → get_elem? views j ≡ some y → x.kind ≡ Caller → y.kind ≡ Receipt → y.number ≡ x.number → length y.history ≤ length x.history

  -- The sentences hold of the table's words and of the views of its seats.
  abbrev pub MeetsPlainRule : List ℕ → List (View I) → Type 0
  MeetsPlainRule words views = (b : ℕ) × (v : View I) × PlainAt words views b v
