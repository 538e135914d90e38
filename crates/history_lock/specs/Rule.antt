-- The rule of the table, as the code keeps it: what holds of each view, and of each caller's view together with any view.
-- Entries are spoken of by their places, so that no step needs a fact on filtered lists. PlainRule has the same facts by lists.
use Rattle.std.specs.Prelude.{◌≡◌, ℕ, ◌<◌, ◌≤◌, ◌⊎◌, List, [], ◌∷◌, length, None}
use mathlib.Core.List.{IsPrefix}
use mathlib.Core.Option.{some}
use lib.ListN.{get_elem?}
use Rattle.atomic_table.specs.Table.{State}
use Rattle.history_lock.specs.declared.view.Kind.TheVariants.{Book, Caller, Note, Receipt}
use Rattle.history_lock.specs.declared.view.View.{View}
use Rattle.history_lock.specs.Entries.{CallersBelow, OwnBelowOrLast}
use Rattle.history_lock.specs.Causes.{KnowsEnd}
use Rattle.history_lock.specs.declared.machine.TheConstants.{MOST_PASSES}

-- the book's view as the table opens: no entry, no pass made, no cause kept, nobody in flight
abbrev pub opened : {I : Type 0} → View I
opened = record {
  kind = Book;
  number = 0;
  history = [];
  made = 0;
  ended = None;
  in_flight = None;
  old_history = [];
  old_made = 0;
  old_ended = None;
  note_history = [];
  note_name = None;
  note_ended = None;
}

module _ {I : Type 0} (caller_of : I → ℕ) (Legal : List I → Type 0) where
  -- What holds of the view u at the seat j, where the book's view is v, at the seat b.
  pub record FitsBook (b : ℕ) (v : View I) (j : ℕ) (u : View I) : Type 0 where
    -- there is no book but the one at b
    pub one_book : u.kind ≡ Book → j ≡ b
    -- its history is legal
    pub legal : Legal u.history
    -- and begins the book's
    pub begins : IsPrefix u.history v.history
    -- what it had begins its history, and so the book's
    pub old_begins : IsPrefix u.old_history u.history
    -- what it was told does too
    pub note_begins : IsPrefix u.note_history u.history
    -- it knows of no more passes than the book
    pub counted : u.made ≤ v.made
    -- and knew of no more than it knows
    pub old_counted : u.old_made ≤ u.made
    -- a kept cause that it knows is the book's, and its history is whole then
    pub ended : KnowsEnd u.ended u.history v.ended v.history
    -- one that it knew is the one that it knows, and no entry came
    pub old_ended : KnowsEnd u.old_ended u.old_history u.ended u.history
    -- and so is one that it was told
    pub note_ended : KnowsEnd u.note_ended u.note_history u.ended u.history
    -- a caller knows that its own pass was made, and names nobody
    pub numbered : u.kind ≡ Caller → (u.number < u.made) × (u.in_flight ≡ None)
    -- only the book and notes name somebody
    pub names : (u.in_flight ≡ None) ⊎ ((u.kind ≡ Book) ⊎ (u.kind ≡ Note))
    -- a caller had each entry of its own, but one that came with a note: that is the note's last, and the note names the caller
    pub own : u.kind ≡ Caller → OwnBelowOrLast caller_of u.number u.history (length u.old_history) u.note_name (length u.note_history)

  -- What holds of a caller's view x at the seat i and any view y at the seat j, which may be x itself.
  pub record Reaches (i : ℕ) (x : View I) (j : ℕ) (y : View I) : Type 0 where
    -- no other caller has its number
    pub apart : y.kind ≡ Caller → y.number ≡ x.number → i ≡ j
    -- a receipt of it shows no more than it knows
    pub receipt : y.kind ≡ Receipt → y.number ≡ x.number → length y.history ≤ length x.history
    -- it knows each entry of its own, but one that is in flight: that is the last of the history, and the view names it
    pub seen : OwnBelowOrLast caller_of x.number y.history (length x.history) y.in_flight (length y.history)

  -- The rule, where the book's view is v, at the seat b.
  pub record RuleAt (words : List ℕ) (views : List (View I)) (b : ℕ) (v : View I) : Type 0 where
    -- v is the view of the seat b
    pub there : get_elem? views b ≡ some v
    -- and is the book's
    pub is_book : v.kind ≡ Book
    -- the one word of the table counts the entries
    pub word : words ≡ length v.history ∷ []
    -- no more than 1,048,576 passes are made
    pub top : v.made ≤ MOST_PASSES
    -- the passes of all callers of entries were made
    pub callers : CallersBelow caller_of v.history v.made
    -- each view fits the book's
    pub each : (j : ℕ) (u : View I) → get_elem? views j ≡ some u → FitsBook b v j u
    -- each caller's view reaches its own entries in each view
    pub pairs : (i : ℕ) (x : View I) → get_elem? views i ≡ some x → x.kind ≡ Caller → (j : ℕ) (y : View I) → get_elem? views j ≡ some y → Reaches i x j y

  -- The rule holds of the table's words and of the views of its seats.
  abbrev pub MeetsRule : List ℕ → List (View I) → Type 0
  MeetsRule words views = (b : ℕ) × (v : View I) × RuleAt words views b v

  -- The rule as a fact about a table.
  abbrev pub holds_rule : {S : Type 0} → State S (View I) → Type 0
  holds_rule state = MeetsRule state.words state.views

  -- What a seat learns of its own view when it reads the word.
  pub record IsTold (v : View I) : Type 0 where
    -- its history is legal
    pub legal : Legal v.history
    -- what it had begins its history
    pub old_begins : IsPrefix v.old_history v.history
    -- and so does what it was told
    pub note_begins : IsPrefix v.note_history v.history
    -- it knew of no more passes than it knows
    pub old_counted : v.old_made ≤ v.made
    -- a kept cause that it knew is the one that it knows, and no entry came
    pub old_ended : KnowsEnd v.old_ended v.old_history v.ended v.history
    -- and so is one that it was told
    pub note_ended : KnowsEnd v.note_ended v.note_history v.ended v.history
    -- no more than 1,048,576 passes are made
    pub top : v.made ≤ MOST_PASSES
    -- of the book: the passes of all callers of entries were made
    pub callers : v.kind ≡ Book → CallersBelow caller_of v.history v.made
    -- of a caller: its own pass was made, and it names nobody
    pub numbered : v.kind ≡ Caller → (v.number < v.made) × (v.in_flight ≡ None)
    -- of a caller: which entries are its own
    pub own : v.kind ≡ Caller → OwnBelowOrLast caller_of v.number v.history (length v.old_history) v.note_name (length v.note_history)
