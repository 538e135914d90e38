-- What each kind of step makes of a view. An append makes `appended` of the book's view, a read changes none, and a table opens with `opened`, which stands in Rule.
use Rattle.std.specs.Prelude.{ℕ, suc, List, [], ◌∷◌, ◌++◌, length, None, Some, Option, Bool, ◌&&◌, ◌==◌, if◌then◌else◌, nat_lt, max}
use Rattle.history_lock.specs.declared.view.Kind.TheVariants.{Caller, Note, Receipt, Spent}
use Rattle.history_lock.specs.declared.view.View.{View}
use Rattle.history_lock.specs.Causes.{known_or}
use Rattle.history_lock.specs.declared.machine.EndCause.{EndCause}

-- who is in flight once a receipt of the caller n is settled: nobody, if n was in flight and the receipt shows the whole history
abbrev pub in_flight_after : Option ℕ → ℕ → Bool → Option ℕ
in_flight_after None n whole = None
in_flight_after (Some m) n whole = if (m == n) && whole then None else Some m

module _ {I : Type 0} where
  -- admit: the book counts one pass more
  abbrev pub counted_up : View I → View I
  counted_up v = record v { made = suc v.made }

  -- admit: the new caller has the next number, and knows what the book knows
  abbrev pub newcomer : View I → View I
  newcomer v = record {
    kind = Caller;
    number = v.made;
    history = v.history;
    made = suc v.made;
    ended = v.ended;
    in_flight = None;
    old_history = v.history;
    old_made = 0;
    old_ended = None;
    note_history = [];
    note_name = None;
    note_ended = None;
  }

  -- append: the entry goes behind the book's history, and its caller is in flight
  abbrev pub appended : (I → ℕ) → View I → I → View I
  appended caller_of v e = record v { history = v.history ++ e ∷ []; in_flight = Some (caller_of e) }

  -- end: the book knows the kept cause
  abbrev pub ended_by : View I → EndCause → View I
  ended_by v cause = record v { ended = Some cause }

  -- note: a copy of what the book or a caller knows, which names who is in flight; a caller names nobody
  abbrev pub note_of : View I → View I
  note_of v = record {
    kind = Note;
    number = 0;
    history = v.history;
    made = v.made;
    ended = v.ended;
    in_flight = v.in_flight;
    old_history = [];
    old_made = 0;
    old_ended = None;
    note_history = [];
    note_name = None;
    note_ended = None;
  }

  -- the longer of two histories, and the first where they are as long
  abbrev pub longer_of : List I → List I → List I
  longer_of h g = if nat_lt (length h) (length g) then g else h

  -- take: the caller of v learns what the note u says, and keeps what it had before and what it was told; a kept cause that it knows stays
  abbrev pub taken : View I → View I → View I
  taken v u = record v {
    history = longer_of v.history u.history;
    made = max v.made u.made;
    ended = known_or v.ended u.ended;
    old_history = v.history;
    old_ended = v.ended;
    note_history = u.history;
    note_name = u.in_flight;
    note_ended = u.ended;
  }

  -- receipt: what a caller knows, under its number
  abbrev pub receipt_of : View I → View I
  receipt_of v = record {
    kind = Receipt;
    number = v.number;
    history = v.history;
    made = v.made;
    ended = v.ended;
    in_flight = None;
    old_history = [];
    old_made = 0;
    old_ended = None;
    note_history = [];
    note_name = None;
    note_ended = None;
  }

  -- settle: the book keeps what the receipt u shows beside its own, and nobody is in flight once the caller knows its entry
  abbrev pub settled : View I → View I → View I
  settled v u = record v {
    in_flight = in_flight_after v.in_flight u.number (length u.history == length v.history);
    old_history = u.history;
    old_made = u.made;
    old_ended = u.ended;
  }

  -- a view that another has taken in
  abbrev pub spent : View I
  spent = record {
    kind = Spent;
    number = 0;
    history = [];
    made = 0;
    ended = None;
    in_flight = None;
    old_history = [];
    old_made = 0;
    old_ended = None;
    note_history = [];
    note_name = None;
    note_ended = None;
  }
