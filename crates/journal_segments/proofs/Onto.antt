-- A history with the items of a segment after it, and what a segment that is written leaves.
use Rattle.std.proofs.Common.{◌≡◌, ◌+◌, ◌++◌, Bool, true, false, List, [], ◌∷◌, refl, ap, sym, ◌∙◌, subst, length, arith}
use Rattle.std.specs.Prelude.{if◌then◌else◌}
use Rattle.authority_model.specs.declared.journal.Item.{Item}
use Rattle.authority_model.specs.Given.{Given, IsProper, next}
use Rattle.authority_model.specs.Legal.{Legal}
use Rattle.authority_laws.proofs.OneHistory.{follows}
use Rattle.authority_desk.specs.Seen.{IsDeskFor}
use Rattle.journal_segments.specs.Segments.{IsSegmentedFor, Segments, after_due, done_after, once_written}
use Rattle.journal_segments.specs.Due.{is_due}
use Rattle.journal_segments.specs.Steps.{IsAdded, IsEntered}
use Rattle.journal_segments.specs.Text.{onto}

-- one more item at the end of a segment is the newest of the history
pub onto_push : (done items : List Item) (i : Item) → onto done (items ++ i ∷ []) ≡ i ∷ onto done items
onto_push done [] i = refl
onto_push done (x ∷ xs) i = onto_push (x ∷ done) xs i

-- there are as many as of both
pub onto_length : (done items : List Item) → length (onto done items) ≡ length done + length items
onto_length done [] = omega arith
onto_length done (x ∷ xs) = let h = onto_length (x ∷ done) xs in omega (arith, h)

-- the desk counts the entries of both
pub entries_are : (done : List Item) (s : Segments) → IsSegmentedFor done s → s.desk.peers.entries ≡ length done + length s.items
entries_are done s is = is.desk_is.peers_are.entries_are ∙ onto_length done s.items

-- an item that what was handed in makes comes after the segment so far
pub added : (g : Given) (done : List Item) (old new : Segments) (item : Item) → IsProper g → IsSegmentedFor done old → new.per ≡ old.per → new.written ≡ old.written
    → new.items ≡ old.items ++ item ∷ [] → item ≡ next (onto done old.items) g → IsDeskFor (next (onto done old.items) g ∷ onto done old.items) new.desk → IsAdded g done old new
added g done old new item proper is per written items made desk = record {
  items = whole;
  written = written;
  per = per;
  is = record { legal = subst Legal (sym history) (follows past is.legal g proper, is.legal); desk_is = subst (λ h. IsDeskFor h new.desk) (sym history) desk };
  history = history;
}
  where
    past : List Item
    past = onto done old.items

    whole : new.items ≡ old.items ++ next (onto done old.items) g ∷ []
    whole = items ∙ ap (λ i. old.items ++ i ∷ []) made

    history : onto done new.items ≡ next (onto done old.items) g ∷ onto done old.items
    history = ap (onto done) whole ∙ onto_push done old.items (next (onto done old.items) g)

-- once the segment that was full is written, the history is the same
pub due_for : (done : List Item) (s : Segments) → IsSegmentedFor done s → IsSegmentedFor (done_after done s) (after_due s)
due_for done s is = go (is_due s.per s.items)
  where
    go : (b : Bool) → IsSegmentedFor (if b then onto done s.items else done) (if b then once_written s else s)
    go true = record { legal = is.legal; desk_is = is.desk_is }
    go false = is

-- and so are its items
pub due_onto : (done : List Item) (s : Segments) → onto (done_after done s) (after_due s).items ≡ onto done s.items
due_onto done s = go (is_due s.per s.items)
  where
    go : (b : Bool) → onto (if b then onto done s.items else done) (if b then once_written s else s).items ≡ onto done s.items
    go true = refl
    go false = refl

-- the desk stays
pub due_desk : (s : Segments) → (after_due s).desk ≡ s.desk
due_desk s = go (is_due s.per s.items)
  where
    go : (b : Bool) → (if b then once_written s else s).desk ≡ s.desk
    go true = refl
    go false = refl

-- so does how many entries a segment has
pub due_per : (s : Segments) → (after_due s).per ≡ s.per
due_per s = go (is_due s.per s.items)
  where
    go : (b : Bool) → (if b then once_written s else s).per ≡ s.per
    go true = refl
    go false = refl

-- an item that comes after what the segment that was due leaves is entered
pub entered : (g : Given) (done : List Item) (old new : Segments) → IsAdded g (done_after done old) (after_due old) new → IsEntered g done old new
entered g done old new a = record {
  items = a.items ∙ ap (λ past. (after_due old).items ++ next past g ∷ []) (due_onto done old);
  written = a.written;
  per = a.per ∙ due_per old;
  is = a.is;
  history = a.history ∙ ap (λ past. next past g ∷ past) (due_onto done old);
}
