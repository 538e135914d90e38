-- A history cut into segments.
use Rattle.std.specs.Prelude.{ℕ, List, [], ◌∷◌, ◌++◌, if◌then◌else◌}
use Rattle.authority_model.specs.declared.journal.Item.{Item}
use Rattle.journal_segments.specs.Due.{is_due}
use Rattle.journal_segments.specs.Text.{segments_text}

-- The segments that are full and were followed by an item, the oldest first, and the items of the one so far, the oldest first.
pub record Cut : Type 0 where
  pub full : List (List Item)
  pub last : List Item

-- one more item begins the next segment where the one so far is full
abbrev pub cut_more : ℕ → Item → Cut → Cut
cut_more per i c = if is_due per c.last then record { full = c.full ++ c.last ∷ []; last = i ∷ [] } else record { full = c.full; last = c.last ++ i ∷ [] }

-- a history, the newest item first, in segments of so many entries
abbrev pub cut : ℕ → List Item → Cut
cut per [] = record { full = []; last = [] }
cut per (i ∷ past) = cut_more per i (cut per past)

-- a segment, unless it is empty
abbrev pub rest_of : List Item → List (List Item)
rest_of [] = []
rest_of (i ∷ items) = (i ∷ items) ∷ []

-- all segments of a history, the oldest first
abbrev pub segments_of : ℕ → List Item → List (List Item)
segments_of per past = (cut per past).full ++ rest_of (cut per past).last

-- the text of all segments of a history
abbrev pub cut_text : ℕ → List Item → List ℕ
cut_text per past = segments_text 0 [] (segments_of per past)
