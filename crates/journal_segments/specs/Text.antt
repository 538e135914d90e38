-- The text of a segment.
use Rattle.std.specs.Prelude.{ℕ, List, [], ◌∷◌, ◌++◌, ◌+◌, codes, length}
use Rattle.authority_model.specs.declared.journal.Item.{Item}
use Rattle.audit_words.specs.Codecs.{Numeral}
use Rattle.audit_words.specs.Lines.{written}
use Rattle.audit_text.specs.Pieces.{item_text}
use Rattle.authority_desk.specs.declared.counts.DeskCounts.{DeskCounts}
use Rattle.authority_desk.specs.Counts.{counts_of}

-- the first line: the segment's number, the place of its first entry, and how many it has
abbrev pub head_line : ℕ → ℕ → ℕ → List ℕ
head_line number first count = (codes "segment" ++ written (Numeral number ∷ Numeral first ∷ Numeral count ∷ [])) ++ 10 ∷ []

-- the lines of items, the oldest first
abbrev pub items_text : List Item → List ℕ
items_text [] = []
items_text (i ∷ items) = item_text i ++ items_text items

-- the last line: how many of each kind there are
abbrev pub close_line : DeskCounts → List ℕ
close_line c = (codes "close" ++ written (Numeral c.live ∷ Numeral c.agents ∷ Numeral c.pending ∷ Numeral c.grants ∷ [])) ++ 10 ∷ []

-- a segment of these items, the oldest first, where so many entries stand before it and so much is there after it
abbrev pub segment_with : ℕ → ℕ → List Item → DeskCounts → List ℕ
segment_with number first items counts = head_line number first (length items) ++ items_text items ++ close_line counts

-- the history with further items, the oldest of them first
abbrev pub onto : List Item → List Item → List Item
onto done [] = done
onto done (i ∷ items) = onto (i ∷ done) items

-- the text of the segment with this number, whose items come after this history
abbrev pub segment_text : ℕ → List Item → List Item → List ℕ
segment_text number done items = segment_with number (length done) items (counts_of (onto done items))

-- the text of segments one after the other, where so many were written of this history before
abbrev pub segments_text : ℕ → List Item → List (List Item) → List ℕ
segments_text written_before done [] = []
segments_text written_before done (items ∷ rest) = segment_text (written_before + 1) done items ++ segments_text (written_before + 1) (onto done items) rest

-- the history with the items of segments
abbrev pub onto_all : List Item → List (List Item) → List Item
onto_all done [] = done
onto_all done (items ∷ rest) = onto_all (onto done items) rest
