-- When a segment is full.
use Rattle.std.specs.Prelude.{ℕ, Bool, ◌||◌, nat_le, List, length}
use Rattle.authority_model.specs.declared.journal.Item.{Item}
use Rattle.authority_model.specs.Entering.{counted_bytes}
use Rattle.journal_segments.specs.declared.segment.TheConstants.{MAX_SEGMENT_BYTES}

-- whether a segment of these items is full: it has as many entries, or as many counted bytes
abbrev pub is_due : ℕ → List Item → Bool
is_due per items = nat_le per (length items) || nat_le MAX_SEGMENT_BYTES (counted_bytes items)
