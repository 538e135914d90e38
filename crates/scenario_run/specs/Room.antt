-- How a journal is kept, until when it takes further items, and where things lead that are handed in one after another.
use Rattle.std.specs.Prelude.{ℕ, ⊤, List, [], ◌∷◌, Option, Some, None, length, if◌then◌else◌}
use Rattle.authority_model.specs.declared.journal.Item.{Item}
use Rattle.authority_model.specs.declared.journal.Limits.{Limits}
use Rattle.authority_model.specs.Entering.{Fullness, Reached, fullness, is_full}
use Rattle.authority_model.specs.Given.{Given, next}
use Rattle.journal_segments.specs.Segments.{is_full_after}

-- Full segments are handed out: each has so many entries, and they are written to the file that was made here, where it tells so.
pub record Cutting : Type 0 where
  pub per : ℕ
  pub file : Option (List ℕ)

-- A journal is kept whole, up to limits, or its full segments are handed out.
pub data Keeping : Type 0 where
  Whole : Limits → Keeping
  InSegments : Cutting → Keeping

-- it is kept whole
abbrev pub whole : Limits → Keeping
whole limits = Keeping.Whole limits

-- its full segments are handed out
abbrev pub in_segments : Cutting → Keeping
in_segments cutting = Keeping.InSegments cutting

-- the same as a fact
abbrev pub IsInSegments : Keeping → Type 0
IsInSegments (Keeping.Whole limits) = ⊥
IsInSegments (Keeping.InSegments cutting) = ⊤

-- how full a journal in segments is: its bytes are not counted
abbrev pub fullness_in_segments : List Item → Fullness
fullness_in_segments past = record { entries = length past; bytes = 0 }

-- How full a journal is where it takes no further item after these: by its limits where it is kept whole, and else by the greatest numbers of entries and outputs.
abbrev pub full_at : Keeping → List Item → Option Fullness
full_at (Keeping.Whole limits) past = if is_full limits past then Some (fullness past) else None
full_at (Keeping.InSegments cutting) past = if is_full_after past then Some (fullness_in_segments past) else None

-- what goes on after these items, unless the journal is full
abbrev pub unless_full : List Item → Option Fullness → Reached → Reached
unless_full past None more = more
unless_full past (Some full) more = record { past = past; full = Some full }

-- where things handed in lead one after another, the first of them first; the first that finds the journal full is the last
abbrev pub all_entered : Keeping → List Item → List Given → Reached
all_entered keeping past [] = record { past = past; full = None }
all_entered keeping past (g ∷ given) = unless_full past (full_at keeping past) (all_entered keeping (next past g ∷ past) given)
