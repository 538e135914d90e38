-- What a scenario is run over, and why it refuses.
use Rattle.std.specs.Prelude.{◌≡◌, ℕ, ⊤, Bool, true, false, List, [], ◌∷◌, Option, Some}
use Rattle.authority_model.specs.Items.{items_of}
use Rattle.scenario_run.specs.declared.journal.Kept.{Kept}
use Rattle.scenario_run.specs.declared.journal.Kept.TheVariants as kept
use Rattle.authority_model.specs.declared.journal.Item.{Item}
use Rattle.scenario_run.specs.declared.journal.Refused.{Refused}
use Rattle.scenario_run.specs.declared.journal.Refused.TheVariants as refused
use Rattle.scenario_run.specs.Room.{IsInSegments, Keeping, full_at, in_segments, whole}

-- How a journal is kept, and its items, the newest first.
pub record Journaled : Type 0 where
  pub keeping : Keeping
  pub past : List Item

-- what is seen of a journal of either kind, whose file tells this path
abbrev pub seen_as : {F : Type 0} → (F → Option (List ℕ)) → Kept F → Journaled
seen_as path (kept.Whole authority) = record { keeping = whole authority.limits; past = items_of authority.history }
seen_as path (kept.InSegments segmented) = record { keeping = in_segments (record { per = segmented.per; file = path segmented.file }); past = segmented.past }

-- it is kept whole
abbrev pub IsWhole : Keeping → Type 0
IsWhole (Keeping.Whole limits) = ⊤
IsWhole (Keeping.InSegments cutting) = ⊥

-- whether the next item is the first
abbrev pub is_first : List Item → Bool
is_first [] = true
is_first (i ∷ past) = false

-- A journal refuses as full where it is, with how full it is, and for its file only where it is in segments; want of memory is free.
abbrev pub IsDue : Keeping → List Item → Refused → Type 0
IsDue keeping past (refused.Full full) = full_at keeping past ≡ Some (record { entries = full.entries; bytes = full.bytes })
IsDue keeping past refused.SegmentFault = IsInSegments keeping
IsDue keeping past refused.NoMemory = Unit {0}
