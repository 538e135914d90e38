-- A run that was stopped because its journal was full.
use Rattle.std.specs.Prelude.{◌≡◌, ℕ, List, ◌∷◌, ◌++◌, length, true}
use Rattle.authority_model.specs.declared.journal.Item.{Item}
use Rattle.authority_model.specs.Entering.{counted_bytes, greatest_limits, is_full}
use Rattle.authority_core.specs.declared.halt.Halt.{Halt}
use Rattle.authority_core.specs.declared.halt.Halt.TheVariants.{Full, NoMemory}

-- The run has these items, and at least one more after them.
pub record GoesOn (run past : List Item) : Type 0 where
  pub item : Item
  pub more : List Item
  pub whole : run ≡ more ++ item ∷ past

-- A journal of the greatest limits was full after items of the run, and a further item was due.
pub record IsFullIn (run : List Item) (entries bytes : ℕ) : Type 0 where
  pub past : List Item
  pub due : GoesOn run past
  pub full : is_full greatest_limits past ≡ true
  pub entries_are : entries ≡ length past
  pub bytes_are : bytes ≡ counted_bytes past

-- the run was stopped; want of memory is free
abbrev pub StopsIn : List Item → Halt → Type 0
StopsIn run (Full full) = IsFullIn run full.entries full.bytes
StopsIn run NoMemory = Unit {0}
