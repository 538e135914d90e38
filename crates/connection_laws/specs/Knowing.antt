-- How a pass goes on.
use Rattle.std.specs.Prelude.{◌≡◌, ◌≤◌}
use mathlib.Core.List.{IsPrefix}
use Rattle.history_lock.specs.Known.{Known}
use Rattle.authority_model.specs.declared.journal.Item.{Item}
use Rattle.shared_authority.specs.Journals.{IsJournal}

-- A pass that stood for v stands for w, and knows no less.
pub record KnowsMore (v w : Known Item) : Type 0 where
  -- it is the same connection's
  pub number : w.number ≡ v.number
  -- what it knew begins what it knows
  pub begins : IsPrefix v.history w.history
  -- it knows of no fewer passes
  pub made : v.made ≤ w.made
  -- what it knows is a journal
  pub journal : IsJournal w.history
