-- What is looked for in a closed journal and its `connection` lines.
use Rattle.std.specs.Prelude.{◌≡◌, ◌<◌, ⊤, List, [], ◌∷◌, length}
use Rattle.authority_model.specs.declared.journal.Item.{Item}
use Rattle.authority_model.specs.Lists.{Each}
use Rattle.journal_scan.specs.declared.lines.ConnectionLine.{ConnectionLine}
use Rattle.journal_scan.specs.declared.counts.Counts.{Counts}
use Rattle.journal_scan.specs.declared.counts.TheConstants.{PLACES}
use Rattle.journal_scan.specs.Callers.{Belongs}
use Rattle.journal_scan.specs.Collecting.{IsOnlyEmpty}
use Rattle.journal_scan.specs.Counts.{NothingFrom, tally_of, totals_of}
use Rattle.journal_scan.specs.Lines.{NumbersDiffer}
use Rattle.journal_scan.specs.Loading.{IsDue}
use Rattle.journal_scan.specs.Tables.{IsTable}

-- the fact holds of each item and the history before it
abbrev pub EachItem : (List Item → Item → Type 0) → List Item → Type 0
EachItem P [] = ⊤
EachItem P (i ∷ past) = P past i × EachItem P past

-- A journal, with the newest first, is orderly for its `connection` lines.
pub record IsOrderly (lines : List ConnectionLine) (past : List Item) : Type 0 where
  -- the numbers of the lines and of their sighters differ
  pub differ : NumbersDiffer lines
  -- each is below the greatest count of passes
  pub few : Each (λ l. l.number < PLACES) lines
  -- each item belongs to a connection with a line, in its turn, to the sighter of one, or to the server
  pub belong : EachItem (Belongs lines) past
  -- each item is due where it stands
  pub due : EachItem (IsDue lines) past
  -- no caller has two Collects with an empty batch
  pub empty : EachItem IsOnlyEmpty past

-- The counts are those of a journal: for each number, and for all.
pub record AreCounts (past : List Item) (counts : Counts) : Type 0 where
  -- each number with a row has what the row tells
  pub tallies : IsTable (length counts.tallies.items) (λ c tally. tally ≡ tally_of past c) counts.tallies.items
  -- each number beyond the rows has no entries of messages and no outputs
  pub others : NothingFrom past (length counts.tallies.items)
  -- what is counted of all entries
  pub totals : counts.totals ≡ totals_of past

-- each line has its row of counts
abbrev pub HaveRows : List ConnectionLine → Counts → Type 0
HaveRows lines counts = Each (λ l. l.number < length counts.tallies.items) lines
