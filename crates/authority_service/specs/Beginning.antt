-- The first load of a journal.
use Rattle.std.specs.Prelude.{◌≡◌, List, [], ◌∷◌, None}
use Rattle.history_lock.specs.Entries.{entries_by}
use Rattle.history_lock.specs.Known.{Known}
use Rattle.authority_model.specs.declared.journal.Item.{Item}
use Rattle.authority_model.specs.declared.load.Loaded.{Loaded}
use Rattle.authority_model.specs.Given.{load_given, next}
use Rattle.authority_model.specs.Peers.{uid_of}
use Rattle.shared_authority.specs.Journals.{caller_of, past_of}

-- Where the first item of a journal is by 0, it is that of this load, with the moment 0.
pub record BeginsWith (first : Loaded) (journal : List Item) : Type 0 where
  pub item : (i : Item) (more : List Item) → journal ≡ i ∷ more → i.entry.caller ≡ 0 → i ≡ next [] (load_given 0 0 first)

-- The loader's pass once the first load was entered: its number is 0, connection 0 has not connected, and one entry is its own.
pub record HasBegun (zero : Known Item) : Type 0 where
  pub number : zero.number ≡ 0
  pub unconnected : uid_of (past_of zero.history) 0 ≡ None
  pub first : Item
  pub own : entries_by caller_of 0 zero.history ≡ first ∷ []
