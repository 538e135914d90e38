-- The journal as the lock sees it: a list of items, the first of them first. The definitions of a history have the newest first, and `past_of` stands between the two.
use Rattle.std.specs.Prelude.{◌≡◌, ℕ, ◌≤◌, ◌⊎◌, List, length, reverse}
use Rattle.history_lock.specs.declared.machine.EndCause.{EndCause}
use Rattle.history_lock.specs.declared.machine.EndCause.TheVariants.{JournalFull, NoMemory, Admissions}
use Rattle.authority_model.specs.declared.journal.Item.{Item}
use Rattle.authority_model.specs.declared.journal.Limits.{Limits}
use Rattle.authority_model.specs.declared.journal.TheConstants.{MAX_ENTRIES}
use Rattle.authority_model.specs.Entering.{counted_bytes}
use Rattle.authority_model.specs.Legal.{Legal}
use Rattle.history_lock.specs.declared.machine.TheConstants.{MOST_PASSES}

-- the number of the connection whose item it is
abbrev pub caller_of : Item → ℕ
caller_of i = i.entry.caller

-- the history of a list: its items, the newest first
abbrev pub past_of : List Item → List Item
past_of list = reverse list

-- A list is a journal: its history is legal, and it has no more items than the greatest journal.
pub record IsJournal (list : List Item) : Type 0 where
  pub history : Legal (past_of list)
  pub few : length list ≤ MAX_ENTRIES

-- So many entries are the limit, or so many counted bytes are at their limit or above.
abbrev pub ReachesLimit : Limits → ℕ → ℕ → Type 0
ReachesLimit limits entries bytes = (entries ≡ limits.entries) ⊎ (limits.bytes ≤ bytes)

-- The journal is full: it has so many entries and counted bytes, and one of these numbers reaches its limit.
pub record IsFullWith (limits : Limits) (list : List Item) (entries bytes : ℕ) : Type 0 where
  pub entries_are : entries ≡ length list
  pub bytes_are : bytes ≡ counted_bytes (past_of list)
  pub limit : ReachesLimit limits entries bytes

-- The journal was full with these numbers: it has them, or more by now.
pub record WasFullWith (limits : Limits) (list : List Item) (entries bytes : ℕ) : Type 0 where
  pub entries_are : entries ≤ length list
  pub bytes_are : bytes ≤ counted_bytes (past_of list)
  pub limit : ReachesLimit limits entries bytes

-- All passes were made, and this is their number.
pub record AllAdmitted (admitted passes : ℕ) : Type 0 where
  pub number : admitted ≡ MOST_PASSES
  pub all : passes ≡ MOST_PASSES

-- A cause for the end fits a journal and the count of passes that were made.
abbrev pub Fits : Limits → EndCause → List Item → ℕ → Type 0
Fits limits (JournalFull entries bytes) list passes = WasFullWith limits list entries bytes
Fits limits NoMemory list passes = Unit {0}
Fits limits (Admissions admitted) list passes = AllAdmitted admitted passes
