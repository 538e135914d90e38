-- What the walk over a journal keeps of the entries so far.
use Rattle.std.specs.Prelude.{◌≡◌, ℕ, ◌+◌, ◌<◌, ◌==◌, true, false, if◌then◌else◌, List, [], Option, Some, None, length, slice_get}
use Rattle.authority_model.specs.declared.event.Event.{Event}
use Rattle.authority_model.specs.declared.journal.Item.{Item}
use Rattle.authority_model.specs.declared.load.Loaded.{Loaded}
use Rattle.authority_model.specs.Items.{is_load}
use Rattle.authority_model.specs.Legal.{last_moment}
use Rattle.authority_model.specs.Lists.{Each, any_of}
use Rattle.authority_model.specs.Peers.{is_by, departs, is_depart}
use Rattle.authority_model.specs.Sent.{collected}
use Rattle.journal_scan.specs.declared.callers.Callers.{Callers}
use Rattle.journal_scan.specs.declared.callers.Place.{Place}
use Rattle.journal_scan.specs.declared.callers.Stage.{Stage}
use Rattle.journal_scan.specs.declared.callers.Stage.TheVariants.{Unseen, Live, Departed}
use Rattle.journal_scan.specs.declared.collects.Collection.{Collection}
use Rattle.journal_scan.specs.declared.counts.Tally.{Tally}
use Rattle.journal_scan.specs.declared.counts.Totals.{Totals}
use Rattle.journal_scan.specs.declared.lines.ConnectionLine.{ConnectionLine}
use Rattle.journal_scan.specs.declared.loading.Loading.{Loading}
use Rattle.journal_scan.specs.declared.scan.Scan.{Scan}
use Rattle.journal_scan.specs.Callers.{Belongs}
use Rattle.journal_scan.specs.Collecting.{IsOnlyEmpty, had_nothing}
use Rattle.journal_scan.specs.Counts.{NothingFrom, how_many, tally_of}
use Rattle.journal_scan.specs.Lines.{NumbersDiffer, is_sighter, uid_on}
use Rattle.journal_scan.specs.Loading.{IsDue, has_stop, is_failed_load, is_unlisting, loads_due, loads_ended, loads_wanted}
use Rattle.journal_scan.specs.Orderly.{EachItem}
use Rattle.journal_scan.specs.Tables.{IsTable}

-- how far a connection is after an event of its own
abbrev pub stage_after : Stage → Event → Stage
stage_after Departed event = Departed
stage_after _ event = if is_depart event then Departed else Live

-- how far a connection is after a history
abbrev pub stage_of : List Item → ℕ → Stage
stage_of past c = if any_of (departs c) past then Departed else (if any_of (is_by c) past then Live else Unseen)

-- what is kept of a number: the uid on its line, whether it is that of a sighter, and how far it is
abbrev pub place_of : List ConnectionLine → List Item → ℕ → Place
place_of lines past c = record { uid = uid_on lines c; looks = is_sighter lines c; stage = stage_of past c }

-- a place of the connection on a line with this uid
abbrev pub with_uid : ℕ → Place → Place
with_uid uid place = record { uid = Some uid; looks = place.looks; stage = place.stage }

-- a place of the sighter of a line
abbrev pub with_sighter : Place → Place
with_sighter place = record { uid = place.uid; looks = true; stage = place.stage }

-- a place of no line and of no sighter
pub record IsUntaken (place : Place) : Type 0 where
  pub uid : place.uid ≡ None
  pub looks : place.looks ≡ false

-- Some lines were taken: their numbers differ and are in the table, and each has its place there.
pub record AreMarked (size : ℕ) (lines : List ConnectionLine) (callers : Callers) : Type 0 where
  pub differ : NumbersDiffer lines
  pub few : Each (λ l. l.number < size) lines
  pub marked : IsTable size (λ c place. place ≡ place_of lines [] c) callers.places.items

-- what is kept of all entries
abbrev pub loading_of : List Item → Loading
loading_of past = record {
  last = last_moment past;
  entries = length past;
  loads = how_many (λ i. is_load i.entry.event) past;
  unlisted = how_many is_unlisting past;
  refused = how_many (λ i. is_failed_load i.entry.event) past;
  ended = loads_ended past;
  asked = loads_wanted past;
  due = loads_due past;
  stopped = has_stop past;
}

-- the load that an item names: a Load entry has the next of the loads, and any other has none
abbrev pub load_named : List Loaded → List Item → Event → Option Loaded
load_named loads past event = if is_load event then slice_get loads (how_many (λ i. is_load i.entry.event) past) else None

-- an item has the load that it names
abbrev pub IsPaired : List Loaded → List Item → Item → Type 0
IsPaired loads past i = i.loaded ≡ load_named loads past i.entry.event

-- a tally with so many answers more
abbrev pub with_answers : Tally → ℕ → Tally
with_answers tally more = record { messages = tally.messages; answers = tally.answers + more }

-- what is counted of all entries
abbrev pub totals_in : Loading → Totals
totals_in loading = record { entries = loading.entries; loads = loading.loads; unlisted = loading.unlisted; refused = loading.refused; wanted = loading.due }

-- how many outputs to a connection a row tells as collected
abbrev pub collected_in : Option ℕ → ℕ → ℕ → ℕ
collected_in None count y = 0
collected_in (Some of) count y = if of == y then count else 0

-- A row tells what a caller has collected of each connection, and whether it had an empty batch.
pub record IsCollection (past : List Item) (c : ℕ) (row : Collection) : Type 0 where
  pub taken : (y : ℕ) → collected past c y ≡ collected_in row.of row.count y
  pub ended : row.ended ≡ had_nothing past c

-- What is kept stands for the entries so far, and these are orderly.
pub record Stands (size : ℕ) (lines : List ConnectionLine) (past : List Item) (scan : Scan) : Type 0 where
  pub callers : IsTable size (λ c place. place ≡ place_of lines past c) scan.callers.places.items
  pub loading : scan.loading ≡ loading_of past
  pub collects : IsTable size (IsCollection past) scan.collects.rows.items
  pub tallies : IsTable size (λ c tally. tally ≡ tally_of past c) scan.tallies.rows.items
  pub others : NothingFrom past size
  pub belong : EachItem (Belongs lines) past
  pub due : EachItem (IsDue lines) past
  pub empty : EachItem IsOnlyEmpty past
