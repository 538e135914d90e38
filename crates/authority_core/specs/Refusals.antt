-- Why an authority refuses what is handed in: the journal is full, and this is how full; or memory was refused. What was handed in comes back.
use Rattle.std.specs.Prelude.{◌≡◌, ⊤, ℕ, Option, Some, None, length, true, false}
use Rattle.authority_model.specs.declared.event.Event.{Event}
use Rattle.authority_model.specs.declared.load.Loaded.{Loaded}
use Rattle.authority_model.specs.Entering.{counted_bytes, is_full}
use Rattle.authority_model.specs.Items.{items_of, loaded_of}
use Rattle.authority_core.specs.declared.collecting.CollectStepRefused.{CollectStepRefused}
use Rattle.authority_core.specs.declared.collecting.CollectStepRefused.TheVariants as collect_refused
use Rattle.authority_core.specs.declared.authority.LoadStepRefused.{LoadStepRefused}
use Rattle.authority_core.specs.declared.authority.LoadStepRefused.TheVariants as load_refused
use Rattle.authority_core.specs.declared.authority.StepRefused.{StepRefused}
use Rattle.authority_core.specs.declared.authority.StepRefused.TheVariants as step_refused
use Rattle.authority_core.specs.declared.authority.UnlistRefused.{UnlistRefused}
use Rattle.authority_core.specs.declared.authority.UnlistRefused.TheVariants as unlist_refused
use Rattle.authority_core.specs.declared.halt.Halt.{Halt}
use Rattle.authority_core.specs.declared.halt.Halt.TheVariants.{Full, NoMemory}
use Rattle.authority_core.specs.Journal.{Journal}
use Rattle.authority_core.specs.Unlisting.{lists_process}

-- a full journal has this many entries and counted bytes
pub record IsFullAt (journal : Journal) (entries bytes : ℕ) : Type 0 where
  pub full : is_full journal.limits (items_of journal.history) ≡ true
  pub entries_are : entries ≡ length (items_of journal.history)
  pub bytes_are : bytes ≡ counted_bytes (items_of journal.history)

-- nothing was added to a journal: it is this full, or memory was refused
abbrev pub IsHalted : Journal → Halt → Type 0
IsHalted journal (Full full) = IsFullAt journal full.entries full.bytes
IsHalted journal NoMemory = ⊤

-- why an event was refused
abbrev pub halt_of_step : StepRefused → Halt
halt_of_step (step_refused.JournalFull entries bytes event) = Full (record { entries = entries; bytes = bytes })
halt_of_step (step_refused.NoMemory event) = NoMemory

-- the event that comes back
abbrev pub event_back : StepRefused → Event
event_back (step_refused.JournalFull entries bytes event) = event
event_back (step_refused.NoMemory event) = event

-- why a load was refused
abbrev pub halt_of_load : LoadStepRefused → Halt
halt_of_load (load_refused.JournalFull entries bytes loaded) = Full (record { entries = entries; bytes = bytes })
halt_of_load (load_refused.NoMemory loaded) = NoMemory

-- the load that comes back
abbrev pub loaded_back : LoadStepRefused → Loaded
loaded_back (load_refused.JournalFull entries bytes loaded) = loaded
loaded_back (load_refused.NoMemory loaded) = loaded

-- why a Collect was refused
abbrev pub halt_of_collect : CollectStepRefused → Halt
halt_of_collect (collect_refused.JournalFull entries bytes) = Full (record { entries = entries; bytes = bytes })
halt_of_collect collect_refused.NoMemory = NoMemory

-- why the last load was not added without a process that it lists
abbrev pub halt_of_unlist : UnlistRefused → Option Halt
halt_of_unlist unlist_refused.NotListed = None
halt_of_unlist (unlist_refused.JournalFull entries bytes) = Some (Full (record { entries = entries; bytes = bytes }))
halt_of_unlist unlist_refused.NoMemory = Some NoMemory

-- an event was refused
abbrev pub IsStepRefused : Journal → Event → StepRefused → Type 0
IsStepRefused journal event refused = IsHalted journal (halt_of_step refused) × (event_back refused ≡ event)

-- a load was refused
abbrev pub IsLoadRefused : Journal → Loaded → LoadStepRefused → Type 0
IsLoadRefused journal loaded refused = IsHalted journal (halt_of_load refused) × (loaded_back refused ≡ loaded)

-- a Collect was refused
abbrev pub IsCollectRefused : Journal → CollectStepRefused → Type 0
IsCollectRefused journal refused = IsHalted journal (halt_of_collect refused)

-- no load without a process was added: the last one doesn't list it, or it does and the journal halted
abbrev pub IsNoneUnlisted : Journal → ℕ → ℕ → Option Halt → Type 0
IsNoneUnlisted journal pid start None = lists_process (loaded_of (items_of journal.history)) pid start ≡ false
IsNoneUnlisted journal pid start (Some halt) = IsHalted journal halt × (lists_process (loaded_of (items_of journal.history)) pid start ≡ true)

-- a process was not taken out of the last load
abbrev pub IsUnlistRefused : Journal → ℕ → ℕ → UnlistRefused → Type 0
IsUnlistRefused journal pid start refused = IsNoneUnlisted journal pid start (halt_of_unlist refused)
