-- The authority as the machine under the lock: which operation is ready, which item and reply it gives, and when it is refused.
use Rattle.std.specs.Prelude.{◌≡◌, ℕ, ◌^◌, ◌≤◌, ⊤, true, false, List, Option, Some, None, length}
use Rattle.authority_model.specs.declared.event.Event.{Event}
use Rattle.authority_model.specs.declared.journal.Item.{Item}
use Rattle.authority_model.specs.declared.journal.Limits.{Limits}
use Rattle.authority_model.specs.declared.load.Loaded.{Loaded}
use Rattle.authority_core.specs.declared.collecting.Batch.{Batch}
use Rattle.authority_core.specs.declared.halt.Halt.{Halt}
use Rattle.authority_core.specs.declared.halt.Halt.TheVariants.{Full, NoMemory}
use Rattle.authority_core.specs.Unlisting.{lists_process, unlisted}
use Rattle.authority_laws.specs.Batches.{IsBatch, collect_given}
use Rattle.authority_model.specs.Entering.{is_full}
use Rattle.authority_model.specs.Sent.{is_ready}
use Rattle.authority_model.specs.Items.{loaded_of}
use Rattle.authority_model.specs.Given.{IsStepped, event_given, load_given, next}
use Rattle.shared_authority.specs.declared.operation.Op.{Op}
use Rattle.shared_authority.specs.declared.operation.Op.TheVariants.{Step, Load, Unlist, Collect}
use Rattle.shared_authority.specs.declared.operation.Reply.{Reply}
use Rattle.shared_authority.specs.declared.operation.Reply.TheVariants.{At, Batch as Batched}
use Rattle.shared_authority.specs.declared.operation.Refusal.{Refusal}
use Rattle.shared_authority.specs.declared.operation.Refusal.TheVariants.{Halted, NotListed}
use Rattle.history_lock.specs.declared.refused.CallRefused.{CallRefused}
use Rattle.history_lock.specs.declared.refused.CallRefused.TheVariants.{Ended, Machine}
use Rattle.shared_authority.specs.Journals.{IsFullWith, past_of}

-- the event in an operation
abbrev pub event_in : Op → Option Event
event_in (Step moment salt event) = Some event
event_in _ = None

-- the load in an operation
abbrev pub loaded_in : Op → Option Loaded
loaded_in (Load moment loaded) = Some loaded
loaded_in _ = None

-- the place in a reply
abbrev pub place_in : Reply → Option ℕ
place_in (At place) = Some place
place_in _ = None

-- the batch in a reply
abbrev pub batch_in : Reply → Option Batch
batch_in (Batched batch) = Some batch
batch_in _ = None

-- the operation that a refused call hands back
abbrev pub handed_back : CallRefused Op Refusal → Op
handed_back (Ended cause op) = op
handed_back (Machine refusal op) = op

-- why a process was not taken out of the last load: nothing was added to the journal, or this load doesn't list it
abbrev pub refusal_of : Option Halt → Refusal
refusal_of (Some halt) = Halted halt
refusal_of None = NotListed

-- A connection's operation may be applied: an event is not a load and not a Collect, and a moment is at most 2^62. A Collect may be applied where there is something to collect, or where the other connection has departed.
abbrev pub IsReady : ℕ → Op → List Item → Type 0
IsReady n (Step moment salt event) list = IsStepped event × (moment ≤ 2 ^ 62)
IsReady n (Load moment loaded) list = moment ≤ 2 ^ 62
IsReady n (Unlist moment pid start) list = moment ≤ 2 ^ 62
IsReady n (Collect of) list = is_ready (past_of list) n of ≡ true

-- the connection for whose outputs an operation waits; only a Collect waits
abbrev pub awaited : Op → ℕ
awaited (Collect of) = of
awaited _ = 0

-- A connection's operation gives an item and a reply: the item is the next one for what it hands in, and the reply is its place, or what a Collect takes of the items before it. An Unlist hands in the last load without a process that this one lists.
abbrev pub Gives : ℕ → Op → List Item → Item → Reply → Type 0
Gives n (Step moment salt event) list i (At place) = (i ≡ next (past_of list) (event_given n moment salt event)) × (place ≡ length list)
Gives n (Load moment loaded) list i (At place) = (i ≡ next (past_of list) (load_given n moment loaded)) × (place ≡ length list)
Gives n (Unlist moment pid start) list i (At place) = (i ≡ next (past_of list) (load_given n moment (unlisted (loaded_of (past_of list)) pid start))) × (place ≡ length list) × (lists_process (loaded_of (past_of list)) pid start ≡ true)
Gives n (Collect of) list i (Batched b) = (i ≡ next (past_of list) (collect_given n of)) × IsBatch (past_of list) n of b.from b.outputs b.loads
Gives n (Step moment salt event) list i (Batched b) = ⊥
Gives n (Load moment loaded) list i (Batched b) = ⊥
Gives n (Unlist moment pid start) list i (Batched b) = ⊥
Gives n (Collect of) list i (At place) = ⊥

-- The same where the journal of the items before it was not full.
pub record GivesWithin (limits : Limits) (n : ℕ) (op : Op) (list : List Item) (i : Item) (reply : Reply) : Type 0 where
  pub gives : Gives n op list i reply
  pub room : is_full limits (past_of list) ≡ false

-- Nothing is added to the journal: it is full, or memory was refused.
abbrev pub Halts : Limits → List Item → Halt → Type 0
Halts limits list (Full full) = IsFullWith limits list full.entries full.bytes
Halts limits list NoMemory = ⊤

-- The journal refuses what would be entered.
abbrev pub RefusesAny : Limits → List Item → Refusal → Type 0
RefusesAny limits list (Halted halt) = Halts limits list halt
RefusesAny limits list NotListed = ⊥

-- An Unlist is refused: the last load doesn't list the process, or it does and the journal refuses.
abbrev pub RefusesUnlist : Limits → ℕ → ℕ → List Item → Refusal → Type 0
RefusesUnlist limits pid start list (Halted halt) = Halts limits list halt × (lists_process (loaded_of (past_of list)) pid start ≡ true)
RefusesUnlist limits pid start list NotListed = lists_process (loaded_of (past_of list)) pid start ≡ false

-- An operation is refused.
abbrev pub Refuses : Limits → Op → List Item → Refusal → Type 0
Refuses limits (Step moment salt event) = RefusesAny limits
Refuses limits (Load moment loaded) = RefusesAny limits
Refuses limits (Unlist moment pid start) = RefusesUnlist limits pid start
Refuses limits (Collect of) = RefusesAny limits
