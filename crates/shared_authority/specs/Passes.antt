-- What a call says of its pass, which stands for v before the call and for w after it.
use Rattle.std.specs.Prelude.{◌≢◌, ◌≤◌, true, false, [], ◌∷◌, ◌++◌, ◌≡◌, ℕ, List, Option, Some, None, Result, Ok, Err, length}
use Rattle.history_lock.specs.Known.{Known}
use Rattle.history_lock.specs.Calls.{Answered, Learned, LearnedOwn, Refused}
use Rattle.history_lock.specs.declared.refused.CallRefused.{CallRefused}
use Rattle.history_lock.specs.declared.machine.EndCause.{EndCause}
use Rattle.authority_model.specs.declared.event.Event.{Event}
use Rattle.authority_model.specs.declared.journal.Item.{Item}
use Rattle.authority_model.specs.declared.journal.Limits.{Limits}
use Rattle.authority_model.specs.declared.load.Loaded.{Loaded}
use Rattle.authority_core.specs.declared.collecting.Batch.{Batch}
use Rattle.authority_laws.specs.Batches.{IsBatch, collect_given, greatest_load, loads_in}
use Rattle.authority_core.specs.Unlisting.{lists_process, unlisted}
use Rattle.authority_model.specs.Entering.{is_full}
use Rattle.authority_model.specs.Items.{loaded_of}
use Rattle.authority_model.specs.Peers.{departed}
use Rattle.authority_model.specs.Sent.{batch, sent_to}
use Rattle.authority_model.specs.Given.{Given, event_given, load_given, next}
use Rattle.shared_authority.specs.declared.given.Given as handed
use Rattle.shared_authority.specs.declared.collecting.Collected.{Collected}
use Rattle.shared_authority.specs.declared.collecting.Collected.TheVariants as collected
use Rattle.shared_authority.specs.declared.collecting.CollectRefused.{CollectRefused}
use Rattle.shared_authority.specs.declared.collecting.CollectRefused.TheVariants as collect
use Rattle.shared_authority.specs.Journals.{IsJournal, Fits, IsFullWith, caller_of, past_of}
use Rattle.shared_authority.specs.Machines.{IsReady, GivesWithin, Refuses}
use Rattle.shared_authority.specs.declared.operation.Op.{Op}
use Rattle.shared_authority.specs.declared.operation.Reply.{Reply}
use Rattle.shared_authority.specs.declared.operation.Refusal.{Refusal}
use Rattle.shared_authority.specs.declared.refused.SubmitRefused.{SubmitRefused}
use Rattle.shared_authority.specs.declared.refused.SubmitRefused.TheVariants as submit
use Rattle.shared_authority.specs.declared.refused.SubmitLoadRefused.{SubmitLoadRefused}
use Rattle.shared_authority.specs.declared.refused.SubmitLoadRefused.TheVariants as submit_load
use Rattle.shared_authority.specs.declared.refused.SubmitUnlistRefused.{SubmitUnlistRefused}
use Rattle.shared_authority.specs.declared.refused.SubmitUnlistRefused.TheVariants as submit_unlist

-- what a pass hands in
abbrev pub own_given : Known Item → handed.Given → Given
own_given v g = event_given v.number g.moment g.salt g.event

-- Others' items came, and then the item of what was handed in.
pub record Entered (v : Known Item) (g : Given) (w : Known Item) : Type 0 where
  -- the item
  pub item : Item
  -- it is the pass's own, and it came last
  pub learned : LearnedOwn caller_of IsJournal v item w
  -- it is the next one after those before it
  pub is_next : item ≡ next (past_of learned.grown.before) g

-- Others' items came, and then the item of what was handed in, at this place, counted from 0.
pub record Submitted (v : Known Item) (g : Given) (place : ℕ) (w : Known Item) : Type 0 where
  pub entered : Entered v g w
  pub place_is : place ≡ length entered.learned.grown.before

-- Others' items came, and then the last load before without a process that this one lists.
pub record Unlisted (v : Known Item) (moment pid start place : ℕ) (w : Known Item) : Type 0 where
  -- the last load before
  pub loaded : Loaded
  pub submitted : Submitted v (load_given v.number moment (unlisted loaded pid start)) place w
  pub loaded_is : loaded ≡ loaded_of (past_of submitted.entered.learned.grown.before)
  pub listed : lists_process loaded pid start ≡ true

-- The last of some items came when the journal of those before it was not full.
pub record HadRoom (limits : Limits) (list : List Item) : Type 0 where
  pub before : List Item
  pub item : Item
  pub last : list ≡ before ++ item ∷ []
  pub room : is_full limits (past_of before) ≡ false

-- Nothing was entered, since the lock has ended. The pass knows the kept cause then.
pub record IsEnded (limits : Limits) (v : Known Item) (cause : EndCause) (w : Known Item) : Type 0 where
  pub fits : Fits limits cause w.history w.made
  pub learned : Learned caller_of IsJournal v w
  pub knows : w.ended ≡ Some cause

-- Nothing was entered, since the journal is full. The lock has not ended.
pub record IsFull (limits : Limits) (v : Known Item) (entries bytes : ℕ) (w : Known Item) : Type 0 where
  pub full : IsFullWith limits w.history entries bytes
  pub learned : Learned caller_of IsJournal v w
  pub goes_on : w.ended ≡ None

-- Nothing was entered, since memory was refused. The lock has not ended.
pub record IsOutOfMemory (v w : Known Item) : Type 0 where
  pub learned : Learned caller_of IsJournal v w
  pub goes_on : w.ended ≡ None

-- An event was refused, and comes back.
abbrev pub SubmitIsRefused : Limits → Known Item → Event → SubmitRefused → Known Item → Type 0
SubmitIsRefused limits v event (submit.Ended cause back) w = (back ≡ event) × IsEnded limits v cause w
SubmitIsRefused limits v event (submit.JournalFull entries bytes back) w = (back ≡ event) × IsFull limits v entries bytes w
SubmitIsRefused limits v event (submit.NoMemory back) w = (back ≡ event) × IsOutOfMemory v w

-- A load was refused, and comes back.
abbrev pub SubmitLoadIsRefused : Limits → Known Item → Loaded → SubmitLoadRefused → Known Item → Type 0
SubmitLoadIsRefused limits v loaded (submit_load.Ended cause back) w = (back ≡ loaded) × IsEnded limits v cause w
SubmitLoadIsRefused limits v loaded (submit_load.JournalFull entries bytes back) w = (back ≡ loaded) × IsFull limits v entries bytes w
SubmitLoadIsRefused limits v loaded (submit_load.NoMemory back) w = (back ≡ loaded) × IsOutOfMemory v w

-- Nothing was entered, since the last load doesn't list the process. The lock has not ended.
pub record IsNotListed (v : Known Item) (pid start : ℕ) (w : Known Item) : Type 0 where
  pub absent : lists_process (loaded_of (past_of w.history)) pid start ≡ false
  pub learned : Learned caller_of IsJournal v w
  pub goes_on : w.ended ≡ None

-- A process was not taken out of the last load.
abbrev pub SubmitUnlistIsRefused : Limits → Known Item → ℕ → ℕ → SubmitUnlistRefused → Known Item → Type 0
SubmitUnlistIsRefused limits v pid start (submit_unlist.Ended cause) w = IsEnded limits v cause w
SubmitUnlistIsRefused limits v pid start submit_unlist.NotListed w = IsNotListed v pid start w
SubmitUnlistIsRefused limits v pid start (submit_unlist.JournalFull entries bytes) w = IsFull limits v entries bytes w × (lists_process (loaded_of (past_of w.history)) pid start ≡ true)
SubmitUnlistIsRefused limits v pid start submit_unlist.NoMemory w = IsOutOfMemory v w × (lists_process (loaded_of (past_of w.history)) pid start ≡ true)

-- Some outputs were collected: those that are left for the pass after the items before the Collect.
pub record TookBatch (v : Known Item) (of : ℕ) (b : Batch) (w : Known Item) : Type 0 where
  pub entered : Entered v (collect_given v.number of) w
  pub batch : IsBatch (past_of entered.learned.grown.before) v.number of b.from b.outputs b.loads
  pub some : b.outputs ≢ []

-- Nothing to the connection is left for the pass, and the connection has departed.
pub record TookNothing (v : Known Item) (of : ℕ) (w : Known Item) : Type 0 where
  pub entered : Entered v (collect_given v.number of) w
  pub none : batch (past_of entered.learned.grown.before) v.number of ≡ []
  pub named : greatest_load (sent_to (past_of entered.learned.grown.before) of) ≤ length (loads_in (past_of entered.learned.grown.before))
  pub departed : departed (past_of w.history) of ≡ true

-- What was collected.
abbrev pub Collects : Known Item → ℕ → Collected → Known Item → Type 0
Collects v of (collected.Batch b) w = TookBatch v of b w
Collects v of collected.Gone w = TookNothing v of w

-- A batch is told, and an empty one as gone.
abbrev pub Tells : Batch → Collected → Type 0
Tells b (collected.Batch told) = (told ≡ b) × (b.outputs ≢ [])
Tells b collected.Gone = b.outputs ≡ []

-- Nothing was collected.
abbrev pub CollectIsRefused : Limits → Known Item → CollectRefused → Known Item → Type 0
CollectIsRefused limits v (collect.Ended cause) w = IsEnded limits v cause w
CollectIsRefused limits v (collect.JournalFull entries bytes) w = IsFull limits v entries bytes w
CollectIsRefused limits v collect.NoMemory w = IsOutOfMemory v w

-- What a Collect that does not wait answers: what was collected or that nothing was, or none where nothing is there, and then the pass has learned nothing.
abbrev pub CollectsNow : Limits → Known Item → ℕ → Option (Result Collected CollectRefused) → Known Item → Type 0
CollectsNow limits v of None w = w ≡ v
CollectsNow limits v of (Some (Ok told)) w = Collects v of told w
CollectsNow limits v of (Some (Err refused)) w = CollectIsRefused limits v refused w

-- What the lock answers to a call that does not wait.
abbrev pub CalledNow : Limits → Known Item → Op → Option (Result Reply (CallRefused Op Refusal)) → Known Item → Type 0
CalledNow limits v op None w = w ≡ v
CalledNow limits v op (Some (Ok reply)) w = Answered caller_of IsJournal IsReady (GivesWithin limits) v op reply w
CalledNow limits v op (Some (Err refused)) w = Refused caller_of IsJournal (λ n op list refusal. Refuses limits op list refusal) (Fits limits) v op refused w
