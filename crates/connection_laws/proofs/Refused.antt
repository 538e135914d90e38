-- Where nothing was entered, the pass learned of others' items alone.
use Rattle.history_lock.specs.Known.{Known}
use Rattle.history_lock.specs.Calls.{Learned}
use Rattle.authority_model.specs.declared.event.Event.{Event}
use Rattle.authority_model.specs.declared.journal.Item.{Item}
use Rattle.authority_model.specs.declared.journal.Limits.{Limits}
use Rattle.authority_model.specs.declared.load.Loaded.{Loaded}
use Rattle.shared_authority.specs.Journals.{IsJournal, caller_of}
use Rattle.shared_authority.specs.Passes.{CollectIsRefused, SubmitIsRefused, SubmitLoadIsRefused}
use Rattle.shared_authority.specs.declared.collecting.CollectRefused.{CollectRefused}
use Rattle.shared_authority.specs.declared.collecting.CollectRefused.TheVariants as collect
use Rattle.shared_authority.specs.declared.refused.SubmitRefused.{SubmitRefused}
use Rattle.shared_authority.specs.declared.refused.SubmitRefused.TheVariants as submit
use Rattle.shared_authority.specs.declared.refused.SubmitLoadRefused.{SubmitLoadRefused}
use Rattle.shared_authority.specs.declared.refused.SubmitLoadRefused.TheVariants as submit_load

-- an event was refused
pub submit_learned : (limits : Limits) (v : Known Item) (event : Event) (r : SubmitRefused) (w : Known Item) → SubmitIsRefused limits v event r w → Learned caller_of IsJournal v w
submit_learned limits v event (submit.Ended cause back) w refused = refused.1.learned
submit_learned limits v event (submit.JournalFull entries bytes back) w refused = refused.1.learned
submit_learned limits v event (submit.NoMemory back) w refused = refused.1.learned

-- a load was refused
pub load_learned : (limits : Limits) (v : Known Item) (loaded : Loaded) (r : SubmitLoadRefused) (w : Known Item) → SubmitLoadIsRefused limits v loaded r w → Learned caller_of IsJournal v w
load_learned limits v loaded (submit_load.Ended cause back) w refused = refused.1.learned
load_learned limits v loaded (submit_load.JournalFull entries bytes back) w refused = refused.1.learned
load_learned limits v loaded (submit_load.NoMemory back) w refused = refused.1.learned

-- nothing was collected
pub collect_learned : (limits : Limits) (v : Known Item) (r : CollectRefused) (w : Known Item) → CollectIsRefused limits v r w → Learned caller_of IsJournal v w
collect_learned limits v (collect.Ended cause) w refused = refused.learned
collect_learned limits v (collect.JournalFull entries bytes) w refused = refused.learned
collect_learned limits v collect.NoMemory w refused = refused.learned
