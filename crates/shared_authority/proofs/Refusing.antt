-- What the authority refuses, as the machine says it.
use Rattle.std.proofs.Common.{◌≡◌, ℕ, ◌≤◌, Option, Some, None, refl, ap, sym, ◌∙◌, subst, length}
use Rattle.std.specs.Prelude.{IsSome}
use Rattle.history_lock.specs.Known.{Known}
use Rattle.history_lock.specs.Calls.{Refused}
use Rattle.history_lock.specs.declared.refused.CallRefused.{CallRefused}
use Rattle.history_lock.specs.declared.refused.CallRefused.TheVariants.{Ended, Machine}
use Rattle.authority_model.specs.declared.journal.Item.{Item}
use Rattle.authority_model.specs.declared.event.Event.{Event}
use Rattle.authority_model.specs.declared.journal.Limits.{Limits}
use Rattle.authority_model.specs.declared.load.Loaded.{Loaded}
use Rattle.authority_laws.specs.Batches.{in_order}
use Rattle.authority_core.specs.Journal.{Journal}
use Rattle.authority_core.specs.Refusals.{IsHalted, IsNoneUnlisted}
use Rattle.authority_core.specs.declared.halt.Halt.{Halt}
use Rattle.authority_core.specs.declared.halt.Halt.TheVariants.{Full, NoMemory}
use Rattle.shared_authority.specs.declared.operation.Op.{Op}
use Rattle.shared_authority.specs.declared.operation.Op.TheVariants.{Step, Load}
use Rattle.shared_authority.specs.declared.operation.Refusal.{Refusal}
use Rattle.shared_authority.specs.Journals.{IsJournal, Fits, caller_of}
use Rattle.shared_authority.specs.Machines.{Halts, Refuses, RefusesUnlist, event_in, handed_back, loaded_in, refusal_of}
use Rattle.shared_authority.proofs.Growing.{full_with}

-- a journal that halts
pub halts : (journal : Journal) (limits : Limits) (halt : Halt) → IsHalted journal halt → journal.limits ≡ limits → length journal.history.entries ≤ limits.entries → Halts limits (in_order journal.history) halt
halts journal limits (Full full) r named within = full_with journal limits full.entries full.bytes r named within
halts journal limits NoMemory r named within = tt

-- why a process is not taken out of the last load
pub unlist_refuses : (journal : Journal) (limits : Limits) (pid start : ℕ) (halt : Option Halt) → IsNoneUnlisted journal pid start halt → journal.limits ≡ limits → length journal.history.entries ≤ limits.entries → RefusesUnlist limits pid start (in_order journal.history) (refusal_of halt)
unlist_refuses journal limits pid start None r named within = r
unlist_refuses journal limits pid start (Some halt) r named within = (halts journal limits halt r.0 named within, r.1)

-- an event that the lock refuses comes back
pub event_comes_back : (limits : Limits) (v w : Known Item) (moment salt : ℕ) (event : Event) (refused : CallRefused Op Refusal) → Refused caller_of IsJournal (λ n op list refusal. Refuses limits op list refusal) (Fits limits) v (Step moment salt event) refused w → IsSome (event_in (handed_back refused))
event_comes_back limits v w moment salt event (Ended cause op) r = subst (λ (o : Op). IsSome (event_in o)) (sym r.0) refl
event_comes_back limits v w moment salt event (Machine refusal op) r = subst (λ (o : Op). IsSome (event_in o)) (sym r.0) refl

-- and it is the event that was handed in
pub same_event : (op : Op) (moment salt : ℕ) (event back : Event) → op ≡ Step moment salt event → event_in op ≡ Some back → back ≡ event
same_event op moment salt event back is found = let some : Some back ≡ Some event = sym found ∙ ap event_in is in cc

-- a load that the lock refuses comes back
pub load_comes_back : (limits : Limits) (v w : Known Item) (moment : ℕ) (loaded : Loaded) (refused : CallRefused Op Refusal) → Refused caller_of IsJournal (λ n op list refusal. Refuses limits op list refusal) (Fits limits) v (Load moment loaded) refused w → IsSome (loaded_in (handed_back refused))
load_comes_back limits v w moment loaded (Ended cause op) r = subst (λ (o : Op). IsSome (loaded_in o)) (sym r.0) refl
load_comes_back limits v w moment loaded (Machine refusal op) r = subst (λ (o : Op). IsSome (loaded_in o)) (sym r.0) refl
