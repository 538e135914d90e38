-- What the lock answers to a Collect, as one relation.
use Rattle.std.proofs.Common.{◌≡◌, ℕ, Option, Some, None, Result, Ok, Err, refl}
use Rattle.std.specs.Prelude.{IfOk, IfErr, IfSome}
use Rattle.history_lock.specs.Known.{Known}
use Rattle.history_lock.specs.Calls.{Answered, Refused}
use Rattle.history_lock.specs.declared.refused.CallRefused.{CallRefused}
use Rattle.authority_model.specs.declared.journal.Item.{Item}
use Rattle.authority_model.specs.declared.journal.Limits.{Limits}
use Rattle.shared_authority.specs.declared.collecting.Collected.{Collected}
use Rattle.shared_authority.specs.declared.collecting.CollectRefused.{CollectRefused}
use Rattle.shared_authority.specs.declared.operation.Op.{Op}
use Rattle.shared_authority.specs.declared.operation.Refusal.{Refusal}
use Rattle.shared_authority.specs.declared.operation.Reply.{Reply}
use Rattle.shared_authority.specs.Journals.{IsJournal, Fits, caller_of}
use Rattle.shared_authority.specs.Machines.{IsReady, GivesWithin, Refuses}
use Rattle.shared_authority.specs.Passes.{CalledNow, Collects, CollectIsRefused, CollectsNow}

-- a call that was made
pub called : (limits : Limits) (v w : Known Item) (op : Op) (answer : Result Reply (CallRefused Op Refusal)) → IfOk answer (λ reply. Answered caller_of IsJournal IsReady (GivesWithin limits) v op reply w)
    → IfErr answer (λ refused. Refused caller_of IsJournal (λ n op list refusal. Refuses limits op list refusal) (Fits limits) v op refused w) → CalledNow limits v op (Some answer) w
called limits v w op (Ok reply) ok err = ok
called limits v w op (Err refused) ok err = err

-- a call that was made only if it need not wait
pub called_now : (limits : Limits) (v w : Known Item) (op : Op) (answer : Option (Result Reply (CallRefused Op Refusal))) → (answer ≡ None → w ≡ v) → IfSome answer (λ a. IfOk a (λ reply. Answered caller_of IsJournal IsReady (GivesWithin limits) v op reply w))
    → IfSome answer (λ a. IfErr a (λ refused. Refused caller_of IsJournal (λ n op list refusal. Refuses limits op list refusal) (Fits limits) v op refused w)) → CalledNow limits v op answer w
called_now limits v w op None none ok err = none refl
called_now limits v w op (Some answer) none ok err = called limits v w op answer ok err

-- what was collected
pub told_ok : (limits : Limits) (v w : Known Item) (of : ℕ) (told : Result Collected CollectRefused) → CollectsNow limits v of (Some told) w → IfOk told (λ collected. Collects v of collected w)
told_ok limits v w of (Ok collected) collects = collects
told_ok limits v w of (Err refused) collects = tt

-- why nothing was
pub told_err : (limits : Limits) (v w : Known Item) (of : ℕ) (told : Result Collected CollectRefused) → CollectsNow limits v of (Some told) w → IfErr told (λ refused. CollectIsRefused limits v refused w)
told_err limits v w of (Ok collected) collects = tt
told_err limits v w of (Err refused) collects = collects
