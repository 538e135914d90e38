-- The cause of a refusal fits.
use Rattle.std.proofs.Common.{◌≡◌, ℕ, List, Option, Some, None, sym, subst, arith}
use Rattle.history_lock.specs.Known.{Known}
use Rattle.history_lock.specs.declared.machine.EndCause.{EndCause}
use Rattle.history_lock.specs.declared.machine.EndCause.TheVariants.{JournalFull, NoMemory}
use Rattle.authority_model.specs.declared.event.Event.{Event}
use Rattle.authority_model.specs.declared.journal.Item.{Item}
use Rattle.authority_model.specs.declared.journal.Limits.{Limits}
use Rattle.authority_model.specs.declared.load.Loaded.{Loaded}
use Rattle.shared_authority.specs.Journals.{Fits, IsFullWith, WasFullWith}
use Rattle.shared_authority.specs.Passes.{CollectIsRefused, SubmitIsRefused, SubmitLoadIsRefused, SubmitUnlistIsRefused}
use Rattle.shared_authority.specs.declared.collecting.CollectRefused.{CollectRefused}
use Rattle.shared_authority.specs.declared.collecting.CollectRefused.TheVariants as collect
use Rattle.shared_authority.specs.declared.refused.SubmitRefused.{SubmitRefused}
use Rattle.shared_authority.specs.declared.refused.SubmitRefused.TheVariants as submit
use Rattle.shared_authority.specs.declared.refused.SubmitLoadRefused.{SubmitLoadRefused}
use Rattle.shared_authority.specs.declared.refused.SubmitLoadRefused.TheVariants as submit_load
use Rattle.shared_authority.specs.declared.refused.SubmitUnlistRefused.{SubmitUnlistRefused}
use Rattle.shared_authority.specs.declared.refused.SubmitUnlistRefused.TheVariants as submit_unlist

-- a full journal was full
pub was_full : (limits : Limits) (list : List Item) (entries bytes : ℕ) → IsFullWith limits list entries bytes → WasFullWith limits list entries bytes
was_full limits list entries bytes full = record { entries_are = omega (arith, full.entries_are); bytes_are = omega (arith, full.bytes_are); limit = full.limit }

-- the cause of a refused event
abbrev pub cause_of_submit : SubmitRefused → EndCause
cause_of_submit (submit.Ended cause event) = cause
cause_of_submit (submit.JournalFull entries bytes event) = JournalFull entries bytes
cause_of_submit (submit.NoMemory event) = NoMemory

-- fits what the pass knows
pub submit_fits : (r : SubmitRefused) (cause : EndCause) → cause ≡ cause_of_submit r → (limits : Limits) (v w : Known Item) (event : Event) → SubmitIsRefused limits v event r w → Fits limits cause w.history w.made
submit_fits (submit.Ended kept back) cause is limits v w event refused = subst (λ (c : EndCause). Fits limits c w.history w.made) (sym is) refused.1.fits
submit_fits (submit.JournalFull entries bytes back) cause is limits v w event refused = subst (λ (c : EndCause). Fits limits c w.history w.made) (sym is) (was_full limits w.history entries bytes refused.1.full)
submit_fits (submit.NoMemory back) cause is limits v w event refused = subst (λ (c : EndCause). Fits limits c w.history w.made) (sym is) tt

-- the cause of a refused load
abbrev pub cause_of_load : SubmitLoadRefused → EndCause
cause_of_load (submit_load.Ended cause loaded) = cause
cause_of_load (submit_load.JournalFull entries bytes loaded) = JournalFull entries bytes
cause_of_load (submit_load.NoMemory loaded) = NoMemory

-- fits what the pass knows
pub load_fits : (r : SubmitLoadRefused) (cause : EndCause) → cause ≡ cause_of_load r → (limits : Limits) (v w : Known Item) (loaded : Loaded) → SubmitLoadIsRefused limits v loaded r w → Fits limits cause w.history w.made
load_fits (submit_load.Ended kept back) cause is limits v w loaded refused = subst (λ (c : EndCause). Fits limits c w.history w.made) (sym is) refused.1.fits
load_fits (submit_load.JournalFull entries bytes back) cause is limits v w loaded refused = subst (λ (c : EndCause). Fits limits c w.history w.made) (sym is) (was_full limits w.history entries bytes refused.1.full)
load_fits (submit_load.NoMemory back) cause is limits v w loaded refused = subst (λ (c : EndCause). Fits limits c w.history w.made) (sym is) tt

-- the cause of a refused Collect
abbrev pub cause_of_collect : CollectRefused → EndCause
cause_of_collect (collect.Ended cause) = cause
cause_of_collect (collect.JournalFull entries bytes) = JournalFull entries bytes
cause_of_collect collect.NoMemory = NoMemory

-- fits what the pass knows
pub collect_fits : (r : CollectRefused) (cause : EndCause) → cause ≡ cause_of_collect r → (limits : Limits) (v w : Known Item) → CollectIsRefused limits v r w → Fits limits cause w.history w.made
collect_fits (collect.Ended kept) cause is limits v w refused = subst (λ (c : EndCause). Fits limits c w.history w.made) (sym is) refused.fits
collect_fits (collect.JournalFull entries bytes) cause is limits v w refused = subst (λ (c : EndCause). Fits limits c w.history w.made) (sym is) (was_full limits w.history entries bytes refused.full)
collect_fits collect.NoMemory cause is limits v w refused = subst (λ (c : EndCause). Fits limits c w.history w.made) (sym is) tt

-- the cause of a refused Unlist, if it is one
abbrev pub cause_of_unlist : SubmitUnlistRefused → Option EndCause
cause_of_unlist (submit_unlist.Ended cause) = Some cause
cause_of_unlist submit_unlist.NotListed = None
cause_of_unlist (submit_unlist.JournalFull entries bytes) = Some (JournalFull entries bytes)
cause_of_unlist submit_unlist.NoMemory = Some NoMemory

-- a cause of a refused Unlist fits what the pass knows
pub unlist_fits : (r : SubmitUnlistRefused) (cause : EndCause) → cause_of_unlist r ≡ Some cause → (limits : Limits) (v w : Known Item) (pid start : ℕ) → SubmitUnlistIsRefused limits v pid start r w → Fits limits cause w.history w.made
unlist_fits (submit_unlist.Ended kept) cause is limits v w pid start refused = subst (λ (c : EndCause). Fits limits c w.history w.made) (let same : kept ≡ cause = cc in same) refused.fits
unlist_fits submit_unlist.NotListed cause is limits v w pid start refused = absurd (cc)
unlist_fits (submit_unlist.JournalFull entries bytes) cause is limits v w pid start refused = subst (λ (c : EndCause). Fits limits c w.history w.made) (let same : JournalFull entries bytes ≡ cause = cc in same) (was_full limits w.history entries bytes refused.0.full)
unlist_fits submit_unlist.NoMemory cause is limits v w pid start refused = subst (λ (c : EndCause). Fits limits c w.history w.made) (let same : NoMemory ≡ cause = cc in same) tt
