use Rattle.std.proofs.Common.{◌≡◌, ◌<◌, ◌-◌, List, Some, ap, sym, ◌∙◌, subst, length}
use Rattle.std.specs.Prelude.{slice_get}
use Rattle.history_lock.specs.Waking.{Wakes}
use Rattle.authority_model.specs.declared.journal.Entry.{Entry}
use Rattle.authority_model.specs.declared.journal.History.{History}
use Rattle.authority_model.specs.Items.{count_to}
use Rattle.shared_authority.specs.Machines.{IsReady}
use Rattle.shared_authority.proofs.Readying.{last_entry, ready_own_or_woken}
use Rattle.shared_authority.proofs.kept.KeptMachine.woken_others.Goals as goal

pub returns-in-Some : goal.returns-in-Some
returns-in-Some g c = λ list i caller op is ready.
    let h = c.args.self.now.authority.history in
    let entries : c.as_slice.result.now ≡ h.entries = c.as_slice.ensures.items ∙ ap (λ (x : History). x.entries) c.history.ensures.same in
    let last : slice_get h.entries (length h.entries - 1) ≡ Some c.in-Some.entry.now = subst (λ (l : List Entry). slice_get l (length l - 1) ≡ Some c.in-Some.entry.now) entries (sym c.in-Some.ensures.value) in
    let same : i.entry ≡ c.in-Some.entry.now = last_entry h list i c.in-Some.entry.now is last in
    ready_own_or_woken (Wakes c.others_woken_by.result) list i caller op (subst (IsReady caller op) is ready)
    (λ q. subst (λ (e : Entry). ¬ (q ≡ e.caller) → 0 < count_to q e.outputs → Wakes c.others_woken_by.result q) (sym same) (c.others_woken_by.ensures q))
