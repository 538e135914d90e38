use Rattle.std.proofs.Common.{◌≡◌, ◌<◌, ◌-◌, List, Some, true, ap, sym, ◌∙◌, subst, length}
use Rattle.std.specs.Prelude.{slice_get}
use Rattle.history_lock.specs.Waking.{Wakes}
use Rattle.authority_model.specs.declared.journal.Entry.{Entry}
use Rattle.authority_model.specs.declared.journal.History.{History}
use Rattle.authority_model.specs.Items.{count_to}
use Rattle.authority_model.specs.Peers.{is_depart}
use Rattle.shared_authority.specs.Machines.{IsReady}
use Rattle.shared_authority.proofs.Readying.{last_entry, ready_or_woken}
use Rattle.shared_authority.proofs.kept.KeptMachine.woken.Goals as goal

pub returns-in-Some : goal.returns-in-Some
returns-in-Some g c = λ list i caller op is ready.
    let woken = c.woken_by.ensures in
    let h = c.args.self.now.authority.history in
    let entries : c.as_slice.result.now ≡ h.entries = c.as_slice.ensures.items ∙ ap (λ (x : History). x.entries) c.history.ensures.same in
    let last : slice_get h.entries (length h.entries - 1) ≡ Some c.in-Some.entry.now = subst (λ (l : List Entry). slice_get l (length l - 1) ≡ Some c.in-Some.entry.now) entries (sym c.in-Some.ensures.value) in
    let same : i.entry ≡ c.in-Some.entry.now = last_entry h list i c.in-Some.entry.now is last in
    ready_or_woken (Wakes c.woken_by.result) list i caller op (subst (IsReady caller op) is ready)
    (λ q more. woken.receivers q (subst (λ (e : Entry). 0 < count_to q e.outputs) same more))
    (λ departs. subst (λ (e : Entry). Wakes c.woken_by.result e.caller) (sym same) (woken.departed (subst (λ (e : Entry). is_depart e.event ≡ true) same departs)))
