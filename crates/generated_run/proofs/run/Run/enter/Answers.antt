-- The run has the item of the event besides, and what that asks was found in its entry; or its journal halted before it.
use Rattle.std.proofs.Common.{◌+◌, ap, ◌∙◌, subst, sym}
use Rattle.authority_core.specs.Refusals.{IsHalted}
use Rattle.authority_model.specs.declared.journal.Entry.{Entry}
use Rattle.authority_model.specs.Given.{event_given, next}
use Rattle.authority_model.specs.Items.{sent}
use Rattle.generated_run.specs.Run.{asked_in, entered}
use Rattle.generated_run.proofs.Entering.{halted_before, newest_is, has_next}
use Rattle.generated_run.proofs.run.Run.enter.Goals as goal

pub returns-in_ok-add-in-Ok-clause-ok : goal.returns-in_ok-add-in-Ok-clause-ok
returns-in_ok-add-in-Ok-clause-ok c = λ past has.
    let g = event_given c.args.caller c.args.moment 0 c.args.event in
    let newest = newest_is past c.args.self.now.authority.history c.step.new.self.history g c.in-Some.entry.now c.in-Ok.place has.items c.in-Ok.ensures.entry c.in-Ok.ensures.place c.in-Some.ensures.entry in
    has_next past c.args.self.now _ g has c.in-Ok.ensures.limits c.in-Ok.ensures.grows (c.in_ok-add-in-Ok.ensures.added past (next past g) has.summary newest)

pub returns-in_ok-add-in-Ok-clause-asked : goal.returns-in_ok-add-in-Ok-clause-asked
unfolding entered
returns-in_ok-add-in-Ok-clause-asked c = λ past has.
    let g = event_given c.args.caller c.args.moment 0 c.args.event in
    let newest = newest_is past c.args.self.now.authority.history c.step.new.self.history g c.in-Some.entry.now c.in-Ok.place has.items c.in-Ok.ensures.entry c.in-Ok.ensures.place c.in-Some.ensures.entry in
    let serial = c.in_ok-serial.ensures.next ∙ ap (λ n. n + 1) (c.sent_count.ensures.count ∙ ap (λ p. sent p c.args.caller) has.items) in
    let outputs = c.as_slice.ensures.items ∙ ap (λ (e : Entry). e.outputs) (sym newest) in
    c.in_ok-asked-in-Ok.ensures.asked ∙ ap (λ n. asked_in c.args.caller n c.as_slice.result.now) serial ∙ ap (asked_in c.args.caller (sent past c.args.caller + 1)) outputs

pub returns-in-Err-clause-stop : goal.returns-in-Err-clause-stop
returns-in-Err-clause-stop c = λ past has.
    halted_before past c.args.self.now (event_given c.args.caller c.args.moment 0 c.args.event) c.into_parts-halt.result.0 has (subst (IsHalted c.args.self.now.authority) (sym c.into_parts-halt.ensures.halt) c.in-Err.ensures.refused.0)
