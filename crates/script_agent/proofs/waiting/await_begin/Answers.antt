-- The next message is passed over, or ends the wait.
use Rattle.std.proofs.Common.{◌≡◌, ◌∙◌, ◌<◌, sym, ap, refl, Bool, Option, Result, Some, None, Err, IfOk, arith}
use Rattle.client_messages.specs.declared.agent.AgentBegin.{AgentBegin}
use Rattle.client_messages.specs.Agents.{begin_of}
use Rattle.client_link.specs.declared.stop.LinkStop.{LinkStop}
use Rattle.client_link.specs.Faults.{faults_after}
use Rattle.script_agent.specs.Waits.{Hears}
use Rattle.script_agent.proofs.Fronts.{err_along}
use Rattle.script_agent.proofs.Hearings.{hearing_first, hearing_found, hearing_more, hearing_stop}
use Rattle.script_agent.proofs.Moves.{faults_err}
use Rattle.script_agent.proofs.Serials.{serial_above}
use Rattle.script_agent.proofs.waiting.await_begin.Goals as goal

pub messages-init : goal.messages-init
messages-init g c = record { hearing = hearing_first _ _ _; quiet = refl; same = refl }

pub returns-in_err-asked-clause-hears : goal.returns-in_err-asked-clause-hears
returns-in_err-asked-clause-hears g c =
    let P : Result AgentBegin LinkStop → Type 0 = λ r. Hears begin_of (g.I.Source.left c.args.source.now) (g.I.Source.left c.next_begin.new.source) (g.I.Source.ended c.next_begin.new.source) c.args.buffer.now c.next_begin.new.buffer r in
    let b = c.in_err-asked.ensures.brings in
    err_along P c.from_residual.result c.in_err-asked.field-0.0 c.from_residual.ensures.1 (hearing_stop begin_of _ _ _ _ _ _ _ begin_of c.in_err-asked.field-0.0 b.0 c.messages.invariant.hearing b.1 b.2)

pub returns-in_err-asked-clause-serial : goal.returns-in_err-asked-clause-serial
returns-in_err-asked-clause-serial g c =
    let P : Result AgentBegin LinkStop → Type 0 = λ r. IfOk r (λ begin. 0 < begin.serial) in
    err_along P c.from_residual.result c.in_err-asked.field-0.0 c.from_residual.ensures.1 tt

pub returns-in_err-asked-clause-faults : goal.returns-in_err-asked-clause-faults
returns-in_err-asked-clause-faults g c =
    let P : Result AgentBegin LinkStop → Type 0 = λ r. g.I.Source.faults c.next_begin.new.source ≡ faults_after (g.I.Source.faults c.args.source.now) r in
    err_along P c.from_residual.result c.in_err-asked.field-0.0 c.from_residual.ensures.1 (faults_err (Option AgentBegin) AgentBegin _ _ _ c.in_err-asked.field-0.0 c.in_err-asked.ensures.faults c.messages.invariant.quiet)

pub returns-in_err-asked-clause-origin : goal.returns-in_err-asked-clause-origin
returns-in_err-asked-clause-origin g c = c.in_err-asked.ensures.same ∙ c.messages.invariant.same

pub returns-in-Some-clause-hears : goal.returns-in-Some-clause-hears
returns-in-Some-clause-hears g c =
    let b = c.in_ok-asked.ensures.brings in
    hearing_found begin_of _ _ _ _ _ _ _ begin_of c.in_ok-asked.asked c.in-Some.begin b.0 c.messages.invariant.hearing b.1 b.2 (λ m e. sym e ∙ c.in-Some.is)

pub returns-in-Some-clause-serial : goal.returns-in-Some-clause-serial
returns-in-Some-clause-serial g c =
    let t = c.in_ok-asked.ensures.brings.2 in
    serial_above t.message t.text c.in-Some.begin t.form (sym c.in-Some.is ∙ t.told_is)

pub returns-in-Some-clause-faults : goal.returns-in-Some-clause-faults
returns-in-Some-clause-faults g c = c.in_ok-asked.ensures.faults ∙ c.messages.invariant.quiet

pub returns-in-Some-clause-origin : goal.returns-in-Some-clause-origin
returns-in-Some-clause-origin g c = c.in_ok-asked.ensures.same ∙ c.messages.invariant.same

pub messages-smaller : goal.messages-smaller
messages-smaller g c = omega (arith, c.in_ok-asked.ensures.fewer)

pub messages-preserved : goal.messages-preserved
messages-preserved g c =
    let b = c.in_ok-asked.ensures.brings in
    record {
      hearing = hearing_more begin_of _ _ _ _ _ _ begin_of c.in_ok-asked.asked b.0 c.messages.invariant.hearing b.1 b.2 (λ m e. sym e ∙ c.in_default.is);
      quiet = c.in_ok-asked.ensures.faults ∙ c.messages.invariant.quiet;
      same = c.in_ok-asked.ensures.same ∙ c.messages.invariant.same;
    }
