-- The next message is passed over, or ends the wait.
use Rattle.std.proofs.Common.{◌≡◌, ◌∙◌, sym, ap, refl, Bool, Result, Some, None, Err, arith}
use Rattle.client_messages.specs.declared.answer.ClientAnswer.{ClientAnswer}
use Rattle.client_messages.specs.Answers.{answer_of}
use Rattle.client_link.specs.declared.stop.LinkStop.{LinkStop}
use Rattle.client_link.specs.Faults.{faults_after}
use Rattle.script_agent.specs.Waits.{Hears, refusal_in, refusal_of}
use Rattle.script_agent.proofs.Fronts.{err_along}
use Rattle.script_agent.proofs.Hearings.{hearing_first, hearing_found, hearing_more, hearing_stop}
use Rattle.script_agent.proofs.Moves.{faults_err}
use Rattle.script_agent.proofs.waiting.await_refusal.Goals as goal

pub messages-init : goal.messages-init
messages-init g c = record { hearing = hearing_first _ _ _; quiet = refl; same = refl }

pub returns-in_err-answer-clause-hears : goal.returns-in_err-answer-clause-hears
returns-in_err-answer-clause-hears g c =
    let P : Result Bool LinkStop → Type 0 = λ r. Hears (refusal_of c.args.serial) (g.I.Source.left c.args.source.now) (g.I.Source.left c.next_answer.new.source) (g.I.Source.ended c.next_answer.new.source) c.args.buffer.now c.next_answer.new.buffer r in
    let b = c.in_err-answer.ensures.brings in
    err_along P c.from_residual.result c.in_err-answer.field-0.0 c.from_residual.ensures.1 (hearing_stop (refusal_of c.args.serial) _ _ _ _ _ _ _ (answer_of c.args.serial) c.in_err-answer.field-0.0 b.0 c.messages.invariant.hearing b.1 b.2)

pub returns-in_err-answer-clause-faults : goal.returns-in_err-answer-clause-faults
returns-in_err-answer-clause-faults g c =
    let P : Result Bool LinkStop → Type 0 = λ r. g.I.Source.faults c.next_answer.new.source ≡ faults_after (g.I.Source.faults c.args.source.now) r in
    err_along P c.from_residual.result c.in_err-answer.field-0.0 c.from_residual.ensures.1 (faults_err ClientAnswer Bool _ _ _ c.in_err-answer.field-0.0 c.in_err-answer.ensures.faults c.messages.invariant.quiet)

pub returns-in_err-answer-clause-origin : goal.returns-in_err-answer-clause-origin
returns-in_err-answer-clause-origin g c = c.in_err-answer.ensures.same ∙ c.messages.invariant.same

pub returns-in-Some-clause-hears : goal.returns-in-Some-clause-hears
returns-in-Some-clause-hears g c =
    let b = c.in_ok-answer.ensures.brings in
    hearing_found (refusal_of c.args.serial) _ _ _ _ _ _ _ (answer_of c.args.serial) c.in_ok-answer.answer c.in-Some.refused b.0 c.messages.invariant.hearing b.1 b.2 (λ m e. ap refusal_in (sym e) ∙ sym c.in-Some.ensures.refusal)

pub returns-in-Some-clause-faults : goal.returns-in-Some-clause-faults
returns-in-Some-clause-faults g c = c.in_ok-answer.ensures.faults ∙ c.messages.invariant.quiet

pub returns-in-Some-clause-origin : goal.returns-in-Some-clause-origin
returns-in-Some-clause-origin g c = c.in_ok-answer.ensures.same ∙ c.messages.invariant.same

pub messages-smaller : goal.messages-smaller
messages-smaller g c = omega (arith, c.in_ok-answer.ensures.fewer)

pub messages-preserved : goal.messages-preserved
messages-preserved g c =
    let b = c.in_ok-answer.ensures.brings in
    let none : refusal_in c.in_ok-answer.answer ≡ None = sym c.in_default.ensures.refusal in
    record {
      hearing = hearing_more (refusal_of c.args.serial) _ _ _ _ _ _ (answer_of c.args.serial) c.in_ok-answer.answer b.0 c.messages.invariant.hearing b.1 b.2 (λ m e. ap refusal_in (sym e) ∙ none);
      quiet = c.in_ok-answer.ensures.faults ∙ c.messages.invariant.quiet;
      same = c.in_ok-answer.ensures.same ∙ c.messages.invariant.same;
    }

pub messages-smaller-in_default : goal.messages-smaller-in_default
messages-smaller-in_default g c = omega (arith, c.in_ok-answer.ensures.fewer)

pub messages-preserved-in_default : goal.messages-preserved-in_default
messages-preserved-in_default g c =
    let b = c.in_ok-answer.ensures.brings in
    let none : refusal_in c.in_ok-answer.answer ≡ None = sym c.in_default.ensures.refusal in
    record {
      hearing = hearing_more (refusal_of c.args.serial) _ _ _ _ _ _ (answer_of c.args.serial) c.in_ok-answer.answer b.0 c.messages.invariant.hearing b.1 b.2 (λ m e. ap refusal_in (sym e) ∙ none);
      quiet = c.in_ok-answer.ensures.faults ∙ c.messages.invariant.quiet;
      same = c.in_ok-answer.ensures.same ∙ c.messages.invariant.same;
    }

pub messages-smaller-in_default-2 : goal.messages-smaller-in_default-2
messages-smaller-in_default-2 g c = omega (arith, c.in_ok-answer.ensures.fewer)

pub messages-preserved-in_default-2 : goal.messages-preserved-in_default-2
messages-preserved-in_default-2 g c =
    let b = c.in_ok-answer.ensures.brings in
    let none : refusal_in c.in_ok-answer.answer ≡ None = sym c.in_default.ensures.refusal in
    record {
      hearing = hearing_more (refusal_of c.args.serial) _ _ _ _ _ _ (answer_of c.args.serial) c.in_ok-answer.answer b.0 c.messages.invariant.hearing b.1 b.2 (λ m e. ap refusal_in (sym e) ∙ none);
      quiet = c.in_ok-answer.ensures.faults ∙ c.messages.invariant.quiet;
      same = c.in_ok-answer.ensures.same ∙ c.messages.invariant.same;
    }

pub messages-smaller-in_default-3 : goal.messages-smaller-in_default-3
messages-smaller-in_default-3 g c = omega (arith, c.in_ok-answer.ensures.fewer)

pub messages-preserved-in_default-3 : goal.messages-preserved-in_default-3
messages-preserved-in_default-3 g c =
    let b = c.in_ok-answer.ensures.brings in
    let none : refusal_in c.in_ok-answer.answer ≡ None = sym c.in_default.ensures.refusal in
    record {
      hearing = hearing_more (refusal_of c.args.serial) _ _ _ _ _ _ (answer_of c.args.serial) c.in_ok-answer.answer b.0 c.messages.invariant.hearing b.1 b.2 (λ m e. ap refusal_in (sym e) ∙ none);
      quiet = c.in_ok-answer.ensures.faults ∙ c.messages.invariant.quiet;
      same = c.in_ok-answer.ensures.same ∙ c.messages.invariant.same;
    }
