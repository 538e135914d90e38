use Rattle.std.proofs.Common.{◌≡◌, sym, subst, None}
use Rattle.std.specs.Prelude.{IfOk}
use Rattle.authority_model.specs.declared.event.Event.{Event}
use Rattle.authority_model.specs.Answers.{answers}
use Rattle.entry_changes.specs.Changes.{entry_change}
use Rattle.event_answers.proofs.events.answer.Goals as goal

pub returns-in-AgentError-clause-outputs : goal.returns-in-AgentError-clause-outputs
returns-in-AgentError-clause-outputs g c =
    let at = c.args.occasion in
    λ past is. subst (λ (e : Event). IfOk c.answer_error.result (λ a. a.outputs ≡ answers past c.args.caller at.moment at.salt e None)) (sym c.in-AgentError.is) (c.answer_error.ensures.outputs at past is)

pub returns-in-AgentError-clause-change : goal.returns-in-AgentError-clause-change
returns-in-AgentError-clause-change g c =
    let at = c.args.occasion in
    λ past is. subst (λ (e : Event). IfOk c.answer_error.result (λ a. a.change ≡ entry_change past c.args.caller at.moment at.salt e None)) (sym c.in-AgentError.is) (c.answer_error.ensures.change at past is)

pub returns-in-Depart-clause-outputs : goal.returns-in-Depart-clause-outputs
returns-in-Depart-clause-outputs g c =
    let at = c.args.occasion in
    λ past is. subst (λ (e : Event). IfOk c.depart.result (λ a. a.outputs ≡ answers past c.args.caller at.moment at.salt e None)) (sym c.in-Depart.is) (c.depart.ensures.outputs at past is)

pub returns-in-Depart-clause-change : goal.returns-in-Depart-clause-change
returns-in-Depart-clause-change g c =
    let at = c.args.occasion in
    λ past is. subst (λ (e : Event). IfOk c.depart.result (λ a. a.change ≡ entry_change past c.args.caller at.moment at.salt e None)) (sym c.in-Depart.is) (c.depart.ensures.change at past is)
