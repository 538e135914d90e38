use Rattle.std.proofs.Common.{◌≡◌, sym, subst}
use Rattle.std.specs.Prelude.{IfOk}
use Rattle.authority_model.specs.declared.event.Call.{Call}
use Rattle.event_answers.specs.Asked.{call_change}
use Rattle.event_answers.proofs.calls.answer_call.Goals as goal

pub returns-in-Announce-clause-change : goal.returns-in-Announce-clause-change
returns-in-Announce-clause-change g c = λ past is. subst (λ (call : Call). IfOk c.announce.result (λ a. a.change ≡ call_change past c.args.asking call)) (sym c.in-Announce.is) c.announce.ensures.change

pub returns-in-EnumerateActions-clause-change : goal.returns-in-EnumerateActions-clause-change
returns-in-EnumerateActions-clause-change g c = λ past is. subst (λ (call : Call). IfOk c.enumerate_actions.result (λ a. a.change ≡ call_change past c.args.asking call)) (sym c.in-EnumerateActions.is) c.enumerate_actions.ensures.change

pub returns-in-EnumerateGrants-clause-change : goal.returns-in-EnumerateGrants-clause-change
returns-in-EnumerateGrants-clause-change g c = λ past is. subst (λ (call : Call). IfOk c.enumerate_grants.result (λ a. a.change ≡ call_change past c.args.asking call)) (sym c.in-EnumerateGrants.is) c.enumerate_grants.ensures.change

pub returns-in-Reload-clause-change : goal.returns-in-Reload-clause-change
returns-in-Reload-clause-change g c = λ past is. subst (λ (call : Call). IfOk c.reload.result (λ a. a.change ≡ call_change past c.args.asking call)) (sym c.in-Reload.is) c.reload.ensures.change
