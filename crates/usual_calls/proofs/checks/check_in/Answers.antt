use Rattle.std.proofs.Common.{◌≡◌, rules, refl, subst}
use Rattle.std.specs.Prelude.{IfSome}
use Rattle.usual_calls.specs.Forms.{BeginsWithSubject}
use Rattle.usual_calls.proofs.Forms.{is_body}
use Rattle.usual_calls.proofs.checks.check_in.Goals as goal

pub returns : goal.returns
returns c =
    let begins : BeginsWithSubject c.in-Some.subject c.args.body.now c.in-Some.rest.now = subst (λ o. IfSome o (λ x. BeginsWithSubject x.0 c.args.body.now x.1.now)) c.in-Some.is c.in_ok-subject.ensures.subject in
    let action : c.in-Some-2.action ≡ c.in-Some-asked_from.action.now = subst (λ o. IfSome o (λ text. text ≡ c.in-Some-asked_from.action.now)) c.in-Some-2.is c.in_ok-action.ensures.text in
    let cancel : c.in-Some-3.cancel ≡ c.in-Some-asked_from.cancel.now = subst (λ o. IfSome o (λ text. text ≡ c.in-Some-asked_from.cancel.now)) c.in-Some-3.is c.in_ok-cancel.ensures.text in
    record { check = is_body c.in-Some.subject c.in-Some-2.action c.in-Some-3.cancel c.in-Some-asked_from.action.now c.in-Some-asked_from.cancel.now c.new.result c.in-Some-asked_from.flags _ c.args.body.now c.in-Some.rest.now begins refl c.in-Some-asked_from.ensures.asked action cancel (search rules) c.new.ensures.empty c.in-Some-asked_from.ensures.flags (search rules) }
