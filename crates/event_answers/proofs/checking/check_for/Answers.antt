use Rattle.std.proofs.Common.{◌≡◌, [], ◌∙◌, ap, sym, subst, List, Option, None}
use Rattle.std.specs.Prelude.{if◌then◌else◌, option_and_then, IfOk}
use Rattle.std.specs.Option.{option_map_or}
use Rattle.entry_changes.specs.declared.change.EntryChange.{EntryChange}
use Rattle.authority_model.specs.declared.message.ErrorCause.{ErrorCause}
use Rattle.authority_model.specs.declared.message.Output.{Output}
use Rattle.authority_model.specs.declared.pending.Pending.{Pending}
use Rattle.authority_model.specs.Answers.{refuse, tell}
use Rattle.authority_model.specs.Deciding.{Decision, decided}
use Rattle.authority_model.specs.Facts.{facts_seen}
use Rattle.authority_model.specs.Grants.{kept}
use Rattle.authority_model.specs.Items.{implicit_for}
use Rattle.check_decision.specs.DecisionRef.{decision_seen}
use Rattle.event_answers.specs.Asked.{reply_of}
use Rattle.event_answers.specs.Checks.{begun_if, opened_told}
use Rattle.event_answers.proofs.Openings.{told_by, then_by}
use Rattle.event_answers.proofs.checking.check_for.Goals as goal

pub returns-in-Some : goal.returns-in-Some
returns-in-Some g c =
    let check = c.args.check.now in
    let x = check.asking in
    let t = x.occasion.moment in
    let f = facts_seen c.args.facts in
    let say = reply_of x.to in
    let d = decision_seen c.in-Some.decision in
    record {
      outputs = λ past is known.
          let by : Decision → List Output = tell past x.to.caller x.occasion.salt f c.args.action.now check.details.now check.flags say in
          let rest : List Output = option_map_or (λ v. by (decided past (kept past) f t check.action.now v)) (implicit_for past f check.action.now) [] in
          let told : by d ≡ rest = told_by (decided past (kept past) f t check.action.now) by (implicit_for past f check.action.now) d [] (c.in-Some.ensures.decision past is.seen) in
          let trusts = sym c.if-not-trusts.false ∙ c.trusts.ensures.trusts past is known in
          subst (λ (ys : List Output). IfOk c.tell.result (λ a. a.outputs ≡ ys)) (told ∙ ap (λ b. if b then rest else refuse say ErrorCause.NotTrusted) trusts) (c.tell.ensures.outputs past is);
      change = λ past is known.
          let rest : Option Pending = option_and_then (λ v. opened_told f (decided past (kept past) f t check.action.now v) past check) (implicit_for past f check.action.now) in
          let told : opened_told f d past check ≡ rest = then_by (decided past (kept past) f t check.action.now) (λ d. opened_told f d past check) (implicit_for past f check.action.now) d (c.in-Some.ensures.decision past is.seen) in
          let trusts = sym c.if-not-trusts.false ∙ c.trusts.ensures.trusts past is known in
          subst (λ (ch : EntryChange). IfOk c.tell.result (λ a. a.change ≡ ch)) (ap begun_if (told ∙ ap (λ b. if b then rest else None) trusts)) (c.tell.ensures.change past is);
    }
