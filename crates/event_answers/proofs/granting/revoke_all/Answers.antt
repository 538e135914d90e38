use Rattle.std.proofs.Common.{◌≡◌, ◌++◌, [], sym, subst, List}
use Rattle.std.specs.Prelude.{IfOk, if◌then◌else◌}
use Rattle.entry_changes.specs.declared.change.EntryChange.{EntryChange}
use Rattle.authority_model.specs.declared.message.Answer.{Answer}
use Rattle.authority_model.specs.declared.message.Output.{Output}
use Rattle.authority_model.specs.Answers.{changed}
use Rattle.authority_model.specs.Grants.{kept}
use Rattle.authority_model.specs.Lists.{any_of}
use Rattle.event_answers.specs.Asked.{is_live_for}
use Rattle.event_answers.proofs.Permitted.{known_then, known_else, revoke_change, revoke_refused}
use Rattle.authority_model.specs.Facts.{facts_seen}
use Rattle.event_answers.specs.Asked.{reply_of}
use Rattle.event_answers.proofs.granting.revoke_all.Goals as goal

pub returns-in-Ok : goal.returns-in-Ok
returns-in-Ok g c =
    let x = c.args.asking in
    record {
      outputs = λ past is. subst (λ (ys : List Output). IfOk c.revoke_all_for.result (λ a. a.outputs ≡ ys)) (sym (known_then past x.to.caller c.args.subject.now (reply_of x.to) (facts_seen c.in-Ok.facts) (λ f. reply_of x.to Answer.Done ++ (if any_of (is_live_for f.key x.occasion.moment) (kept past) then changed past else [])) (c.in-Ok.ensures.facts past is))) (c.revoke_all_for.ensures.outputs past is);
      change = λ past is. subst (λ (ch : EntryChange). IfOk c.revoke_all_for.result (λ a. a.change ≡ ch)) (revoke_change past x c.args.subject.now (facts_seen c.in-Ok.facts) (c.in-Ok.ensures.facts past is)) c.revoke_all_for.ensures.change;
    }

pub returns-in-Err : goal.returns-in-Err
returns-in-Err g c =
    let x = c.args.asking in
    record {
      outputs = λ past is. subst (λ (ys : List Output). IfOk c.refuse.result (λ a. a.outputs ≡ ys)) (sym (known_else past x.to.caller c.args.subject.now (reply_of x.to) c.in-Err.cause (λ f. reply_of x.to Answer.Done ++ (if any_of (is_live_for f.key x.occasion.moment) (kept past) then changed past else [])) (c.in-Err.ensures.facts past is))) c.refuse.ensures.outputs;
      change = λ past is. subst (λ (ch : EntryChange). IfOk c.refuse.result (λ a. a.change ≡ ch)) (revoke_refused past x c.args.subject.now c.in-Err.cause (c.in-Err.ensures.facts past is)) c.refuse.ensures.change;
    }
