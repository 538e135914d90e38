use Rattle.std.proofs.Common.{◌≡◌, sym, subst, List}
use Rattle.std.specs.Prelude.{IfOk}
use Rattle.authority_model.specs.declared.message.Answer.{Answer}
use Rattle.authority_model.specs.declared.message.Output.{Output}
use Rattle.authority_model.specs.Answers.{live_grants}
use Rattle.event_answers.proofs.Permitted.{known_then, known_else}
use Rattle.authority_model.specs.Facts.{facts_seen}
use Rattle.event_answers.specs.Asked.{reply_of}
use Rattle.event_answers.proofs.granting.enumerate_grants.Goals as goal

pub returns-in-Ok : goal.returns-in-Ok
returns-in-Ok g c =
    let x = c.args.asking in
    record {
      outputs = λ past is. subst (λ (ys : List Output). IfOk c.enumerate_for.result (λ a. a.outputs ≡ ys)) (sym (known_then past x.to.caller c.args.subject.now (reply_of x.to) (facts_seen c.in-Ok.facts) (λ f. reply_of x.to (Answer.Grants (live_grants past x.occasion.moment f.key))) (c.in-Ok.ensures.facts past is))) (c.enumerate_for.ensures.outputs past is);
      change = c.enumerate_for.ensures.change;
    }

pub returns-in-Err : goal.returns-in-Err
returns-in-Err g c =
    let x = c.args.asking in
    record {
      outputs = λ past is. subst (λ (ys : List Output). IfOk c.refuse.result (λ a. a.outputs ≡ ys)) (sym (known_else past x.to.caller c.args.subject.now (reply_of x.to) c.in-Err.cause (λ f. reply_of x.to (Answer.Grants (live_grants past x.occasion.moment f.key))) (c.in-Err.ensures.facts past is))) c.refuse.ensures.outputs;
      change = c.refuse.ensures.change;
    }
