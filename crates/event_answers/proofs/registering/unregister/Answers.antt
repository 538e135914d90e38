use Rattle.std.proofs.Common.{◌≡◌, sym, subst, List}
use Rattle.std.specs.Prelude.{IfOk}
use Rattle.std.specs.Option.{option_map_or}
use Rattle.entry_changes.specs.declared.change.EntryChange.{EntryChange}
use Rattle.authority_model.specs.declared.message.ErrorCause.{ErrorCause}
use Rattle.authority_model.specs.declared.message.Output.{Output}
use Rattle.authority_model.specs.Agents.{agent_of, in_force}
use Rattle.authority_model.specs.Answers.{refuse, answer_unregister}
use Rattle.event_answers.proofs.Permitted.{known_then, known_else, unregister_change, unregister_refused}
use Rattle.authority_model.specs.Facts.{facts_seen}
use Rattle.event_answers.specs.Asked.{reply_of}
use Rattle.event_answers.proofs.registering.unregister.Goals as goal

pub returns-in-Ok : goal.returns-in-Ok
returns-in-Ok g c =
    let x = c.args.asking in
    record {
      outputs = λ past is. subst (λ (ys : List Output). IfOk c.unregister_for.result (λ a. a.outputs ≡ ys)) (sym (known_then past x.to.caller c.args.subject.now (reply_of x.to) (facts_seen c.in-Ok.facts) (λ f. option_map_or (answer_unregister past x.to.caller c.args.path.now (reply_of x.to) f) (agent_of f.key (in_force past)) (refuse (reply_of x.to) ErrorCause.NoSuchAgent)) (c.in-Ok.ensures.facts past is))) (c.unregister_for.ensures.outputs past is);
      change = λ past is. subst (λ (ch : EntryChange). IfOk c.unregister_for.result (λ a. a.change ≡ ch)) (unregister_change past x c.args.subject.now c.args.path.now (facts_seen c.in-Ok.facts) (c.in-Ok.ensures.facts past is)) (c.unregister_for.ensures.change past is);
    }

pub returns-in-Err : goal.returns-in-Err
returns-in-Err g c =
    let x = c.args.asking in
    record {
      outputs = λ past is. subst (λ (ys : List Output). IfOk c.refuse.result (λ a. a.outputs ≡ ys)) (sym (known_else past x.to.caller c.args.subject.now (reply_of x.to) c.in-Err.cause (λ f. option_map_or (answer_unregister past x.to.caller c.args.path.now (reply_of x.to) f) (agent_of f.key (in_force past)) (refuse (reply_of x.to) ErrorCause.NoSuchAgent)) (c.in-Err.ensures.facts past is))) c.refuse.ensures.outputs;
      change = λ past is. subst (λ (ch : EntryChange). IfOk c.refuse.result (λ a. a.change ≡ ch)) (unregister_refused past x c.args.subject.now c.args.path.now c.in-Err.cause (c.in-Err.ensures.facts past is)) c.refuse.ensures.change;
    }
