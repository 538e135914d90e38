use Rattle.std.proofs.Common.{◌≡◌, ◌==◌, ◌&&◌, ◌∙◌, ap, subst, Bool, List}
use Rattle.std.specs.Prelude.{IfOk, filter, flat_map}
use Rattle.entry_changes.specs.declared.change.ChallengeChange.{ChallengeChange}
use Rattle.authority_model.specs.declared.message.Output.{Output}
use Rattle.authority_model.specs.declared.pending.Pending.{Pending}
use Rattle.authority_model.specs.Answers.{reply_agent_gone}
use Rattle.entry_changes.specs.Changes.{close_all}
use Rattle.authority_model.specs.Keys.{same_key, key_seen}
use Rattle.event_answers.specs.Endings.{closing}
use Rattle.event_answers.proofs.Walking.{filtered}
use Rattle.event_answers.proofs.ending.end_at.Goals as goal

pub returns : goal.returns
returns g c =
    let at : Pending → Bool = λ ch. (ch.agent == c.args.caller) && same_key ch.agent_key (key_seen c.args.key) in
    record {
      outputs = λ past is. subst (λ (ys : List Output). IfOk c.end_all.result (λ e. e.outputs ≡ ys)) (filtered at reply_agent_gone (g.V.JournalView.seen c.args.view.now).challenges ∙ ap (λ rows. flat_map reply_agent_gone (filter at rows)) is.challenges_are) c.end_all.ensures.outputs;
      closed = λ past is. subst (λ (ch : ChallengeChange). IfOk c.end_all.result (λ e. closing e.places ≡ ch)) (ap (λ rows. close_all (filter at rows)) is.challenges_are) c.end_all.ensures.closed;
    }
