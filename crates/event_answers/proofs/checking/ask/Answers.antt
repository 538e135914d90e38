use Rattle.std.proofs.Common.{ap, sym, ◌∙◌, ◌∷◌, [], Option, ℕ}
use Rattle.std.specs.Prelude.{option_map}
use Rattle.authority_model.specs.declared.message.Message.{Message}
use Rattle.authority_model.specs.declared.pending.Pending.{Pending}
use Rattle.entry_changes.specs.declared.change.ChallengeChange.{ChallengeChange}
use Rattle.entry_changes.specs.Changes.{begun_next, challenge_opened}
use Rattle.authority_model.specs.Challenges.{Begun}
use Rattle.authority_model.specs.Facts.{facts_seen}
use Rattle.event_answers.specs.Asked.{of_challenges}
use Rattle.event_answers.specs.Checks.{begun_if, question_of, text_shown}
use Rattle.event_answers.proofs.Callers.{uid_is}
use Rattle.event_answers.proofs.checking.ask.Goals as goal

pub returns-clause-outputs : goal.returns-clause-outputs
returns-clause-outputs g c = λ past is.
    let a = c.args.action.now in
    let agent = c.args.agent.now in
    let message : Begun → Message = λ b. Message.Begin agent.path a.id (text_shown a agent) a.icon c.args.check.now.details.now b.cookie b.identities in
    c.in_ok-outputs.ensures.begin ∙ ap (λ (b : Begun). record { to = agent.caller; message = message b } ∷ []) (c.in_ok-begun.ensures.begun past is.seen)

pub returns-clause-change : goal.returns-clause-change
returns-clause-change g c = λ past is.
    let check = c.args.check.now in
    let x = check.asking in
    let f = facts_seen c.args.facts in
    let opened : Begun → Pending = λ b. challenge_opened past x.to.caller (question_of check) b f c.args.value c.args.agent.now x.peer.uid in
    let next = begun_next past x.occasion.salt f c.args.value.0 in
    c.challenges_changed.ensures.change
    ∙ ap (λ (row : Pending). of_challenges (ChallengeChange.Begun row)) (c.in_ok-row.ensures.row past is.seen ∙ ap opened (c.in_ok-begun.ensures.begun past is.seen))
    ∙ sym (ap (λ (o : Option ℕ). begun_if (option_map (challenge_opened past x.to.caller (question_of check) next f c.args.value c.args.agent.now) o)) (uid_is past x.to.caller x.peer is.caller))
