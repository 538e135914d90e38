-- What follows where a subject is known and the caller may speak for it, and where it is refused.
use Rattle.std.proofs.Common.{◌≡◌, ℕ, Bool, true, false, List, Option, Some, None, Ok, Err, refl, sym, ap, ◌∙◌}
use Rattle.std.specs.Prelude.{if◌then◌else◌}
use Rattle.std.specs.Option.{option_map_or}
use Rattle.pk_types.specs.declared.values.Subject.{Subject}
use Rattle.entry_changes.specs.declared.change.AgentChange.{AgentChange}
use Rattle.entry_changes.specs.declared.change.GrantChange.{GrantChange}
use Rattle.entry_changes.specs.declared.change.ChallengeChange.{ChallengeChange}
use Rattle.authority_model.specs.declared.event.Call.{Call}
use Rattle.authority_model.specs.declared.journal.Item.{Item}
use Rattle.authority_model.specs.declared.message.Answer.{Answer}
use Rattle.authority_model.specs.declared.message.ErrorCause.{ErrorCause}
use Rattle.authority_model.specs.declared.message.Output.{Output}
use Rattle.authority_model.specs.declared.pending.Agent.{Agent}
use Rattle.authority_model.specs.Agents.{agent_of, in_force}
use Rattle.authority_model.specs.Answers.{for_known, refuse}
use Rattle.entry_changes.specs.Changes.{where_known, is_own, closing_at, registering, unregistering}
use Rattle.authority_model.specs.Facts.{Facts}
use Rattle.authority_model.specs.Peers.{may_for}
use Rattle.authority_model.specs.Subjects.{facts}
use Rattle.authority_model.specs.Words.{Bytes}
use Rattle.event_answers.specs.Asked.{permitted, call_change, of_agents, of_grants, unchanged, unregistering_at}
use Rattle.event_answers.specs.declared.asking.Asking.{Asking}

-- what follows, of outputs as of changes
choose : {A : Type 0} (past : List Item) (c : ℕ) (subject : Subject) (f : Facts) (follow : Facts → A) (unknown other : A) → permitted past c subject ≡ Ok f → option_map_or (λ f. if may_for past c f.uid then follow f else other) (facts past subject) unknown ≡ follow f
choose {A} past c subject f follow unknown other = of (facts past subject)
  where
    of : (o : Option Facts) → option_map_or (λ f. if may_for past c f.uid then Ok f else Err ErrorCause.NotYours) o (Err ErrorCause.UnknownSubject) ≡ Ok f → option_map_or (λ f. if may_for past c f.uid then follow f else other) o unknown ≡ follow f
    of None e = absurd (cc)
    of (Some g) e = go (may_for past c g.uid) e
      where
        go : (b : Bool) → (if b then Ok g else Err ErrorCause.NotYours) ≡ Ok f → (if b then follow g else other) ≡ follow f
        go true e = let same : g ≡ f = cc e in ap follow same
        go false e = absurd (cc)

-- what follows where it is refused, by its cause
refused : {A : Type 0} (past : List Item) (c : ℕ) (subject : Subject) (cause : ErrorCause) (follow : Facts → A) (by : ErrorCause → A) → permitted past c subject ≡ Err cause → option_map_or (λ f. if may_for past c f.uid then follow f else by ErrorCause.NotYours) (facts past subject) (by ErrorCause.UnknownSubject) ≡ by cause
refused {A} past c subject cause follow by = of (facts past subject)
  where
    of : (o : Option Facts) → option_map_or (λ f. if may_for past c f.uid then Ok f else Err ErrorCause.NotYours) o (Err ErrorCause.UnknownSubject) ≡ Err cause → option_map_or (λ f. if may_for past c f.uid then follow f else by ErrorCause.NotYours) o (by ErrorCause.UnknownSubject) ≡ by cause
    of None e = let same : ErrorCause.UnknownSubject ≡ cause = cc e in ap by same
    of (Some g) e = go (may_for past c g.uid) e
      where
        go : (b : Bool) → (if b then Ok g else Err ErrorCause.NotYours) ≡ Err cause → (if b then follow g else by ErrorCause.NotYours) ≡ by cause
        go true e = absurd (cc)
        go false e = let same : ErrorCause.NotYours ≡ cause = cc e in ap by same

-- of outputs
pub known_then : (past : List Item) (c : ℕ) (subject : Subject) (say : Answer → List Output) (f : Facts) (follow : Facts → List Output) → permitted past c subject ≡ Ok f → for_known past c subject say follow ≡ follow f
known_then past c subject say f follow e = choose past c subject f follow (refuse say ErrorCause.UnknownSubject) (refuse say ErrorCause.NotYours) e

pub known_else : (past : List Item) (c : ℕ) (subject : Subject) (say : Answer → List Output) (cause : ErrorCause) (follow : Facts → List Output) → permitted past c subject ≡ Err cause → for_known past c subject say follow ≡ refuse say cause
known_else past c subject say cause follow e = refused past c subject cause follow (refuse say) e

-- of changes
pub where_then : {A : Type 0} (past : List Item) (c : ℕ) (subject : Subject) (f : Facts) (nothing : A) (follow : Facts → A) → permitted past c subject ≡ Ok f → where_known past c subject nothing follow ≡ follow f
where_then past c subject f nothing follow e = choose past c subject f follow nothing nothing e

pub where_else : {A : Type 0} (past : List Item) (c : ℕ) (subject : Subject) (cause : ErrorCause) (nothing : A) (follow : Facts → A) → permitted past c subject ≡ Err cause → where_known past c subject nothing follow ≡ nothing
where_else past c subject cause nothing follow e = refused past c subject cause follow (λ _. nothing) e

module _ (past : List Item) (x : Asking) (subject : Subject) where
  -- what a Register changes
  pub register_change : (locale path : Bytes) (f : Facts) → permitted past x.to.caller subject ≡ Ok f → of_agents (registering past x.to.caller locale path f) ≡ call_change past x (Call.Register subject locale path)
  register_change locale path f e = ap of_agents (sym (where_then past x.to.caller subject f AgentChange.Keep (registering past x.to.caller locale path) e))

  pub register_refused : (locale path : Bytes) (cause : ErrorCause) → permitted past x.to.caller subject ≡ Err cause → unchanged ≡ call_change past x (Call.Register subject locale path)
  register_refused locale path cause e = ap of_agents (sym (where_else past x.to.caller subject cause AgentChange.Keep (registering past x.to.caller locale path) e))

  -- what a RevokeAll changes
  pub revoke_change : (f : Facts) → permitted past x.to.caller subject ≡ Ok f → of_grants (GrantChange.EndKey f.key) ≡ call_change past x (Call.RevokeAll subject)
  revoke_change f e = ap of_grants (sym (where_then past x.to.caller subject f GrantChange.Keep (λ f. GrantChange.EndKey f.key) e))

  pub revoke_refused : (cause : ErrorCause) → permitted past x.to.caller subject ≡ Err cause → unchanged ≡ call_change past x (Call.RevokeAll subject)
  revoke_refused cause e = ap of_grants (sym (where_else past x.to.caller subject cause GrantChange.Keep (λ f. GrantChange.EndKey f.key) e))

  -- what an Unregister changes
  by_agent : (path : Bytes) (f : Facts) (o : Option Agent) → option_map_or (unregistering_at past x.to.caller path f) o unchanged ≡ record { agent = option_map_or (λ a. if is_own x.to.caller path a then AgentChange.Drop f.key else AgentChange.Keep) o AgentChange.Keep; grant = GrantChange.Keep; challenge = option_map_or (closing_at past x.to.caller path f) o ChallengeChange.Keep }
  by_agent path f None = refl
  by_agent path f (Some a) = refl

  pub unregister_change : (path : Bytes) (f : Facts) → permitted past x.to.caller subject ≡ Ok f → option_map_or (unregistering_at past x.to.caller path f) (agent_of f.key (in_force past)) unchanged ≡ call_change past x (Call.Unregister subject path)
  unregister_change path f e =
      by_agent path f (agent_of f.key (in_force past))
      ∙ ap (λ (a : AgentChange). record { agent = a; grant = GrantChange.Keep; challenge = option_map_or (closing_at past x.to.caller path f) (agent_of f.key (in_force past)) ChallengeChange.Keep }) (sym (where_then past x.to.caller subject f AgentChange.Keep (unregistering past x.to.caller path) e))
      ∙ ap (λ (ch : ChallengeChange). record { agent = where_known past x.to.caller subject AgentChange.Keep (unregistering past x.to.caller path); grant = GrantChange.Keep; challenge = ch }) (sym (where_then past x.to.caller subject f ChallengeChange.Keep (λ f. option_map_or (closing_at past x.to.caller path f) (agent_of f.key (in_force past)) ChallengeChange.Keep) e))

  pub unregister_refused : (path : Bytes) (cause : ErrorCause) → permitted past x.to.caller subject ≡ Err cause → unchanged ≡ call_change past x (Call.Unregister subject path)
  unregister_refused path cause e =
      ap (λ (a : AgentChange). record { agent = a; grant = GrantChange.Keep; challenge = ChallengeChange.Keep }) (sym (where_else past x.to.caller subject cause AgentChange.Keep (unregistering past x.to.caller path) e))
      ∙ ap (λ (ch : ChallengeChange). record { agent = where_known past x.to.caller subject AgentChange.Keep (unregistering past x.to.caller path); grant = GrantChange.Keep; challenge = ch }) (sym (where_else past x.to.caller subject cause ChallengeChange.Keep (λ f. option_map_or (closing_at past x.to.caller path f) (agent_of f.key (in_force past)) ChallengeChange.Keep) e))
