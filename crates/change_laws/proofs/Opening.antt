-- The challenge that an item's outputs tell of is the one that its event opens.
use Rattle.std.proofs.Common.{◌≡◌, ℕ, ◌==◌, Bool, true, false, ◌||◌, List, [], ◌∷◌, refl, ap, ◌∙◌, Option, Some, None, is_some}
use Rattle.std.specs.Prelude.{not, nat_le, if◌then◌else◌, option_map, option_and_then}
use Rattle.std.specs.Option.{option_map_or}
use Rattle.pk_types.specs.declared.values.Pair.{Pair}
use Rattle.pk_types.specs.declared.values.Implicit.{Implicit}
use Rattle.authority_model.specs.declared.event.Call.{Call}
use Rattle.authority_model.specs.declared.event.Event.{Event}
use Rattle.authority_model.specs.declared.event.Event.TheVariants.{Call as Called}
use Rattle.authority_model.specs.declared.journal.Item.{Item}
use Rattle.authority_model.specs.declared.message.Answer.{Answer}
use Rattle.authority_model.specs.declared.message.ErrorCause.{ErrorCause}
use Rattle.authority_model.specs.declared.message.Message.{Message}
use Rattle.authority_model.specs.declared.message.Output.{Output}
use Rattle.authority_model.specs.declared.pending.Agent.{Agent}
use Rattle.authority_model.specs.declared.pending.Pending.{Pending}
use Rattle.authority_model.specs.declared.pending.TheConstants.{MAX_PENDING}
use Rattle.authority_model.specs.declared.policy.Action.{Action}
use Rattle.authority_model.specs.declared.verdict.RuleSource.{RuleSource}
use Rattle.authority_model.specs.Steps.{◌>>=◌, guard}
use Rattle.authority_model.specs.Interaction.{allows_interaction}
use Rattle.authority_model.specs.Facts.{Facts}
use Rattle.authority_model.specs.Rules.{action_of}
use Rattle.authority_model.specs.Items.{policy_of, implicit_for}
use Rattle.authority_model.specs.Peers.{live, uid_of}
use Rattle.authority_model.specs.Subjects.{facts}
use Rattle.authority_model.specs.Agents.{agent_for}
use Rattle.authority_model.specs.Challenges.{Question, Begun, question_in, begun_in, opened, with_id, pending_beside}
use Rattle.entry_changes.specs.Changes.{challenge_opened}
use Rattle.authority_model.specs.Grants.{kept}
use Rattle.authority_model.specs.Deciding.{Decision, decided}
use Rattle.authority_model.specs.Verdicts.{verdict_of}
use Rattle.authority_model.specs.Answers.{reply, answers, answer_call, answer_check, tell, tell_challenge, ask, refuse, answer_for, answer_known}
use Rattle.entry_changes.specs.Changes.{is_challenge, begun_next, opening}
use Rattle.authority_model.specs.Trust.{trusted}
use Rattle.authority_model.specs.Legal.{Follows}
use Rattle.authority_laws.proofs.Deciding.{Backed, decided_backed}
use Rattle.authority_laws.proofs.Asking.{Silent}
use Rattle.authority_laws.proofs.Opening.{opened_at}

-- the challenge that a question's outputs tell of
abbrev told : List Item → ℕ → Question → List Output → Option Pending
told past c q outputs = do
  b ← begun_in outputs
  f ← facts past q.subject
  v ← implicit_for past f q.action
  a ← agent_for past f
  option_map (challenge_opened past c q b f v a) (uid_of past c)

-- silent outputs tell of none
told_none : (past : List Item) (c : ℕ) (q : Question) (outputs : List Output) → Silent outputs → told past c q outputs ≡ None
told_none past c q outputs silent = ap (λ (o : Option Begun). o >>= (λ b. facts past q.subject >>= (λ f. implicit_for past f q.action >>= (λ v. agent_for past f >>= (λ a. option_map (challenge_opened past c q b f v a) (uid_of past c)))))) silent

-- a reply has no Begin
reply_silent : (c serial : ℕ) (quiet : Bool) (answer : Answer) → Silent (reply c serial quiet answer)
reply_silent c serial quiet answer = by (quiet || (serial == 0))
  where
    by : (b : Bool) → Silent (if b then [] else record { to = c; message = Message.Reply serial answer } ∷ [])
    by true = refl
    by false = refl

module _ (past : List Item) (c t salt : ℕ) (q : Question) (details : List Pair) (flags : ℕ) where
  -- a reply opens nothing
  replied : (answer : Answer) → told past c q (reply c q.serial q.quiet answer) ≡ None
  replied answer = told_none past c q (reply c q.serial q.quiet answer) (reply_silent c q.serial q.quiet answer)

  -- the last steps of `opening`, from the last one back: with the agent
  abbrev with_agent : Facts → Implicit × RuleSource → Agent → Option Pending
  with_agent f v a = do
    room ← guard (not (nat_le MAX_PENDING (pending_beside past c)))
    option_map (challenge_opened past c q (let (value, source) = v in begun_next past salt f value) f v a) (uid_of past c)

  -- with the value
  abbrev with_value : Facts → Implicit × RuleSource → Option Pending
  with_value f v = do
    due ← guard (is_challenge (decided past (kept past) f t q.action v))
    wanted ← guard (allows_interaction flags)
    agent ← agent_for past f
    with_agent f v agent

  -- with the facts
  abbrev with_facts : Facts → Option Pending
  with_facts f = do
    may ← guard (trusted past c f details q.action)
    v ← implicit_for past f q.action
    with_value f v

  -- the one Begin tells of the challenge
  asked_told : (f : Facts) (v : Implicit × RuleSource) (agent : Agent) (a : Action) → facts past q.subject ≡ Some f → implicit_for past f q.action ≡ Some v → agent_for past f ≡ Some agent
      → told past c q (ask past salt f agent a v.0 details) ≡ option_map (challenge_opened past c q (begun_next past salt f v.0) f v agent) (uid_of past c)
  asked_told f v agent a known value there =
      ap (λ (o : Option Facts). o >>= (λ f'. implicit_for past f' q.action >>= (λ v'. agent_for past f' >>= (λ a'. option_map (challenge_opened past c q (begun_next past salt f v.0) f' v' a') (uid_of past c))))) known
      ∙ ap (λ (o : Option (Implicit × RuleSource)). o >>= (λ v'. agent_for past f >>= (λ a'. option_map (challenge_opened past c q (begun_next past salt f v.0) f v' a') (uid_of past c)))) value
      ∙ ap (λ (o : Option Agent). o >>= (λ a'. option_map (challenge_opened past c q (begun_next past salt f v.0) f v a') (uid_of past c))) there

  -- a challenge
  challenged : (f : Facts) (a : Action) (v : Implicit × RuleSource) → facts past q.subject ≡ Some f → implicit_for past f q.action ≡ Some v → (b : Bool) (o : Option Agent) → agent_for past f ≡ o
      → told past c q (tell_challenge past c salt f a details (reply c q.serial q.quiet) v.0 v.1 b o) ≡ (guard b >>= (λ wanted. o >>= with_agent f v))
  challenged f a v known value true (Some agent) there = by (nat_le MAX_PENDING (pending_beside past c))
    where
      by : (full : Bool) → told past c q (if full then refuse (reply c q.serial q.quiet) ErrorCause.TooManyPending else ask past salt f agent a v.0 details) ≡ (guard (not full) >>= (λ room. option_map (challenge_opened past c q (begun_next past salt f v.0) f v agent) (uid_of past c)))
      by true = replied (Answer.Refused ErrorCause.TooManyPending)
      by false = asked_told f v agent a known value there
  challenged f a v known value true None there = replied (Answer.Verdict (verdict_of past (Decision.Challenge v.0 v.1)))
  challenged f a v known value false o there = replied (Answer.Verdict (verdict_of past (Decision.Challenge v.0 v.1)))

  -- a decision
  decided_told : (f : Facts) (a : Action) (v : Implicit × RuleSource) → facts past q.subject ≡ Some f → implicit_for past f q.action ≡ Some v → (d : Decision) → Backed past f q.action t d
      → told past c q (tell past c salt f a details flags (reply c q.serial q.quiet) d) ≡ (guard (is_challenge d) >>= (λ due. guard (allows_interaction flags) >>= (λ wanted. agent_for past f >>= with_agent f v)))
  decided_told f a v known value Decision.Root h = replied (Answer.Verdict (verdict_of past Decision.Root))
  decided_told f a v known value (Decision.Yes source) h = replied (Answer.Verdict (verdict_of past (Decision.Yes source)))
  decided_told f a v known value (Decision.Granted g) h = replied (Answer.Verdict (verdict_of past (Decision.Granted g)))
  decided_told f a v known value (Decision.Imply b) h = replied (Answer.Verdict (verdict_of past (Decision.Imply b)))
  decided_told f a v known value (Decision.No source) h = replied (Answer.Verdict (verdict_of past (Decision.No source)))
  decided_told f a v known value (Decision.Challenge w source) h =
      let same : (w, source) ≡ v = cc (h.0, value) in
      ap (λ (x : Implicit × RuleSource). told past c q (tell_challenge past c salt f a details (reply c q.serial q.quiet) x.0 x.1 (allows_interaction flags) (agent_for past f))) same
      ∙ challenged f a v known value (allows_interaction flags) (agent_for past f) refl

  -- a check of a subject of these facts
  facts_told : (a : Action) (f : Facts) → facts past q.subject ≡ Some f → told past c q (answer_for past c t salt q.action details flags (reply c q.serial q.quiet) a f) ≡ with_facts f
  facts_told a f known = by (trusted past c f details q.action)
    where
      valued : (o : Option (Implicit × RuleSource)) → implicit_for past f q.action ≡ o → told past c q (option_map_or (λ v. tell past c salt f a details flags (reply c q.serial q.quiet) (decided past (kept past) f t q.action v)) o []) ≡ (o >>= with_value f)
      valued None value = refl
      valued (Some v) value = decided_told f a v known value (decided past (kept past) f t q.action v) (decided_backed past f t q.action v value)

      by : (b : Bool) → told past c q (if b then option_map_or (λ v. tell past c salt f a details flags (reply c q.serial q.quiet) (decided past (kept past) f t q.action v)) (implicit_for past f q.action) [] else refuse (reply c q.serial q.quiet) ErrorCause.NotTrusted) ≡ (guard b >>= (λ may. implicit_for past f q.action >>= with_value f))
      by true = valued (implicit_for past f q.action) refl
      by false = replied (Answer.Refused ErrorCause.NotTrusted)

  -- the outputs of a check tell of the challenge that it opens
  check_told : told past c q (answer_check past c t salt q.subject q.action details flags q.cancel (reply c q.serial q.quiet)) ≡ opening past c t salt q details flags
  check_told = by (is_some (with_id past c q.cancel))
    where
      subject : (a : Action) (o : Option Facts) → facts past q.subject ≡ o → told past c q (option_map_or (answer_for past c t salt q.action details flags (reply c q.serial q.quiet) a) o (refuse (reply c q.serial q.quiet) ErrorCause.UnknownSubject)) ≡ (o >>= with_facts)
      subject a None known = replied (Answer.Refused ErrorCause.UnknownSubject)
      subject a (Some f) known = facts_told a f known

      action : (o : Option Action) → told past c q (option_map_or (answer_known past c t salt q.subject q.action details flags (reply c q.serial q.quiet)) o (refuse (reply c q.serial q.quiet) ErrorCause.UnknownAction)) ≡ (o >>= (λ a. facts past q.subject >>= with_facts))
      action None = replied (Answer.Refused ErrorCause.UnknownAction)
      action (Some a) = subject a (facts past q.subject) refl

      by : (b : Bool) → told past c q (if b then refuse (reply c q.serial q.quiet) ErrorCause.IdInUse else option_map_or (answer_known past c t salt q.subject q.action details flags (reply c q.serial q.quiet)) (action_of (policy_of past) q.action) (refuse (reply c q.serial q.quiet) ErrorCause.UnknownAction)) ≡ (guard (not b) >>= (λ free. action_of (policy_of past) q.action >>= (λ a. facts past q.subject >>= with_facts)))
      by true = replied (Answer.Refused ErrorCause.IdInUse)
      by false = action (action_of (policy_of past) q.action)

-- The challenge that a live connection's check opens, read from its outputs, is the one said before the outputs are there.
pub opened_is_opening : (past : List Item) (i : Item) → Follows past i → (q : Question) (details : List Pair) (flags : ℕ) → i.entry.event ≡ Called q.serial q.quiet (Call.Check q.subject q.action details flags q.cancel) → live past i.entry.caller ≡ true
    → opened past i ≡ opening past i.entry.caller i.entry.moment i.entry.salt q details flags
opened_is_opening past i follows q details flags event lives =
    ap (λ (e : Event). opened past (record i { entry = record i.entry { event = e } })) event
    ∙ ap (told past i.entry.caller q) (follows.answered ∙ ap (λ (e : Event). answers past i.entry.caller i.entry.moment i.entry.salt e i.loaded) event ∙ ap (λ b. if b then answer_check past i.entry.caller i.entry.moment i.entry.salt q.subject q.action details flags q.cancel (reply i.entry.caller q.serial q.quiet) else []) lives)
    ∙ check_told past i.entry.caller i.entry.moment i.entry.salt q details flags

-- outputs with no Begin open nothing
silent_opens : (past : List Item) (i : Item) → Silent i.entry.outputs → opened past i ≡ None
silent_opens past i silent = ap (λ b. question_in i.entry.event >>= (λ q. b >>= (λ b. facts past q.subject >>= (λ f. implicit_for past f q.action >>= (λ v. agent_for past f >>= (λ a. option_map (challenge_opened past i.entry.caller q b f v a) (uid_of past i.entry.caller))))))) silent ∙ by (question_in i.entry.event)
  where
    by : (o : Option Question) → option_and_then {U = Pending} (λ q. None) o ≡ None
    by None = refl
    by (Some q) = refl

-- a connection that is not live opens nothing
pub dead_opens : (past : List Item) (i : Item) → Follows past i → (serial : ℕ) (quiet : Bool) (call : Call) → i.entry.event ≡ Called serial quiet call → live past i.entry.caller ≡ false → opened past i ≡ None
dead_opens past i follows serial quiet call event dead = silent_opens past i (ap begun_in (
    follows.answered
    ∙ ap (λ (e : Event). answers past i.entry.caller i.entry.moment i.entry.salt e i.loaded) event
    ∙ ap (λ b. if b then answer_call past i.entry.caller i.entry.moment i.entry.salt (reply i.entry.caller serial quiet) call else []) dead))

-- what asks nothing opens nothing
pub unasked_opens : (past : List Item) (i : Item) (e : Event) → i.entry.event ≡ e → question_in e ≡ None → opened past i ≡ None
unasked_opens past i e event none = ap (option_and_then (opened_at past i)) (ap question_in event ∙ none)
