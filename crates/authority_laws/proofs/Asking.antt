-- What a check that is asked outputs.
use Rattle.std.proofs.Common.{◌≡◌, ℕ, ◌==◌, ◌%◌, Bool, true, false, ◌||◌, List, [], ◌∷◌, refl, ap, sym, ◌∙◌, inl, inr, Option, Some, None, is_some, ◌⊎◌, subst}
use Rattle.std.specs.Prelude.{nat_le}
use Rattle.std.specs.Option.{option_map_or}
use Rattle.pk_types.specs.declared.values.Pair.{Pair}
use Rattle.pk_types.specs.declared.values.Subject.{Subject}
use Rattle.pk_types.specs.declared.values.Implicit.{Implicit}
use Rattle.authority_model.specs.declared.event.Call.{Call}
use Rattle.authority_model.specs.declared.event.Event.{Event}
use Rattle.authority_model.specs.declared.event.Event.TheVariants.{Call as Called}
use Rattle.authority_model.specs.declared.message.ErrorCause.{ErrorCause}
use Rattle.authority_model.specs.declared.message.Answer.{Answer}
use Rattle.authority_model.specs.declared.message.Message.{Message}
use Rattle.authority_model.specs.declared.message.Output.{Output}
use Rattle.authority_model.specs.declared.verdict.RuleSource.{RuleSource}
use Rattle.authority_model.specs.declared.policy.Action.{Action}
use Rattle.authority_model.specs.Words.{Bytes}
use Rattle.authority_model.specs.Facts.{Facts}
use Rattle.authority_model.specs.Rules.{action_of}
use Rattle.authority_model.specs.declared.journal.Item.{Item}
use Rattle.authority_model.specs.Items.{policy_of, implicit_for}
use Rattle.authority_model.specs.Subjects.{facts}
use Rattle.authority_model.specs.Peers.{live}
use Rattle.authority_model.specs.declared.pending.Agent.{Agent}
use Rattle.authority_model.specs.Agents.{agent_for}
use Rattle.authority_model.specs.Challenges.{Question, Begun, question_in, begun_in, with_id, pending_beside}
use Rattle.authority_model.specs.Grants.{kept}
use Rattle.authority_model.specs.Deciding.{Decision, decided}
use Rattle.authority_model.specs.Verdicts.{verdict_of}
use Rattle.authority_model.specs.Answers.{reply, answers, answer_check, tell, tell_challenge, ask, refuse, answer_for, answer_known}
use Rattle.authority_model.specs.Trust.{trusted}
use Rattle.authority_model.specs.Legal.{Follows}
use Rattle.authority_model.proofs.Cases.{by_test, by_option}
use Rattle.authority_laws.proofs.Deciding.{Backed, decided_backed}

-- outputs with no Begin
abbrev pub Silent : List Output → Type 0
Silent outputs = begun_in outputs ≡ None

-- the outputs are the one Begin that a check asks with
pub record AsksOnce (past : List Item) (c salt : ℕ) (subject : Subject) (action : Bytes) (cancel : Bytes) (outputs : List Output) : Type 0 where
  pub f : Facts
  pub agent : Agent
  pub a : Action
  pub value : Implicit
  pub source : RuleSource
  pub details : List Pair
  pub facts_are : facts past subject ≡ Some f
  pub agent_is : agent_for past f ≡ Some agent
  pub value_is : implicit_for past f action ≡ Some (value, source)
  pub fresh : is_some (with_id past c cancel) ≡ false
  pub outputs_are : outputs ≡ ask past salt f agent a value details

reply_silent : (c serial : ℕ) (quiet : Bool) (answer : Answer) → Silent (reply c serial quiet answer)
reply_silent c serial quiet answer = by_test Silent (quiet || (serial == 0)) [] (record { to = c; message = Message.Reply serial answer } ∷ []) (λ _. refl) (λ _. refl)

module _ (past : List Item) (c t salt serial : ℕ) (quiet : Bool) (subject : Subject) (action : Bytes) (details : List Pair) (flags : ℕ) (cancel : Bytes) where
  abbrev Fits : List Output → Type 0
  Fits outputs = Silent outputs ⊎ AsksOnce past c salt subject action cancel outputs

  abbrev say : Answer → List Output
  say = reply c serial quiet

  check_asks : Fits (answer_check past c t salt subject action details flags cancel (reply c serial quiet))
  check_asks =
      by_test Fits (is_some (with_id past c cancel)) (refuse say ErrorCause.IdInUse) (option_map_or (answer_known past c t salt subject action details flags say) (action_of (policy_of past) action) (refuse say ErrorCause.UnknownAction)) (λ _. said (Answer.Refused ErrorCause.IdInUse)) (λ fresh.
      by_option Fits (answer_known past c t salt subject action details flags say) (action_of (policy_of past) action) (refuse say ErrorCause.UnknownAction) (λ _. said (Answer.Refused ErrorCause.UnknownAction)) (λ a _.
      by_option Fits (answer_for past c t salt action details flags say a) (facts past subject) (refuse say ErrorCause.UnknownSubject) (λ _. said (Answer.Refused ErrorCause.UnknownSubject)) (λ f known.
      by_test Fits (trusted past c f details action) (option_map_or (λ v. tell past c salt f a details flags say (decided past (kept past) f t action v)) (implicit_for past f action) []) (refuse say ErrorCause.NotTrusted) (λ _.
      by_option Fits (λ v. tell past c salt f a details flags say (decided past (kept past) f t action v)) (implicit_for past f action) [] (λ _. inl refl) (λ v value.
      told fresh f a known (decided past (kept past) f t action v) (decided_backed past f t action v value))) (λ _. said (Answer.Refused ErrorCause.NotTrusted)))))
    where
      said : (answer : Answer) → Fits (reply c serial quiet answer)
      said answer = inl (reply_silent c serial quiet answer)

      asked : is_some (with_id past c cancel) ≡ false → (f : Facts) (a : Action) (value : Implicit) (source : RuleSource) → facts past subject ≡ Some f → implicit_for past f action ≡ Some (value, source) → (b : Bool) (o : Option Agent) → agent_for past f ≡ o → Fits (tell_challenge past c salt f a details (reply c serial quiet) value source b o)
      asked fresh f a value source known is true (Some agent) there = by_test Fits (nat_le 64 (pending_beside past c)) (reply c serial quiet (Answer.Refused ErrorCause.TooManyPending)) (ask past salt f agent a value details) (λ _. said (Answer.Refused ErrorCause.TooManyPending)) (λ _. inr (record { f = f; agent = agent; a = a; value = value; source = source; details = details; facts_are = known; agent_is = there; value_is = is; fresh = fresh; outputs_are = refl }))
      asked fresh f a value source known is true None there = said (Answer.Verdict (verdict_of past (Decision.Challenge value source)))
      asked fresh f a value source known is false o there = said (Answer.Verdict (verdict_of past (Decision.Challenge value source)))

      told : is_some (with_id past c cancel) ≡ false → (f : Facts) (a : Action) → facts past subject ≡ Some f → (d : Decision) → Backed past f action t d → Fits (tell past c salt f a details flags (reply c serial quiet) d)
      told fresh f a known Decision.Root h = said (Answer.Verdict (verdict_of past Decision.Root))
      told fresh f a known (Decision.Yes source) h = said (Answer.Verdict (verdict_of past (Decision.Yes source)))
      told fresh f a known (Decision.Granted g) h = said (Answer.Verdict (verdict_of past (Decision.Granted g)))
      told fresh f a known (Decision.Imply b) h = said (Answer.Verdict (verdict_of past (Decision.Imply b)))
      told fresh f a known (Decision.No source) h = said (Answer.Verdict (verdict_of past (Decision.No source)))
      told fresh f a known (Decision.Challenge value source) h = asked fresh f a value source known h.0 (flags % 2 == 1) (agent_for past f) refl

-- a question in an event
pub question_is : (e : Event) (q : Question) → question_in e ≡ Some q → (details : List Pair) × (flags : ℕ) × (e ≡ Called q.serial q.quiet (Call.Check q.subject q.action details flags q.cancel))
question_is (Called serial quiet (Call.Check subject action details flags cancel)) q e =
    let given : Question = record { serial = serial; quiet = quiet; subject = subject; action = action; cancel = cancel } in
    let same : given ≡ q = cc in
    (details, flags, ap (λ (r : Question). Called r.serial r.quiet (Call.Check r.subject r.action details flags r.cancel)) same)
question_is _ q e = absurd (cc)

-- outputs with a Begin are the one that a check asks with
pub outputs_ask : (past : List Item) (i : Item) → Follows past i → (q : Question) (b : Begun) (details : List Pair) (flags : ℕ) → i.entry.event ≡ Called q.serial q.quiet (Call.Check q.subject q.action details flags q.cancel) → begun_in i.entry.outputs ≡ Some b → AsksOnce past i.entry.caller i.entry.salt q.subject q.action q.cancel i.entry.outputs
outputs_ask past i follows q b details flags shape begins =
    let same : i.entry.outputs ≡ answers past i.entry.caller i.entry.moment i.entry.salt (Called q.serial q.quiet (Call.Check q.subject q.action details flags q.cancel)) i.loaded = follows.answered ∙ ap (λ (event : Event). answers past i.entry.caller i.entry.moment i.entry.salt event i.loaded) shape in
    let P : List Output → Type 0 = λ outputs. Silent outputs ⊎ AsksOnce past i.entry.caller i.entry.salt q.subject q.action q.cancel outputs in
    let fits : P i.entry.outputs = subst P (sym same) (by_test P (live past i.entry.caller) (answer_check past i.entry.caller i.entry.moment i.entry.salt q.subject q.action details flags q.cancel (reply i.entry.caller q.serial q.quiet)) [] (λ _. check_asks past i.entry.caller i.entry.moment i.entry.salt q.serial q.quiet q.subject q.action details flags q.cancel) (λ _. inl refl)) in
    of fits
  where
    of : Silent i.entry.outputs ⊎ AsksOnce past i.entry.caller i.entry.salt q.subject q.action q.cancel i.entry.outputs → AsksOnce past i.entry.caller i.entry.salt q.subject q.action q.cancel i.entry.outputs
    of (inl silent) = absurd (cc)
    of (inr asks) = asks
