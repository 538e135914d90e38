-- The calls of an agent, one after the other.
use Rattle.std.proofs.Common.{◌≡◌, ℕ, ◌+◌, ◌<◌, ◌≤◌, ◌^◌, Bool, true, false, List, [], ◌∷◌, ◌++◌, length, Option, Some, None, Result, Ok, Err, OnOk, refl, sym, ap, subst, ◌∙◌, append-nil, inl, inr, arith}
use Rattle.std.specs.Prelude.{IsSome}
use Rattle.pk_outside.specs.Causes.{Rose}
use Rattle.pk_outside.specs.Stations.{StationTold, Dials}
use Rattle.pk_outside.specs.Streams.{Gave}
use Rattle.authority_model.specs.declared.event.Call.{Call}
use Rattle.authority_model.specs.Words.{Bytes}
use Rattle.client_messages.specs.Calls.{method_of}
use Rattle.client_link.specs.declared.stop.LinkStop.{LinkStop}
use Rattle.script_agent.specs.declared.status.AgentStatus.{AgentStatus}
use Rattle.script_agent.specs.declared.status.AgentStatus.TheVariants as status
use Rattle.std.specs.Option.{option_to_list}
use Rattle.client_messages.specs.declared.agent.AgentBegin.{AgentBegin}
use Rattle.client_messages.specs.declared.agent.AgentReply.{AgentReply}
use Rattle.agent_rules.specs.declared.line.Handling.{Handling}
use Rattle.agent_rules.specs.declared.line.Handling.TheVariants as handling
use Rattle.agent_rules.specs.Rules.{handling_for}
use Rattle.script_agent.specs.declared.task.Task.{Task}
use Rattle.script_agent.specs.Challenges.{Ask, ask_by, registration, reply_by, response}
use Rattle.script_agent.specs.Lines.{LineNow, LineStory}
use Rattle.script_agent.specs.Steps.{Asks, AskedBy, ConsultedBy, DialsHelper, DialsNew, IsAnswered, IsUnanswered, challenge, HelperCause, HelperIsAt, HelperStands, HelperReplied, HelperStopped, IsDialled, LinkCause, LineReplied, LineStopped, asked, link_fails}
use Rattle.script_agent.specs.Waits.{Waits, refusal_of}

-- a wait for the reply to the last call
pub waits_serial : (serial sent : ℕ) (before now : LineNow) (result : Result Bool LinkStop) → serial ≡ sent → Waits (refusal_of serial) before now result → Waits (refusal_of sent) before now result
waits_serial serial sent before now result e w = subst (λ (n : ℕ). Waits (refusal_of n) before now result) e w

-- the calls of an agent are ones of a method
pub response_method : (call : Call) (cookie : Bytes) (uid : ℕ) → call ≡ response cookie uid → IsSome (method_of call)
response_method call cookie uid e = subst (λ (x : Call). IsSome (method_of x)) (sym e) refl

pub registration_method : (call : Call) (session : Bytes) → call ≡ registration session → IsSome (method_of call)
registration_method call session e = subst (λ (x : Call). IsSome (method_of x)) (sym e) refl

-- # A helper that may not be dialled

-- one that was asked something is dialled
some_asks : (path : Bytes) (asks : List Ask) (last : Ask) (now : LineNow) (line : LineStory) → HelperStands path (asks ++ last ∷ []) now line → HelperIsAt path (asks ++ last ∷ []) (Some now) (Some line)
some_asks path [] last now line h = h
some_asks path (a ∷ asks) last now line h = h

cause_of : (before after : ℕ) (now : LineNow) (why : AgentStatus) → LinkCause now why → HelperCause before after (Some now) why
cause_of before after now status.Done c = tt
cause_of before after now status.Refused c = tt
cause_of before after now status.Usage c = tt
cause_of before after now status.TreeFault c = tt
cause_of before after now status.RuleFile c = tt
cause_of before after now status.StationFault c = inr c
cause_of before after now status.WriteFault c = c
cause_of before after now (status.BadShake fault) c = tt
cause_of before after now (status.BadBytes kind at) c = tt
cause_of before after now status.Cut c = tt
cause_of before after now status.NoMemory c = tt

-- what its link came to
pub asked_by : (path : Bytes) (asks : List Ask) (cookie : Bytes) (uid before after : ℕ) (now : LineNow) (result : Result Bool AgentStatus) → ConsultedBy path asks cookie uid now result → AskedBy path asks cookie uid before after (Some now) result
asked_by path asks cookie uid before after now (Ok refused) c = record { line = Some c.line; at = some_asks path asks (asked cookie uid refused) now c.line c.stands }
asked_by path asks cookie uid before after now (Err why) c = record { line = Some c.line; told = c.told; stops = c.stops; cause = cause_of before after now why c.cause }

-- where it was asked before, it stands so
pub stood : (path : Bytes) (asks : List Ask) (now : LineNow) (line : Option LineStory) → HelperIsAt path asks (Some now) line → (l : LineStory) × HelperStands path asks now l
stood path [] now None h = elim h [ ]
stood path [] now (Some line) h = elim h [ ]
stood path (a ∷ asks) now None h = elim h [ ]
stood path (a ∷ asks) now (Some line) h = (line, h)

-- where it is not dialled, it was asked nothing
pub unasked : (path : Bytes) (asks : List Ask) (line : Option LineStory) → HelperIsAt path asks None line → asks ≡ []
unasked path [] line h = refl
unasked path (a ∷ asks) line h = elim h [ ]

-- the station refused to dial it
pub ask_undialled : (path : Bytes) (asks : List Ask) (line : Option LineStory) (cookie : Bytes) (uid : ℕ) (before after : Option StationTold) (faults_before faults : ℕ) (why : AgentStatus) → HelperIsAt path asks None line → DialsNew path before after faults_before faults (Err why)
    → AskedBy path asks cookie uid faults_before faults None (Err why)
ask_undialled path asks line cookie uid before after faults_before faults status.Done h d = elim d [ ]
ask_undialled path asks line cookie uid before after faults_before faults status.Refused h d = elim d [ ]
ask_undialled path asks line cookie uid before after faults_before faults status.Usage h d = elim d [ ]
ask_undialled path asks line cookie uid before after faults_before faults status.TreeFault h d = elim d [ ]
ask_undialled path asks line cookie uid before after faults_before faults status.RuleFile h d = elim d [ ]
ask_undialled path asks line cookie uid before after faults_before faults status.WriteFault h d = elim d [ ]
ask_undialled path asks line cookie uid before after faults_before faults (status.BadShake fault) h d = elim d [ ]
ask_undialled path asks line cookie uid before after faults_before faults (status.BadBytes kind at) h d = elim d [ ]
ask_undialled path asks line cookie uid before after faults_before faults status.Cut h d = elim d [ ]
ask_undialled path asks line cookie uid before after faults_before faults status.StationFault h d = record { line = None; told = tt; stops = tt; cause = inl d.1 }
ask_undialled path asks line cookie uid before after faults_before faults status.NoMemory h d = record { line = None; told = tt; stops = tt; cause = tt }

-- and it told what it told
pub undialled_same : (path : Bytes) (before after : Option StationTold) (faults_before faults : ℕ) (why : AgentStatus) → DialsNew path before after faults_before faults (Err why) → after ≡ before
undialled_same path before after faults_before faults status.Done d = elim d [ ]
undialled_same path before after faults_before faults status.Refused d = elim d [ ]
undialled_same path before after faults_before faults status.Usage d = elim d [ ]
undialled_same path before after faults_before faults status.TreeFault d = elim d [ ]
undialled_same path before after faults_before faults status.RuleFile d = elim d [ ]
undialled_same path before after faults_before faults status.WriteFault d = elim d [ ]
undialled_same path before after faults_before faults (status.BadShake fault) d = elim d [ ]
undialled_same path before after faults_before faults (status.BadBytes kind at) d = elim d [ ]
undialled_same path before after faults_before faults status.Cut d = elim d [ ]
undialled_same path before after faults_before faults status.StationFault d = d.0
undialled_same path before after faults_before faults status.NoMemory d = d

-- whatever it was asked, this is what a link that stood comes to
pub asks_again : (path cookie : Bytes) (uid before after : ℕ) (old now : LineNow) (result : Result Bool AgentStatus) → ((asks : List Ask) (line : LineStory) → HelperStands path asks old line → ConsultedBy path asks cookie uid now result) → Asks path cookie uid before after (Some old) (Some now) result
asks_again path cookie uid before after old now result h = λ asks line at. let s = stood path asks old line at in asked_by path asks cookie uid before after now result (h asks s.0 s.1)

-- and one that was dialled for it
pub asks_first : (path cookie : Bytes) (uid before after : ℕ) (now : LineNow) (result : Result Bool AgentStatus) → ConsultedBy path [] cookie uid now result → Asks path cookie uid before after None (Some now) result
asks_first path cookie uid before after now result h = λ asks line at.
    subst (λ (x : List Ask). AskedBy path x cookie uid before after (Some now) result) (sym (unasked path asks line at)) (asked_by path [] cookie uid before after now result h)

-- # What is answered to a challenge

pub unanswered_ask : (t : Task) (asks : List Ask) (begin : AgentBegin) (uid before after : ℕ) (helper : Option LineNow) (why : AgentStatus) → handling_for t.rules begin.action ≡ handling.Authenticate uid → HelperStopped t.helper asks (asked begin.cookie uid false) before after helper why
    → IsUnanswered t asks begin before after helper why
unanswered_ask t asks begin uid before after helper why e h = record { ask = asked begin.cookie uid false; ask_is = ap (ask_by (challenge t begin false)) e; stopped = h }

pub answered_ask : (t : Task) (asks : List Ask) (begin : AgentBegin) (uid : ℕ) (helper : Option LineNow) (refused : Bool) (reply : AgentReply) → handling_for t.rules begin.action ≡ handling.Authenticate uid → reply ≡ reply_by (handling.Authenticate uid) refused
    → HelperReplied t.helper (asks ++ asked begin.cookie uid refused ∷ []) helper → IsAnswered t asks begin helper reply
answered_ask t asks begin uid helper refused reply e is h = record {
  refused = refused;
  reply_is = is ∙ sym (ap (λ (x : Handling). reply_by x refused) e);
  replied = subst (λ (o : Option Ask). HelperReplied t.helper (asks ++ option_to_list o) helper) (sym (ap (ask_by (challenge t begin refused)) e)) h;
}

pub answered_plain : (t : Task) (asks : List Ask) (begin : AgentBegin) (helper : Option LineNow) (line : Option LineStory) (how : Handling) (reply : AgentReply) → handling_for t.rules begin.action ≡ how → reply ≡ reply_by how false → ask_by (challenge t begin false) how ≡ None
    → HelperIsAt t.helper asks helper line → IsAnswered t asks begin helper reply
answered_plain t asks begin helper line how reply e is none h = record {
  refused = false;
  reply_is = is ∙ sym (ap (λ (x : Handling). reply_by x false) e);
  replied = record { line = line; at = subst (λ (x : List Ask). HelperIsAt t.helper x helper line) (sym (ap (λ (o : Option Ask). asks ++ option_to_list o) (ap (ask_by (challenge t begin false)) e ∙ none) ∙ append-nil asks)) h };
}

pub dials_same : (path : Bytes) (told : Option StationTold) (helper : Option LineNow) → DialsHelper path told told helper helper
dials_same path told None = refl
dials_same path told (Some now) = (refl, refl)

-- # How much is sent

pub first_sent : (result : Result Bool AgentStatus) (before now : ℕ) → before ≡ 0 → OnOk result (now ≡ before + 1) → OnOk result (now ≡ 1)
first_sent (Ok refused) before now none one = omega (arith, none, one)
first_sent (Err why) before now none one = tt

pub one_more_sent : {A : Type 0} (result : Result A AgentStatus) (a b : ℕ) → OnOk result (b ≡ a + 1) → OnOk result (b ≤ a + 1)
one_more_sent (Ok done) a b e = omega (arith, e)
one_more_sent (Err why) a b e = tt

pub one_at_most : {A : Type 0} (result : Result A AgentStatus) (a b : ℕ) → OnOk result (b ≡ 1) → OnOk result (b ≤ a + 1)
one_at_most (Ok done) a b e = omega (arith, e)
one_at_most (Err why) a b e = tt
