-- The parts of the conversation, put together.
use Rattle.std.proofs.Common.{◌≡◌, ◌⊎◌, ◌+◌, ℕ, Bool, true, false, List, [], ◌∷◌, ◌++◌, Option, Some, None, Result, Ok, Err, refl, sym, ap, subst, ◌∙◌, inl, inr, append_assoc, append-nil}
use Rattle.std.specs.Prelude.{IsTrue, is_some}
use Rattle.std.specs.Result.{IsErrAnd}
use Rattle.pk_outside.specs.Causes.{one_more}
use Rattle.pk_outside.specs.Streams.{Gave, Got, GotFront}
use Rattle.pk_outside.proofs.Written.{Gave-more, Gave-none, Got-more, Got-none}
use Rattle.link_handshake.specs.Clients.{awaited}
use Rattle.link_handshake.specs.Shakes.{Begun}
use Rattle.dbus_values.specs.Next.{Bad, Partial, Seen, next_of}
use Rattle.dbus_values.specs.Streams.{IsForm}
use Rattle.client_messages.specs.Answers.{answer_of}
use Rattle.client_messages.specs.declared.answer.ClientAnswer.{ClientAnswer}
use Rattle.client_link.specs.declared.stop.LinkStop.{LinkStop}
use Rattle.client_link.specs.declared.stop.LinkStop.TheVariants as stop
use Rattle.client_link.specs.Faults.{LinkFaults, faults_after}
use Rattle.pk_outside.specs.Allowing.{IsFront}
use Rattle.client_link.specs.Following.{IsFirst, Passes}
use Rattle.client_link.specs.Messages.{Brings, IsTaken}
use Rattle.client_link.specs.Sending.{Sends}
use Rattle.client_link.specs.Shakings.{BeginsIn, Shakes, ShakesHands, client_bytes}
use Rattle.client_link.proofs.Follows.{passes_bytes, passes_message}
use Rattle.client_commands.specs.declared.check.reading.CheckPlan.{CheckPlan}
use Rattle.pkcheck_tool.specs.declared.asking.TheConstants.{SERIAL}
use Rattle.pkcheck_tool.specs.declared.reply.Reply.{Reply}
use Rattle.pkcheck_tool.specs.Asking.{Accepted, Awaits, Converses, Lacks, Replies, Says, check_bytes, sent_bytes}
use Rattle.pkcheck_tool.specs.Replies.{is_reply, reply_in, reply_of}

-- # Messages until the reply

-- an answer that is no reply was passed over
pub passed_over : (bytes rest more now : List ℕ) (a : ClientAnswer) → Passes is_reply bytes rest → IsTaken (answer_of SERIAL) (rest ++ more) now a → reply_of a ≡ None → Passes is_reply (bytes ++ more) now
passed_over bytes rest more now a p t none =
    let not_reply : is_reply t.message ≡ false = ap (λ (x : ClientAnswer). is_some (reply_of x)) (sym t.told_is) ∙ ap (λ (x : Option Reply). is_some x) none in
    passes_message is_reply (bytes ++ more) (rest ++ more) t.text now t.message (passes_bytes is_reply bytes rest more p) t.form t.cut not_reply

-- the first that is one is the reply
pub first_reply : (bytes rest more now : List ℕ) (a : ClientAnswer) (r : Reply) → Passes is_reply bytes rest → IsTaken (answer_of SERIAL) (rest ++ more) now a → reply_of a ≡ Some r → Replies (bytes ++ more) r
first_reply bytes rest more now a r p t some =
    let told : reply_in t.message ≡ Some r = ap reply_of (sym t.told_is) ∙ some in
    record {
      message = t.message;
      rest = now;
      first = record {
        behind = rest ++ more;
        text = t.text;
        passes = passes_bytes is_reply bytes rest more p;
        form = t.form;
        cut = t.cut;
        is = ap (λ (x : Option Reply). is_some x) told;
      };
      told_is = told;
    }

-- what the next message brings in place of a reply
pub no_more : (ended : Bool) (bytes rest more now : List ℕ) (why : LinkStop) → Passes is_reply bytes rest → Brings {A = ClientAnswer} (answer_of SERIAL) ended (rest ++ more) now (Err why) → Awaits ended (bytes ++ more) (Err why)
no_more ended bytes rest more now stop.Failed p b = tt
no_more ended bytes rest more now (stop.BadShake fault) p b = b
no_more ended bytes rest more now (stop.BadBytes kind at) p b = record { rest = rest ++ more; passes = passes_bytes is_reply bytes rest more p; next = b }
no_more ended bytes rest more now stop.Cut p b = (record { rest = rest ++ more; passes = passes_bytes is_reply bytes rest more p; next = b.0 }, b.1)
no_more ended bytes rest more now stop.NoMemory p b = tt

-- # The whole

-- a prefix of the handshake's bytes is one of all
front_longer : (written a b : List ℕ) → IsFront written a → IsFront written (a ++ b)
front_longer written a b f = (f.0 ++ b, ap (λ (x : List ℕ). x ++ b) f.1 ∙ append_assoc written f.0 b)

-- nothing was done
pub nothing_done : (plan : CheckPlan) (l h : Option (List ℕ)) (ended : Bool) → Converses plan l l ended h h (Err stop.NoMemory)
nothing_done plan l h ended = record { read = []; written = []; gave = Gave-none l; got = Got-none h; says = (sent_bytes plan, refl) }

-- the handshake stopped it
shakes_stopped : (plan : CheckPlan) (ended : Bool) (read rest written : List ℕ) (why : LinkStop) → Shakes plan.uid ended read rest written (Err why) → Says plan ended read written (Err why)
shakes_stopped plan ended read rest written stop.Failed s = front_longer written (client_bytes plan.uid) (check_bytes plan) s
shakes_stopped plan ended read rest written (stop.BadShake fault) s = s
shakes_stopped plan ended read rest written (stop.BadBytes kind at) s = absurd s
shakes_stopped plan ended read rest written stop.Cut s = (s.1, inl (s.0, s.2))
shakes_stopped plan ended read rest written stop.NoMemory s = front_longer written (client_bytes plan.uid) (check_bytes plan) s

pub stopped_shaking : (plan : CheckPlan) (l l' h h' : Option (List ℕ)) (ended : Bool) (rest : List ℕ) (why : LinkStop) → ShakesHands plan.uid l l' ended h h' rest (Err why) → Converses plan l l' ended h h' (Err why)
stopped_shaking plan l l' h h' ended rest why s = record { read = s.read; written = s.written; gave = s.gave; got = s.got; says = shakes_stopped plan ended s.read rest s.written why s.shakes }

-- the call could not be sent, or not wholly
front_sent : (plan : CheckPlan) (shaken sent rest : List ℕ) → shaken ≡ client_bytes plan.uid → check_bytes plan ≡ sent ++ rest → IsFront (shaken ++ sent) (sent_bytes plan)
front_sent plan shaken sent rest whole is = (rest, ap (λ (x : List ℕ). x ++ check_bytes plan) (sym whole) ∙ ap (λ (x : List ℕ). shaken ++ x) is ∙ sym (append_assoc shaken sent rest))

sends_stopped : (plan : CheckPlan) (l l' h h' h2 : Option (List ℕ)) (ended ended' : Bool) (rest : List ℕ) (why : LinkStop) → ShakesHands plan.uid l l' ended h h' rest (Ok tt) → GotFront h' h2 (check_bytes plan)
    → ((written : List ℕ) (read : List ℕ) → IsFront written (sent_bytes plan) → Says plan ended' read written (Err why)) → Converses plan l l' ended' h h2 (Err why)
sends_stopped plan l l' h h' h2 ended ended' rest why s got says = record {
  read = s.read;
  written = s.written ++ got.1.0;
  gave = s.gave;
  got = Got-more h h' h2 s.written got.1.0 s.got got.1.2;
  says = says (s.written ++ got.1.0) s.read (front_sent plan s.written got.1.0 got.0 s.shakes.1 got.1.1);
}

pub stopped_sending : (plan : CheckPlan) (l l' h h' h2 : Option (List ℕ)) (ended ended' : Bool) (rest : List ℕ) (why : LinkStop) → ShakesHands plan.uid l l' ended h h' rest (Ok tt) → Sends h' h2 (check_bytes plan) (Err why) → Converses plan l l' ended' h h2 (Err why)
stopped_sending plan l l' h h' h2 ended ended' rest stop.Failed s got = sends_stopped plan l l' h h' h2 ended ended' rest stop.Failed s got (λ w r f. f)
stopped_sending plan l l' h h' h2 ended ended' rest (stop.BadShake fault) s got = absurd got
stopped_sending plan l l' h h' h2 ended ended' rest (stop.BadBytes kind at) s got = absurd got
stopped_sending plan l l' h h' h2 ended ended' rest stop.Cut s got = absurd got
stopped_sending plan l l' h h' h2 ended ended' rest stop.NoMemory s got = sends_stopped plan l l' h h' h2 ended ended' rest stop.NoMemory s got (λ w r f. f)

-- more was read behind the handshake
begins_more : (read rest more : List ℕ) → BeginsIn read rest → BeginsIn (read ++ more) (rest ++ more)
begins_more read rest more b = λ behind. ap awaited (append_assoc read more behind) ∙ b (more ++ behind) ∙ ap (λ (x : List ℕ). Begun x) (sym (append_assoc rest more behind))

says_then : (plan : CheckPlan) (ended : Bool) (read rest more written : List ℕ) (r : Result Reply LinkStop) → BeginsIn read rest → written ≡ sent_bytes plan → Awaits ended (rest ++ more) r → Says plan ended (read ++ more) written r
says_then plan ended read rest more written (Ok told) b w a = (record { messages = rest ++ more; begins = begins_more read rest more b; holds = a }, w)
says_then plan ended read rest more written (Err stop.Failed) b w a = ([], sym w ∙ sym (append-nil written))
says_then plan ended read rest more written (Err (stop.BadShake fault)) b w a = absurd a
says_then plan ended read rest more written (Err (stop.BadBytes kind at)) b w a = (record { messages = rest ++ more; begins = begins_more read rest more b; holds = a }, w)
says_then plan ended read rest more written (Err stop.Cut) b w a = (a.1, inr (record { messages = rest ++ more; begins = begins_more read rest more b; holds = a.0 }, w))
says_then plan ended read rest more written (Err stop.NoMemory) b w a = ([], sym w ∙ sym (append-nil written))

pub converses : (plan : CheckPlan) (l l' l2 h h' h2 : Option (List ℕ)) (ended ended' : Bool) (rest more : List ℕ) (r : Result Reply LinkStop) → ShakesHands plan.uid l l' ended h h' rest (Ok tt) → Got h' h2 (check_bytes plan)
    → Gave l' l2 more → Awaits ended' (rest ++ more) r → Converses plan l l2 ended' h h2 r
converses plan l l' l2 h h' h2 ended ended' rest more r s got gave a = record {
  read = s.read ++ more;
  written = s.written ++ check_bytes plan;
  gave = Gave-more l l' l2 s.read more s.gave gave;
  got = Got-more h h' h2 s.written (check_bytes plan) s.got got;
  says = says_then plan ended' s.read rest more (s.written ++ check_bytes plan) r s.shakes.0 (ap (λ (x : List ℕ). x ++ check_bytes plan) s.shakes.1) a;
}

-- # Counts of faults

pub faults_sending : (i i' o o' o2 : ℕ) (why : LinkStop) → i' ≡ i → o' ≡ o → o2 ≡ faults_after {A = Unit {0}} o' (Err why) → LinkFaults {A = Reply} i i' o o2 (Err why)
faults_sending i i' o o' o2 stop.Failed read write sends = inr (read, sends ∙ ap one_more write)
faults_sending i i' o o' o2 (stop.BadShake fault) read write sends = (read, sends ∙ write)
faults_sending i i' o o' o2 (stop.BadBytes kind at) read write sends = (read, sends ∙ write)
faults_sending i i' o o' o2 stop.Cut read write sends = (read, sends ∙ write)
faults_sending i i' o o' o2 stop.NoMemory read write sends = (read, sends ∙ write)

pub faults_awaiting : (i i' i2 o o' : ℕ) (r : Result Reply LinkStop) → i' ≡ i → o' ≡ o → i2 ≡ faults_after i' r → LinkFaults i i2 o o' r
faults_awaiting i i' i2 o o' (Ok told) read write awaits = (awaits ∙ read, write)
faults_awaiting i i' i2 o o' (Err stop.Failed) read write awaits = inl (awaits ∙ ap one_more read, write)
faults_awaiting i i' i2 o o' (Err (stop.BadShake fault)) read write awaits = (awaits ∙ read, write)
faults_awaiting i i' i2 o o' (Err (stop.BadBytes kind at)) read write awaits = (awaits ∙ read, write)
faults_awaiting i i' i2 o o' (Err stop.Cut) read write awaits = (awaits ∙ read, write)
faults_awaiting i i' i2 o o' (Err stop.NoMemory) read write awaits = (awaits ∙ read, write)

-- an end of the handshake is one of the conversation
pub faults_shaking : (i i' o o' : ℕ) (why : LinkStop) → LinkFaults {A = Unit {0}} i i' o o' (Err why) → LinkFaults {A = Reply} i i' o o' (Err why)
faults_shaking i i' o o' stop.Failed f = f
faults_shaking i i' o o' (stop.BadShake fault) f = f
faults_shaking i i' o o' (stop.BadBytes kind at) f = f
faults_shaking i i' o o' stop.Cut f = f
faults_shaking i i' o o' stop.NoMemory f = f

-- # What is handed on where a call was refused

pub awaits_refused : (ended : Bool) (bytes : List ℕ) (r : Result Reply LinkStop) (why : LinkStop) → IsErrAnd r (λ (y : LinkStop). y ≡ why) → Awaits ended bytes (Err why) → Awaits ended bytes r
awaits_refused ended bytes (Ok told) why is a = absurd is
awaits_refused ended bytes (Err y) why is a = subst (λ (w : LinkStop). Awaits ended bytes (Err w)) (sym is) a

pub converses_refused : (plan : CheckPlan) (l l' : Option (List ℕ)) (ended : Bool) (h h' : Option (List ℕ)) (r : Result Reply LinkStop) (why : LinkStop) → IsErrAnd r (λ (y : LinkStop). y ≡ why)
    → Converses plan l l' ended h h' (Err why) → Converses plan l l' ended h h' r
converses_refused plan l l' ended h h' (Ok told) why is a = absurd is
converses_refused plan l l' ended h h' (Err y) why is a = subst (λ (w : LinkStop). Converses plan l l' ended h h' (Err w)) (sym is) a
