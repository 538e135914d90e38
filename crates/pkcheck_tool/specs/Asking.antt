-- What is asked, and the bytes of a link that holds the reply.
use Rattle.std.specs.Prelude.{◌≡◌, ◌⊎◌, ℕ, Bool, IsTrue, false, if◌then◌else◌, List, [], ◌++◌, Option, Some, Result, Ok, Err}
use Rattle.pk_types.specs.declared.values.Subject.{Subject}
use Rattle.pk_outside.specs.Streams.{Gave, Got}
use Rattle.link_handshake.specs.Clients.{awaited, first_bytes}
use Rattle.link_handshake.specs.Shakes.{Open}
use Rattle.dbus_values.specs.Form.{message_bytes}
use Rattle.dbus_values.specs.Next.{Answer, Bad, Partial, Seen, next_of}
use Rattle.authority_model.specs.declared.event.Call.{Call}
use Rattle.authority_model.specs.declared.event.Call.TheVariants as call
use Rattle.authority_model.specs.declared.interaction.TheConstants.{ALLOW_USER_INTERACTION}
use Rattle.authority_messages.specs.Outgoing.{under}
use Rattle.client_messages.specs.Calls.{call_for}
use Rattle.client_link.specs.declared.stop.LinkStop.{LinkStop}
use Rattle.client_link.specs.declared.stop.LinkStop.TheVariants as stop
use Rattle.pk_outside.specs.Allowing.{IsFront}
use Rattle.client_link.specs.Following.{IsFirst, Passes}
use Rattle.client_link.specs.Shakings.{BeginsIn, FailsIn, client_bytes}
use Rattle.client_commands.specs.declared.check.reading.CheckPlan.{CheckPlan}
use Rattle.pkcheck_tool.specs.declared.asking.TheConstants.{SERIAL}
use Rattle.pkcheck_tool.specs.declared.reply.Reply.{Reply}
use Rattle.pkcheck_tool.specs.Replies.{is_reply, reply_in}

-- AllowUserInteraction, where the user may be asked
abbrev pub flags_of : Bool → ℕ
flags_of ask = if ask then ALLOW_USER_INTERACTION else 0

-- CheckAuthorization of a process for an action, without details and without a cancellation id
abbrev pub check_call : ℕ → ℕ → List ℕ → Bool → Call
check_call pid start action ask = call.Check (Subject.Process pid start) action [] (flags_of ask) []

-- the one that a plan asks
abbrev pub check_of : CheckPlan → Call
check_of plan = check_call plan.pid plan.start plan.action plan.ask

-- the bytes of its message, which has the serial 1
abbrev pub check_bytes : CheckPlan → List ℕ
check_bytes plan = message_bytes false (under SERIAL (call_for (check_of plan)))

-- all that is written on the link: the client's half of the handshake, and the one call
abbrev pub sent_bytes : CheckPlan → List ℕ
sent_bytes plan = client_bytes plan.uid ++ check_bytes plan

-- the first reply among the messages of these bytes, and what follows it
pub record Replies (bytes : List ℕ) (told : Reply) : Type 0 where
  pub message : Seen
  pub rest : List ℕ
  pub first : IsFirst is_reply bytes message rest
  pub told_is : reply_in message ≡ Some told

-- no reply is among the messages of these bytes, and behind them the bytes begin so
pub record Lacks (bytes : List ℕ) (shows : Answer) : Type 0 where
  pub rest : List ℕ
  pub passes : Passes is_reply bytes rest
  pub next : next_of rest ≡ shows

-- What was awaited of the messages: the reply, or what stands in its place.
abbrev pub Awaits : Bool → List ℕ → Result Reply LinkStop → Type 0
Awaits ended bytes (Ok told) = Replies bytes told
Awaits ended bytes (Err stop.Failed) = Unit {0}
Awaits ended bytes (Err (stop.BadShake fault)) = ⊥
Awaits ended bytes (Err (stop.BadBytes kind at)) = Lacks bytes (Bad kind at)
Awaits ended bytes (Err stop.Cut) = Lacks bytes Partial × IsTrue ended
Awaits ended bytes (Err stop.NoMemory) = Unit {0}

-- the server accepted the client, and this holds of the bytes of its messages
pub record Accepted (read : List ℕ) (P : List ℕ → Type 0) : Type 0 where
  pub messages : List ℕ
  pub begins : BeginsIn read messages
  pub holds : P messages

-- What was read of the link, and what was written to it, at each end of the conversation.
abbrev pub Says : CheckPlan → Bool → List ℕ → List ℕ → Result Reply LinkStop → Type 0
Says plan ended read written (Ok told) = Accepted read (λ messages. Replies messages told) × (written ≡ sent_bytes plan)
Says plan ended read written (Err stop.Failed) = IsFront written (sent_bytes plan)
Says plan ended read written (Err (stop.BadShake fault)) = FailsIn read fault × (written ≡ first_bytes plan.uid)
Says plan ended read written (Err (stop.BadBytes kind at)) = Accepted read (λ messages. Lacks messages (Bad kind at)) × (written ≡ sent_bytes plan)
Says plan ended read written (Err stop.Cut) =
    IsTrue ended × (((awaited read ≡ Open) × (written ≡ first_bytes plan.uid)) ⊎ (Accepted read (λ messages. Lacks messages Partial) × (written ≡ sent_bytes plan)))
Says plan ended read written (Err stop.NoMemory) = IsFront written (sent_bytes plan)

-- The conversation over a link: what was read of it and written to it, and how it ended.
pub record Converses (plan : CheckPlan) (left_before left : Option (List ℕ)) (ended : Bool) (held_before held : Option (List ℕ)) (result : Result Reply LinkStop) : Type 0 where
  pub read : List ℕ
  pub written : List ℕ
  pub gave : Gave left_before left read
  pub got : Got held_before held written
  pub says : Says plan ended read written result
