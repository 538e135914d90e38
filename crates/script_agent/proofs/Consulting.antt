-- What a helper's link comes to, step by step.
use Rattle.std.proofs.Common.{◌≡◌, ℕ, ◌+◌, Bool, true, false, List, [], ◌∷◌, ◌++◌, length, Option, Some, None, Result, Ok, Err, refl, ap, sym, ◌∙◌, subst, append_assoc, append-nil, length-append, inl, inr, arith}
use Rattle.pk_outside.specs.Causes.{one_more}
use Rattle.dbus_values.specs.Form.{message_bytes}
use Rattle.authority_model.specs.declared.event.Call.{Call}
use Rattle.authority_model.specs.Words.{Bytes}
use Rattle.authority_messages.specs.Outgoing.{under}
use Rattle.client_messages.specs.Calls.{call_for}
use Rattle.client_link.specs.declared.stop.LinkStop.{LinkStop}
use Rattle.client_link.specs.declared.stop.LinkStop.TheVariants as stop
use Rattle.pk_outside.specs.Allowing.{IsFront}
use Rattle.client_link.specs.Shakings.{client_bytes}
use Rattle.script_agent.specs.declared.status.AgentStatus.TheVariants as status
use Rattle.script_agent.specs.Challenges.{Ask, response, ask_bytes, asks_from, helper_bytes}
use Rattle.script_agent.specs.Lines.{LineNow, LineStory, IsToldBy, IsBegun, IsSound}
use Rattle.script_agent.specs.Steps.{HelperStands, LineReplied, LineStopped, ConsultedBy, asked}
use Rattle.script_agent.specs.Stops.{status_of}
use Rattle.script_agent.specs.Stories.{AreReplies, HasReplied, HasConsulted, IsHelperFront}
use Rattle.script_agent.specs.Waits.{Sends, Waits, Finds, first_of, refusal_of}
use Rattle.script_agent.proofs.Appends.{asks_from-last, replies_last, replies_but_last}
use Rattle.script_agent.proofs.Fronts.{front_all, front_more, front_before, front_along, fails_read, fails_write}
use Rattle.script_agent.proofs.Moves.{writes, waited, waited_told, waited_begun, sent_told}

-- the message of a call
abbrev pub call_message : LineNow → Call → Bytes
call_message before call = message_bytes false (under (before.sent + 1) (call_for call))

pub helper_bytes-last : (asks : List Ask) (a : Ask) → helper_bytes (asks ++ a ∷ []) ≡ helper_bytes asks ++ ask_bytes (length asks + 1) a
helper_bytes-last asks a =
    ap (λ x. client_bytes 0 ++ x) (asks_from-last 1 asks a (length asks + 1) (omega arith))
    ∙ sym (append_assoc (client_bytes 0) (asks_from 1 asks) (ask_bytes (length asks + 1) a))

-- the next message is what the helper is asked
pub due_is : (path : Bytes) (asks : List Ask) (before : LineNow) (line : LineStory) (call : Call) (cookie : Bytes) (uid : ℕ) (refused : Bool) → HelperStands path asks before line → call ≡ response cookie uid
    → helper_bytes (asks ++ asked cookie uid refused ∷ []) ≡ line.written ++ call_message before call
due_is path asks before line call cookie uid refused h e =
    helper_bytes-last asks (asked cookie uid refused)
    ∙ ap (λ x. x ++ ask_bytes (length asks + 1) (asked cookie uid refused)) (sym h.replied.written)
    ∙ ap (λ (n : ℕ). line.written ++ message_bytes false (under (n + 1) (call_for (response cookie uid)))) (sym h.sent)
    ∙ ap (λ (c : Call). line.written ++ call_message before c) (sym e)

-- nothing was sent
pub consult_unsent : (path : Bytes) (asks : List Ask) (before : LineNow) (line : LineStory) (cookie : Bytes) (uid : ℕ) → HelperStands path asks before line → LineStopped path asks (asked cookie uid false) before status.NoMemory
consult_unsent path asks before line cookie uid h = record {
  line = line;
  told = h.told;
  stops = (h.replied.path_is, front_along line.written line.written _ _ refl (due_is path asks before line (response cookie uid) cookie uid false h refl) (front_before line.written (call_message before (response cookie uid))));
  cause = tt;
}

-- the call was sent in part
pub consult_part : (path : Bytes) (asks : List Ask) (before now : LineNow) (line : LineStory) (call : Call) (cookie : Bytes) (uid : ℕ) (why : LinkStop) → HelperStands path asks before line → call ≡ response cookie uid
    → Sends (call_message before call) before now (Err why) → LineStopped path asks (asked cookie uid false) now (status_of why)
consult_part path asks before now line call cookie uid why h e s = by why s
  where
    part : (written : Bytes) → IsFront written (call_message before call) → IsFront (line.written ++ written) (helper_bytes (asks ++ asked cookie uid false ∷ []))
    part written f = front_along _ _ _ _ refl (due_is path asks before line call cookie uid false h e) (front_more line.written written (call_message before call) f)

    by : (why : LinkStop) → Sends (call_message before call) before now (Err why) → LineStopped path asks (asked cookie uid false) now (status_of why)
    by stop.Failed s = record {
      line = writes line s.written;
      told = sent_told line s h.told;
      stops = (h.replied.path_is, part s.written s.is_written);
      cause = fails_write now (s.reads ∙ h.sound.reads) (s.writes ∙ ap one_more h.sound.writes);
    }
    by (stop.BadShake fault) s = elim s.is_written [ ]
    by (stop.BadBytes kind at) s = elim s.is_written [ ]
    by stop.Cut s = elim s.is_written [ ]
    by stop.NoMemory s = record {
      line = writes line s.written;
      told = sent_told line s h.told;
      stops = (h.replied.path_is, part s.written s.is_written);
      cause = tt;
    }

-- It was sent, and the reply is awaited.
pub record Consulted (path : Bytes) (asks : List Ask) (cookie : Bytes) (uid : ℕ) (mid : LineNow) : Type 0 where
  pub line : LineStory
  pub told : IsToldBy mid line
  pub path_is : line.path ≡ path
  pub begun : IsBegun line
  pub rest : mid.rest ≡ line.rest
  pub replies : AreReplies 1 asks line.messages
  pub written : (refused : Bool) → line.written ≡ helper_bytes (asks ++ asked cookie uid refused ∷ [])
  pub sent : mid.sent ≡ length asks + 1
  pub sound : IsSound mid

pub consult_sent : (path : Bytes) (asks : List Ask) (before mid : LineNow) (line : LineStory) (call : Call) (cookie : Bytes) (uid : ℕ) → HelperStands path asks before line → call ≡ response cookie uid
    → Sends (call_message before call) before mid (Ok tt) → mid.sent ≡ before.sent + 1 → Consulted path asks cookie uid mid
consult_sent path asks before mid line call cookie uid h e s n = record {
  line = writes line s.written;
  told = sent_told line s h.told;
  path_is = h.replied.path_is;
  begun = record { behind = h.replied.begun.behind; begun = h.replied.begun.begun; follow = h.replied.begun.follow };
  rest = s.rest ∙ h.rest;
  replies = h.replied.replies;
  written = λ refused. ap (λ x. line.written ++ x) s.is_written ∙ sym (due_is path asks before line call cookie uid refused h e);
  sent = n ∙ ap (λ k. k + 1) h.sent;
  sound = record { reads = s.reads ∙ h.sound.reads; writes = s.writes ∙ h.sound.writes };
}

-- what is written on the link is all that is due
all_written : (path : Bytes) (asks : List Ask) (cookie : Bytes) (uid : ℕ) (mid : LineNow) (c : Consulted path asks cookie uid mid) → IsFront c.line.written (helper_bytes (asks ++ asked cookie uid false ∷ []))
all_written path asks cookie uid mid c = front_all _ _ (c.written false)

-- the reply did not come
pub consult_stopped : (path : Bytes) (asks : List Ask) (cookie : Bytes) (uid : ℕ) (mid now : LineNow) (why : LinkStop) → Consulted path asks cookie uid mid → Waits (refusal_of mid.sent) mid now (Err why)
    → LineStopped path asks (asked cookie uid false) now (status_of why)
consult_stopped path asks cookie uid mid now why c w = by why w
  where
    number : mid.sent ≡ 1 + length asks
    number = omega (arith, c.sent)

    awaiting : {why : LinkStop} (w : Waits (refusal_of mid.sent) mid now (Err why)) → first_of (refusal_of mid.sent) w.hears.messages ≡ None → HasConsulted path asks (asked cookie uid false) (waited c.line w)
    awaiting w none = record {
      path_is = c.path_is;
      begun = waited_begun c.line w c.rest c.begun;
      replies = replies_but_last 1 asks c.line.messages w.hears.messages mid.sent number c.replies none;
      written = c.written false;
    }

    by : (why : LinkStop) → Waits (refusal_of mid.sent) mid now (Err why) → LineStopped path asks (asked cookie uid false) now (status_of why)
    by stop.Failed w = record {
      line = waited c.line w;
      told = waited_told c.line w c.told;
      stops = (c.path_is, all_written path asks cookie uid mid c);
      cause = fails_read now (w.reads ∙ ap one_more c.sound.reads) (w.writes ∙ c.sound.writes);
    }
    by (stop.BadShake fault) w = elim w.hears.finds [ ]
    by (stop.BadBytes kind at) w = record {
      line = waited c.line w;
      told = waited_told c.line w c.told;
      stops = (waited c.line w, refl, awaiting w w.hears.finds.0, w.hears.finds.1);
      cause = tt;
    }
    by stop.Cut w = record {
      line = waited c.line w;
      told = waited_told c.line w c.told;
      stops = (waited c.line w, refl, w.hears.finds.2, inr (awaiting w w.hears.finds.0, w.hears.finds.1));
      cause = tt;
    }
    by stop.NoMemory w = record {
      line = waited c.line w;
      told = waited_told c.line w c.told;
      stops = (c.path_is, all_written path asks cookie uid mid c);
      cause = tt;
    }

-- the reply came
pub consult_replied : (path : Bytes) (asks : List Ask) (cookie : Bytes) (uid : ℕ) (mid now : LineNow) (refused : Bool) → Consulted path asks cookie uid mid → Waits (refusal_of mid.sent) mid now (Ok refused)
    → LineReplied path (asks ++ asked cookie uid refused ∷ []) now
consult_replied path asks cookie uid mid now refused c w = record {
  line = waited c.line w;
  stands = record {
    told = waited_told c.line w c.told;
    replied = record {
      path_is = c.path_is;
      begun = waited_begun c.line w c.rest c.begun;
      replies = replies_last 1 asks (asked cookie uid refused) c.line.messages w.hears.messages mid.sent number c.replies w.hears.finds.0;
      written = c.written refused;
    };
    rest = w.hears.finds.1;
    sent = w.sent ∙ c.sent ∙ sym (length-append asks (asked cookie uid refused ∷ []));
    sound = record { reads = w.reads ∙ c.sound.reads; writes = w.writes ∙ c.sound.writes };
  };
}
  where
    number : mid.sent ≡ 1 + length asks
    number = omega (arith, c.sent)
