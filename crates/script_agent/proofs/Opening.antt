-- The agent shakes hands with the authority and registers.
use Rattle.std.proofs.Common.{◌≡◌, ℕ, ◌+◌, ◌≤◌, ◌⊎◌, Bool, true, false, IsTrue, List, [], ◌∷◌, ◌++◌, length, Option, Some, None, Result, Ok, Err, refl, ap, sym, ◌∙◌, subst, append_assoc, append-nil, inl, inr, arith}
use Rattle.pk_outside.specs.Causes.{one_more}
use Rattle.pk_outside.specs.Links.{Origin}
use Rattle.pk_outside.specs.Stations.{Dials}
use Rattle.pk_outside.specs.Streams.{Got}
use Rattle.pk_outside.proofs.Written.{Got-none}
use Rattle.dbus_values.specs.Form.{message_bytes}
use Rattle.dbus_values.specs.Next.{Seen}
use Rattle.authority_model.specs.declared.event.Call.{Call}
use Rattle.authority_model.specs.Words.{Bytes}
use Rattle.authority_messages.specs.Outgoing.{under}
use Rattle.client_messages.specs.Calls.{call_for}
use Rattle.client_link.specs.declared.stop.LinkStop.{LinkStop}
use Rattle.client_link.specs.declared.stop.LinkStop.TheVariants as stop
use Rattle.client_link.specs.Faults.{LinkFaults}
use Rattle.pk_outside.specs.Allowing.{IsFront}
use Rattle.client_link.specs.Shakings.{client_bytes}
use Rattle.script_agent.specs.declared.status.AgentStatus.{AgentStatus}
use Rattle.script_agent.specs.declared.status.AgentStatus.TheVariants as status
use Rattle.script_agent.specs.declared.task.Task.{Task}
use Rattle.script_agent.specs.Challenges.{registration, opening_bytes, desk_bytes}
use Rattle.script_agent.specs.Lines.{LineNow, LineStory, IsToldBy, IsBegun, IsSound, dialled}
use Rattle.script_agent.specs.Steps.{Outside, Arriving, Standing, Stopped, IsStoryOf, IsCaused, AreDialled}
use Rattle.script_agent.specs.Stops.{status_of}
use Rattle.script_agent.specs.Stories.{Story, IsOpening, HasAsked, IsInOpening, StopsAt, IsReady}
use Rattle.script_agent.specs.Waits.{Sends, Waits, first_of, refusal_of}
use Rattle.script_agent.proofs.Consulting.{call_message}
use Rattle.script_agent.proofs.Fronts.{front_all, front_more, front_before, front_along, fails_read, fails_write}
use Rattle.script_agent.proofs.Moves.{writes, waited, waited_told, waited_begun, sent_told}
use Rattle.script_agent.proofs.Shaking.{Shook, shaken, shaken_told, shaken_begun, one_fails, front_longer}

-- the story of an agent that met nothing
abbrev pub unmet : LineStory → Story
unmet line = record { desk = line; helper = None; met = []; printed = [] }

opening : (t : Task) (line : LineStory) → line.path ≡ t.path → IsOpening t (unmet line)
opening t line path = record { path = path; alone = refl; none_met = refl; unprinted = refl }

unmet_story : (t : Task) (start now : Outside) (before desk : LineNow) (line : LineStory) → Arriving t start now before None → desk.origin ≡ before.origin → IsToldBy desk line → line.path ≡ t.path → IsStoryOf t start now desk None (unmet line)
unmet_story t start now before desk line a origin told path = record {
  desk_told = told;
  desk_path = path;
  helper_path = tt;
  helper_told = tt;
  dialled = (now.station, subst (λ (o : Option Origin). Dials t.path start.station now.station o) (sym origin) a.by_station, refl);
  printed = subst (λ (o : Option Bytes). Got start.output o []) (sym a.output) (Got-none start.output);
  station_later = a.station_later;
  output_later = a.output_later;
}

-- it is stopped in its opening
in_opening : (t : Task) (line : LineStory) → line.path ≡ t.path → IsFront line.written (opening_bytes t.uid t.session) → IsInOpening t (unmet line)
in_opening t line path front = record { opening = opening t line path; written = front }

-- the registration's message
abbrev pub registering : Task → Bytes
registering t = message_bytes false (under 1 (call_for (registration t.session)))

-- hands were not shaken
pub open_unshaken : (t : Task) (start now : Outside) (before desk : LineNow) (why : LinkStop) → Arriving t start now before None → Shook t.uid before desk (Err why) → desk.origin ≡ before.origin
    → LinkFaults {A = Unit {0}} before.read_faults desk.read_faults before.write_faults desk.write_faults (Err why) → Stopped t start now desk None (status_of why)
open_unshaken t start now before desk why a s origin f = by why s f
  where
    of : {why : LinkStop} (s : Shook t.uid before desk (Err why)) → IsStoryOf t start now desk None (unmet (shaken t.path desk s.read s.written))
    of s = unmet_story t start now before desk (shaken t.path desk s.read s.written) a origin (shaken_told t.uid before desk _ t.path s a.dialled origin) refl

    by : (why : LinkStop) → Shook t.uid before desk (Err why) → LinkFaults {A = Unit {0}} before.read_faults desk.read_faults before.write_faults desk.write_faults (Err why) → Stopped t start now desk None (status_of why)
    by stop.Failed s f = record {
      story = unmet (shaken t.path desk s.read s.written);
      of = of s;
      stops = inl (in_opening t (shaken t.path desk s.read s.written) refl (front_longer s.written (client_bytes t.uid) (registering t) s.shakes));
      cause = inr (inl (one_fails before desk a.dialled.sound f));
    }
    by (stop.BadShake fault) s f = record {
      story = unmet (shaken t.path desk s.read s.written);
      of = of s;
      stops = (shaken t.path desk s.read s.written, inl (record { opening = opening t (shaken t.path desk s.read s.written) refl; written = s.shakes.1 }, refl), s.shakes.0);
      cause = tt;
    }
    by (stop.BadBytes kind at) s f = elim s.shakes [ ]
    by stop.Cut s f = record {
      story = unmet (shaken t.path desk s.read s.written);
      of = of s;
      stops = (shaken t.path desk s.read s.written, (s.shakes.1, inl (inl (record { opening = opening t (shaken t.path desk s.read s.written) refl; written = s.shakes.2 }, refl), s.shakes.0)));
      cause = tt;
    }
    by stop.NoMemory s f = record {
      story = unmet (shaken t.path desk s.read s.written);
      of = of s;
      stops = inl (in_opening t (shaken t.path desk s.read s.written) refl (front_longer s.written (client_bytes t.uid) (registering t) s.shakes));
      cause = tt;
    }

-- Hands were shaken.
pub record Greeted (t : Task) (start now : Outside) (desk : LineNow) : Type 0 where
  pub line : LineStory
  pub path : line.path ≡ t.path
  pub of : IsStoryOf t start now desk None (unmet line)
  pub begun : IsBegun line
  pub rest : desk.rest ≡ line.rest
  pub none_taken : line.messages ≡ []
  pub written : line.written ≡ client_bytes t.uid
  pub sent : desk.sent ≡ 0
  pub sound : IsSound desk

pub open_shaken : (t : Task) (start now : Outside) (before desk : LineNow) → Arriving t start now before None → Shook t.uid before desk (Ok tt) → desk.origin ≡ before.origin → desk.sent ≡ before.sent → IsSound desk → Greeted t start now desk
open_shaken t start now before desk a s origin sent sound = record {
  line = shaken t.path desk s.read s.written;
  path = refl;
  of = unmet_story t start now before desk (shaken t.path desk s.read s.written) a origin (shaken_told t.uid before desk _ t.path s a.dialled origin) refl;
  begun = shaken_begun t.uid before desk t.path s;
  rest = refl;
  none_taken = refl;
  written = s.shakes.1;
  sent = sent ∙ a.dialled.sent;
  sound = sound;
}

-- another connection of the same origin
of_same : (t : Task) (start now : Outside) (before desk : LineNow) (old line : LineStory) → IsStoryOf t start now before None (unmet old) → desk.origin ≡ before.origin → IsToldBy desk line → line.path ≡ t.path → IsStoryOf t start now desk None (unmet line)
of_same t start now before desk old line of origin told path = record {
  desk_told = told;
  desk_path = path;
  helper_path = tt;
  helper_told = tt;
  dialled = (of.dialled.0, subst (λ (o : Option Origin). Dials t.path start.station of.dialled.0 o) (sym origin) of.dialled.1, of.dialled.2);
  printed = of.printed;
  station_later = of.station_later;
  output_later = of.output_later;
}

-- nothing was sent behind the handshake
pub open_unsent : (t : Task) (start now : Outside) (desk : LineNow) → Greeted t start now desk → Stopped t start now desk None status.NoMemory
open_unsent t start now desk g = record {
  story = unmet g.line;
  of = g.of;
  stops = inl (in_opening t g.line g.path (front_along _ _ _ _ g.written refl (front_before (client_bytes t.uid) (registering t))));
  cause = tt;
}

-- the next message is the registration
due_is : (t : Task) (start now : Outside) (desk : LineNow) (call : Call) → Greeted t start now desk → call ≡ registration t.session → call_message desk call ≡ registering t
due_is t start now desk call g e =
    ap (λ (n : ℕ). message_bytes false (under (n + 1) (call_for call))) g.sent ∙ ap (λ (c : Call). message_bytes false (under 1 (call_for c))) e

-- it was sent in part
pub open_part : (t : Task) (start now : Outside) (before desk : LineNow) (call : Call) (why : LinkStop) → Greeted t start now before → call ≡ registration t.session → Sends (call_message before call) before desk (Err why)
    → Stopped t start now desk None (status_of why)
open_part t start now before desk call why g e s = by why s
  where
    part : (written : Bytes) → IsFront written (call_message before call) → IsFront (g.line.written ++ written) (opening_bytes t.uid t.session)
    part written f = front_along _ _ _ _ (ap (λ x. x ++ written) g.written) (ap (λ x. client_bytes t.uid ++ x) (sym (due_is t start now before call g e))) (front_more (client_bytes t.uid) written (call_message before call) f)

    of : {why : LinkStop} (s : Sends (call_message before call) before desk (Err why)) → IsStoryOf t start now desk None (unmet (writes g.line s.written))
    of s = of_same t start now before desk g.line (writes g.line s.written) g.of s.origin (sent_told g.line s g.of.desk_told) g.path

    by : (why : LinkStop) → Sends (call_message before call) before desk (Err why) → Stopped t start now desk None (status_of why)
    by stop.Failed s = record {
      story = unmet (writes g.line s.written);
      of = of s;
      stops = inl (in_opening t (writes g.line s.written) g.path (part s.written s.is_written));
      cause = inr (inl (fails_write desk (s.reads ∙ g.sound.reads) (s.writes ∙ ap one_more g.sound.writes)));
    }
    by (stop.BadShake fault) s = elim s.is_written [ ]
    by (stop.BadBytes kind at) s = elim s.is_written [ ]
    by stop.Cut s = elim s.is_written [ ]
    by stop.NoMemory s = record {
      story = unmet (writes g.line s.written);
      of = of s;
      stops = inl (in_opening t (writes g.line s.written) g.path (part s.written s.is_written));
      cause = tt;
    }

-- The registration was sent.
pub record Asking (t : Task) (start now : Outside) (desk : LineNow) : Type 0 where
  pub line : LineStory
  pub of : IsStoryOf t start now desk None (unmet line)
  pub path : line.path ≡ t.path
  pub begun : IsBegun line
  pub rest : desk.rest ≡ line.rest
  pub none_taken : line.messages ≡ []
  pub written : line.written ≡ opening_bytes t.uid t.session
  pub sent : desk.sent ≡ 1
  pub sound : IsSound desk

pub open_sent : (t : Task) (start now : Outside) (before desk : LineNow) (call : Call) → Greeted t start now before → call ≡ registration t.session → Sends (call_message before call) before desk (Ok tt) → desk.sent ≡ before.sent + 1 → Asking t start now desk
open_sent t start now before desk call g e s n = record {
  line = writes g.line s.written;
  of = of_same t start now before desk g.line (writes g.line s.written) g.of s.origin (sent_told g.line s g.of.desk_told) g.path;
  path = g.path;
  begun = record { behind = g.begun.behind; begun = g.begun.begun; follow = g.begun.follow };
  rest = s.rest ∙ g.rest;
  none_taken = g.none_taken;
  written = ap (λ x. x ++ s.written) g.written ∙ ap (λ x. client_bytes t.uid ++ x) (s.is_written ∙ due_is t start now before call g e);
  sent = n ∙ ap (λ k. k + 1) g.sent;
  sound = record { reads = s.reads ∙ g.sound.reads; writes = s.writes ∙ g.sound.writes };
}

-- what the registration was answered is what the messages of the wait tell
first_waited : (line_messages messages : List Seen) (answer : Option (Bool × List Seen)) → line_messages ≡ [] → first_of (refusal_of 1) messages ≡ answer → first_of (refusal_of 1) (line_messages ++ messages) ≡ answer
first_waited line_messages messages answer none e = subst (λ (ms : List Seen). first_of (refusal_of 1) (ms ++ messages) ≡ answer) (sym none) e

asked_waits : (t : Task) (start now : Outside) (before desk : LineNow) (result : Result Bool LinkStop) (a : Asking t start now before) (w : Waits (refusal_of 1) before desk result) → HasAsked t (unmet (waited a.line w))
asked_waits t start now before desk result a w = record { opening = opening t (waited a.line w) a.path; begun = waited_begun a.line w a.rest a.begun; written = a.written }

of_waits : (t : Task) (start now : Outside) (before desk : LineNow) (result : Result Bool LinkStop) (a : Asking t start now before) (w : Waits (refusal_of 1) before desk result) → IsStoryOf t start now desk None (unmet (waited a.line w))
of_waits t start now before desk result a w = of_same t start now before desk a.line (waited a.line w) a.of w.origin (waited_told a.line w a.of.desk_told) a.path

pub open_stopped : (t : Task) (start now : Outside) (before desk : LineNow) (why : LinkStop) → Asking t start now before → Waits (refusal_of 1) before desk (Err why) → Stopped t start now desk None (status_of why)
open_stopped t start now before desk why a w = by why w
  where
    by : (why : LinkStop) → Waits (refusal_of 1) before desk (Err why) → Stopped t start now desk None (status_of why)
    by stop.Failed w = record {
      story = unmet (waited a.line w);
      of = of_waits t start now before desk _ a w;
      stops = inl (in_opening t (waited a.line w) a.path (front_all _ _ a.written));
      cause = inr (inl (fails_read desk (w.reads ∙ ap one_more a.sound.reads) (w.writes ∙ a.sound.writes)));
    }
    by (stop.BadShake fault) w = elim w.hears.finds [ ]
    by (stop.BadBytes kind at) w = record {
      story = unmet (waited a.line w);
      of = of_waits t start now before desk _ a w;
      stops = (waited a.line w, inl (asked_waits t start now before desk _ a w, first_waited a.line.messages w.hears.messages _ a.none_taken w.hears.finds.0, refl), w.hears.finds.1);
      cause = tt;
    }
    by stop.Cut w = record {
      story = unmet (waited a.line w);
      of = of_waits t start now before desk _ a w;
      stops = (waited a.line w, (w.hears.finds.2, inr (inl (asked_waits t start now before desk _ a w, first_waited a.line.messages w.hears.messages _ a.none_taken w.hears.finds.0, refl), w.hears.finds.1)));
      cause = tt;
    }
    by stop.NoMemory w = record {
      story = unmet (waited a.line w);
      of = of_waits t start now before desk _ a w;
      stops = inl (in_opening t (waited a.line w) a.path (front_all _ _ a.written));
      cause = tt;
    }

pub open_refused : (t : Task) (start now : Outside) (before desk : LineNow) → Asking t start now before → Waits (refusal_of 1) before desk (Ok true) → Stopped t start now desk None status.Refused
open_refused t start now before desk a w = record {
  story = unmet (waited a.line w);
  of = of_waits t start now before desk _ a w;
  stops = (asked_waits t start now before desk _ a w, first_waited a.line.messages w.hears.messages _ a.none_taken w.hears.finds.0);
  cause = tt;
}

pub open_done : (t : Task) (start now : Outside) (before desk : LineNow) → Asking t start now before → Waits (refusal_of 1) before desk (Ok false) → Standing t start now desk None × (desk.sent ≡ 1)
open_done t start now before desk a w = (
  record {
    story = unmet (waited a.line w);
    of = of_waits t start now before desk _ a w;
    ready = record {
      path = a.path;
      registered = record { begun = waited_begun a.line w a.rest a.begun; later = []; reply = first_waited a.line.messages w.hears.messages _ a.none_taken w.hears.finds.0; begins_are = refl };
      by_rules = tt;
      helped = tt;
      written = a.written ∙ sym (append-nil (opening_bytes t.uid t.session));
      printed = refl;
    };
    rest = w.hears.finds.1;
    sent = w.sent ∙ a.sent;
    sound = record { reads = w.reads ∙ a.sound.reads; writes = w.writes ∙ a.sound.writes };
    at = tt;
  },
  w.sent ∙ a.sent,
)
