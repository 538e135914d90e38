-- The agent meets one challenge more.
use Rattle.std.proofs.Common.{◌≡◌, ℕ, ◌+◌, ◌<◌, ◌≤◌, ◌⊎◌, Bool, true, false, IsTrue, List, [], ◌∷◌, ◌++◌, length, Option, Some, None, Result, Ok, Err, refl, ap, sym, ◌∙◌, subst, append_assoc, append-nil, length-append, inl, inr, arith}
use Rattle.std.specs.List.{filter_map}
use Rattle.std.specs.Option.{option_to_list}
use Rattle.std.proofs.lemmas.List.Elements.{filter_map-append}
use Rattle.pk_outside.specs.Causes.{Rose, one_more}
use Rattle.pk_outside.specs.Links.{Origin}
use Rattle.pk_outside.specs.Stations.{StationTold, Dials}
use Rattle.pk_outside.specs.Streams.{Got}
use Rattle.pk_outside.specs.declared.stream.Failed.{Failed}
use Rattle.pk_outside.proofs.Written.{Got-more}
use Rattle.dbus_values.specs.Form.{message_bytes}
use Rattle.dbus_values.specs.Next.{Seen, Partial, next_of}
use Rattle.authority_model.specs.Words.{Bytes}
use Rattle.authority_messages.specs.Outgoing.{under}
use Rattle.client_messages.specs.declared.agent.AgentBegin.{AgentBegin}
use Rattle.client_messages.specs.declared.agent.AgentReply.{AgentReply}
use Rattle.client_messages.specs.Agents.{begin_of, reply_for}
use Rattle.link_handshake.specs.Clients.{awaited}
use Rattle.link_handshake.specs.Shakes.{Open}
use Rattle.client_link.specs.declared.stop.LinkStop.{LinkStop}
use Rattle.client_link.specs.declared.stop.LinkStop.TheVariants as stop
use Rattle.pk_outside.specs.Allowing.{IsFront}
use Rattle.script_agent.specs.declared.status.AgentStatus.{AgentStatus}
use Rattle.script_agent.specs.declared.status.AgentStatus.TheVariants as status
use Rattle.script_agent.specs.declared.task.Task.{Task}
use Rattle.script_agent.specs.Challenges.{Challenge, Ask, ask_of, asks_of, reply_of, reply_bytes, replies_from, opening_bytes, desk_bytes, line_of, lines_of, word_of}
use Rattle.script_agent.specs.Lines.{LineNow, LineStory, IsToldBy, IsBegun, IsSound}
use Rattle.script_agent.specs.Steps.{Outside, Standing, Stopped, IsStoryOf, IsCaused, AreDialled, DialsHelper, HelperIsAt, IsHelperTold, HelperStopped, HelperStopsAt, HelperCause, HelperReplied, IsHelperPath, IsAnswered, IsUnanswered, Prints, challenge, link_fails, helper_fails}
use Rattle.script_agent.specs.Stops.{status_of}
use Rattle.script_agent.specs.Stories.{Story, IsRegistered, IsReady, IsMeeting, IsConsulting, IsHelped, IsHelperFront, IsKnockingAtHelper, HasConsulted, AwaitsShake, AwaitsMessage, IsUnderWay, StopsAt, begins_of}
use Rattle.script_agent.specs.Waits.{Sends, Waits, first_of, refusal_of}
use Rattle.script_agent.proofs.Appends.{replies_from-last, lines_of-last, asks_of-last, begins_of-last, by_rules_last}
use Rattle.script_agent.proofs.Firsts.{first_of-some, filter_map-first, filter_map-none}
use Rattle.script_agent.proofs.Fronts.{front_all, front_more, front_before, front_along, fails_read, fails_write}
use Rattle.script_agent.proofs.Moves.{writes, waited, waited_told, waited_begun, sent_told}

-- # Helpers

pub helper_told : (path : Bytes) (asks : List Ask) (now : Option LineNow) (line : Option LineStory) → HelperIsAt path asks now line → IsHelperTold now line
helper_told path [] None None h = tt
helper_told path [] None (Some line) h = elim h [ ]
helper_told path [] (Some now) None h = elim h [ ]
helper_told path [] (Some now) (Some line) h = elim h [ ]
helper_told path (a ∷ asks) None line h = elim h [ ]
helper_told path (a ∷ asks) (Some now) None h = elim h [ ]
helper_told path (a ∷ asks) (Some now) (Some line) h = h.told

pub helper_helped : (path : Bytes) (asks : List Ask) (now : Option LineNow) (line : Option LineStory) → HelperIsAt path asks now line → IsHelped path asks line
helper_helped path [] None None h = tt
helper_helped path [] None (Some line) h = elim h [ ]
helper_helped path [] (Some now) None h = elim h [ ]
helper_helped path [] (Some now) (Some line) h = elim h [ ]
helper_helped path (a ∷ asks) None line h = elim h [ ]
helper_helped path (a ∷ asks) (Some now) None h = elim h [ ]
helper_helped path (a ∷ asks) (Some now) (Some line) h = h.replied

pub helper_path : (path : Bytes) (asks : List Ask) (now : Option LineNow) (line : Option LineStory) → HelperIsAt path asks now line → IsHelperPath path line
helper_path path [] None None h = tt
helper_path path [] None (Some line) h = elim h [ ]
helper_path path [] (Some now) None h = elim h [ ]
helper_path path [] (Some now) (Some line) h = elim h [ ]
helper_path path (a ∷ asks) None line h = elim h [ ]
helper_path path (a ∷ asks) (Some now) None h = elim h [ ]
helper_path path (a ∷ asks) (Some now) (Some line) h = h.replied.path_is

front_path : (path : Bytes) (asks : List Ask) (line : Option LineStory) → IsHelperFront path asks line → IsHelperPath path line
front_path path asks None f = tt
front_path path asks (Some line) f = f.0

stopped_path : (path : Bytes) (asks : List Ask) (a : Ask) (line : Option LineStory) (why : AgentStatus) → HelperStopsAt path asks a line why → IsHelperPath path line
stopped_path path asks a line status.Done s = elim s [ ]
stopped_path path asks a line status.Refused s = elim s [ ]
stopped_path path asks a line status.Usage s = elim s [ ]
stopped_path path asks a line status.TreeFault s = elim s [ ]
stopped_path path asks a line status.RuleFile s = elim s [ ]
stopped_path path asks a line status.WriteFault s = elim s [ ]
stopped_path path asks a line status.StationFault s = front_path path (asks ++ a ∷ []) line s
stopped_path path asks a line status.NoMemory s = front_path path (asks ++ a ∷ []) line s
stopped_path path asks a line (status.BadShake fault) s = subst (IsHelperPath path) (sym s.1) s.3.path_is
stopped_path path asks a line (status.BadBytes kind at) s = subst (IsHelperPath path) (sym s.1) s.2.path_is
stopped_path path asks a line status.Cut s = subst (IsHelperPath path) (sym s.1) (by s.3)
  where
    by : {l : LineStory} → ((asks ≡ []) × IsKnockingAtHelper path l × (awaited l.read ≡ Open)) ⊎ (HasConsulted path asks a l × (next_of l.rest ≡ Partial)) → l.path ≡ path
    by (inl k) = k.1.path_is
    by (inr k) = k.0.path_is

-- the helper's link was dialled before, now, or not at all
pub dials_more : (path : Bytes) (a b c : Option StationTold) (before now : Option LineNow) → DialsHelper path a b None before → DialsHelper path b c before now → DialsHelper path a c None now
dials_more path a b c None None d e = e ∙ d
dials_more path a b c None (Some now) d e = subst (λ (x : Option StationTold). Dials path x c now.origin) d e
dials_more path a b c (Some before) None d e = elim e [ ]
dials_more path a b c (Some before) (Some now) d e =
    subst (λ (o : Option Origin). Dials path a c o) (sym e.1) (subst (λ (x : Option StationTold). Dials path a x before.origin) (sym e.0) d)

-- a count that rose since the start
pub rose_since : (start before now : ℕ) → start ≤ before → Rose before now → Rose start now
rose_since start before now h r = omega (arith, r)

-- # A challenge begins

-- the story with more of the link to the authority
abbrev pub at_desk : Story → LineStory → Story
at_desk s line = record { desk = line; helper = s.helper; met = s.met; printed = s.printed }

-- another connection of the same origin
pub of_desk : (t : Task) (start now : Outside) (before desk : LineNow) (helper : Option LineNow) (s : Story) (line : LineStory) → IsStoryOf t start now before helper s → desk.origin ≡ before.origin → IsToldBy desk line → line.path ≡ s.desk.path → IsStoryOf t start now desk helper (at_desk s line)
of_desk t start now before desk helper s line of origin told path = record {
  desk_told = told;
  desk_path = path ∙ of.desk_path;
  helper_path = of.helper_path;
  helper_told = of.helper_told;
  dialled = (of.dialled.0, subst (λ (o : Option Origin). Dials t.path start.station of.dialled.0 o) (sym origin) of.dialled.1, of.dialled.2);
  printed = of.printed;
  station_later = of.station_later;
  output_later = of.output_later;
}

-- the messages that were taken ask nothing, or this
registered_more : {result : Result AgentBegin LinkStop} (before now : LineNow) (line : LineStory) (begins : List AgentBegin) (more : List AgentBegin) (w : Waits begin_of before now result) → before.rest ≡ line.rest → IsRegistered line begins → filter_map begin_of w.hears.messages ≡ more
    → IsRegistered (waited line w) (begins ++ more)
registered_more before now line begins more w rest r asks = record {
  begun = waited_begun line w rest r.begun;
  later = r.later ++ w.hears.messages;
  reply = first_of-some (refusal_of 1) line.messages w.hears.messages false r.later r.reply;
  begins_are = filter_map-append begin_of r.later w.hears.messages ∙ ap (λ x. x ++ filter_map begin_of w.hears.messages) r.begins_are ∙ ap (λ x. begins ++ x) asks;
}

-- it is as ready as before
ready_still : {result : Result AgentBegin LinkStop} (t : Task) (before now : LineNow) (s : Story) (w : Waits begin_of before now result) → before.rest ≡ s.desk.rest → IsReady t s → first_of begin_of w.hears.messages ≡ None → IsReady t (at_desk s (waited s.desk w))
ready_still t before now s w rest r none = record {
  path = r.path;
  registered = subst (λ (b : List AgentBegin). IsRegistered (waited s.desk w) b) (append-nil (begins_of s.met)) (registered_more before now s.desk (begins_of s.met) [] w rest r.registered (filter_map-none begin_of w.hears.messages none));
  by_rules = r.by_rules;
  helped = r.helped;
  written = r.written;
  printed = r.printed;
}

few_met : (met count sent : ℕ) → sent ≡ met + 1 → sent ≤ count → met < count
few_met met count sent e h = omega (arith, e, h)

-- no challenge came
pub meet_stopped : (t : Task) (start now : Outside) (before desk : LineNow) (helper : Option LineNow) (why : LinkStop) → Standing t start now before helper → before.sent ≤ t.count → Waits begin_of before desk (Err why)
    → Stopped t start now desk helper (status_of why)
meet_stopped t start now before desk helper why st few w = by why w
  where
    story : {why : LinkStop} (w : Waits begin_of before desk (Err why)) → IsStoryOf t start now desk helper (at_desk st.story (waited st.story.desk w))
    story w = of_desk t start now before desk helper st.story (waited st.story.desk w) st.of w.origin (waited_told st.story.desk w st.of.desk_told) refl

    by : (why : LinkStop) → Waits begin_of before desk (Err why) → Stopped t start now desk helper (status_of why)
    by stop.Failed w = record {
      story = at_desk st.story (waited st.story.desk w);
      of = story w;
      stops = inr (inl (ready_still t before desk st.story w st.rest st.ready w.hears.finds));
      cause = inr (inl (fails_read desk (w.reads ∙ ap one_more st.sound.reads) (w.writes ∙ st.sound.writes)));
    }
    by (stop.BadShake fault) w = elim w.hears.finds [ ]
    by (stop.BadBytes kind at) w = record {
      story = at_desk st.story (waited st.story.desk w);
      of = story w;
      stops = (waited st.story.desk w, inr (inl (ready_still t before desk st.story w st.rest st.ready w.hears.finds.0, few_met (length st.story.met) t.count before.sent st.sent few, refl)), w.hears.finds.1);
      cause = tt;
    }
    by stop.Cut w = record {
      story = at_desk st.story (waited st.story.desk w);
      of = story w;
      stops = (waited st.story.desk w, (w.hears.finds.2, inr (inr (inl (ready_still t before desk st.story w st.rest st.ready w.hears.finds.0, few_met (length st.story.met) t.count before.sent st.sent few, refl)), w.hears.finds.1)));
      cause = tt;
    }
    by stop.NoMemory w = record {
      story = at_desk st.story (waited st.story.desk w);
      of = story w;
      stops = inr (inl (ready_still t before desk st.story w st.rest st.ready w.hears.finds));
      cause = tt;
    }

-- Messages were taken up to one that asks the agent to begin, which was not answered.
pub record Beginning (t : Task) (start now : Outside) (desk : LineNow) (helper : Option LineNow) (begin : AgentBegin) : Type 0 where
  pub story : Story
  pub of : IsStoryOf t start now desk helper story
  pub meeting : (refused : Bool) → IsMeeting t story (challenge t begin refused)
  pub written : story.desk.written ≡ desk_bytes t.uid t.session story.met
  pub printed : story.printed ≡ lines_of story.met
  pub rest : desk.rest ≡ story.desk.rest
  pub sent : desk.sent ≡ length story.met + 1
  pub sound : IsSound desk
  pub at : HelperIsAt t.helper (asks_of story.met) helper story.helper

pub meet_begun : (t : Task) (start now : Outside) (before desk : LineNow) (helper : Option LineNow) (begin : AgentBegin) → Standing t start now before helper → before.sent ≤ t.count → Waits begin_of before desk (Ok begin)
    → Beginning t start now desk helper begin
meet_begun t start now before desk helper begin st few w = record {
  story = at_desk st.story (waited st.story.desk w);
  of = of_desk t start now before desk helper st.story (waited st.story.desk w) st.of w.origin (waited_told st.story.desk w st.of.desk_told) refl;
  meeting = λ refused. record {
    path = st.ready.path;
    registered = registered_more before desk st.story.desk (begins_of st.story.met) (begin ∷ []) w st.rest st.ready.registered (filter_map-first begin_of w.hears.messages begin w.hears.finds.0);
    by_rules = by_rules_last t.rules st.story.met (challenge t begin refused) st.ready.by_rules refl;
    few = few_met (length st.story.met) t.count before.sent st.sent few;
  };
  written = st.ready.written;
  printed = st.ready.printed;
  rest = w.hears.finds.1;
  sent = w.sent ∙ st.sent;
  sound = record { reads = w.reads ∙ st.sound.reads; writes = w.writes ∙ st.sound.writes };
  at = st.at;
}

-- # The helper

-- the story with more of the helper's link
abbrev pub at_helper : Story → Option LineStory → Story
at_helper s line = record { desk = s.desk; helper = line; met = s.met; printed = s.printed }

-- what the station tells behind a call on the helper
pub of_helper : (t : Task) (start before now : Outside) (desk : LineNow) (helper helper' : Option LineNow) (s : Story) (line : Option LineStory) → IsStoryOf t start before desk helper s → DialsHelper t.helper before.station now.station helper helper' → now.output ≡ before.output
    → before.station_faults ≤ now.station_faults → before.output_faults ≤ now.output_faults → IsHelperTold helper' line → IsHelperPath t.helper line → IsStoryOf t start now desk helper' (at_helper s line)
of_helper t start before now desk helper helper' s line of dials output later output_later told path = record {
  desk_told = of.desk_told;
  desk_path = of.desk_path;
  helper_path = path;
  helper_told = told;
  dialled = (of.dialled.0, of.dialled.1, dials_more t.helper of.dialled.0 before.station now.station helper helper' of.dialled.2 dials);
  printed = subst (λ (o : Option Bytes). Got start.output o s.printed) (sym output) of.printed;
  station_later = omega (arith, of.station_later, later);
  output_later = omega (arith, of.output_later, output_later);
}

-- the meeting does not speak of the helper
meeting_helper : (t : Task) (s : Story) (c : Challenge) (line : Option LineStory) → IsMeeting t s c → IsMeeting t (at_helper s line) c
meeting_helper t s c line m = record { path = m.path; registered = m.registered; by_rules = m.by_rules; few = m.few }

-- it stopped the agent by its end
cut_helper : (t : Task) (s : Story) (c : Challenge) (a : Ask) (l : LineStory) → IsConsulting t s c a → s.helper ≡ Some l
    → ((asks_of s.met ≡ []) × IsKnockingAtHelper t.helper l × (awaited l.read ≡ Open)) ⊎ (HasConsulted t.helper (asks_of s.met) a l × (next_of l.rest ≡ Partial))
    → (AwaitsShake t s l × (awaited l.read ≡ Open)) ⊎ (AwaitsMessage t s l × (next_of l.rest ≡ Partial))
cut_helper t s c a l consulting helper (inl k) = inl (inr (record { challenge = c; ask = a; consulting = consulting; first = k.0; helper = helper; knocking = k.1 }), k.2)
cut_helper t s c a l consulting helper (inr k) = inr (inr (inr (record { challenge = c; ask = a; consulting = consulting; helper = helper; consulted = k.0 })), k.1)

-- the helper stopped the agent
pub meet_unanswered : (t : Task) (start before now : Outside) (desk : LineNow) (helper helper' : Option LineNow) (begin : AgentBegin) (why : AgentStatus) (b : Beginning t start before desk helper begin)
    → IsUnanswered t (asks_of b.story.met) begin before.station_faults now.station_faults helper' why → DialsHelper t.helper before.station now.station helper helper' → now.output ≡ before.output
    → before.station_faults ≤ now.station_faults → before.output_faults ≤ now.output_faults → Stopped t start now desk helper' why
meet_unanswered t start before now desk helper helper' begin why b u dials output later output_later = by why u
  where
    consulting : {why : AgentStatus} (u : IsUnanswered t (asks_of b.story.met) begin before.station_faults now.station_faults helper' why) → IsConsulting t (at_helper b.story u.stopped.line) (challenge t begin false) u.ask
    consulting u = record { meeting = meeting_helper t b.story (challenge t begin false) u.stopped.line (b.meeting false); asks = u.ask_is; written = b.written; printed = b.printed }

    story : {why : AgentStatus} (u : IsUnanswered t (asks_of b.story.met) begin before.station_faults now.station_faults helper' why) → IsStoryOf t start now desk helper' (at_helper b.story u.stopped.line)
    story u = of_helper t start before now desk helper helper' b.story u.stopped.line b.of dials output later output_later u.stopped.told (stopped_path t.helper _ u.ask u.stopped.line _ u.stopped.stops)

    cause : HelperCause before.station_faults now.station_faults helper' status.StationFault → IsCaused start now desk helper' status.StationFault
    cause (inl r) = inl (rose_since start.station_faults before.station_faults now.station_faults b.of.station_later r)
    cause (inr f) = inr (inr f)

    by : (why : AgentStatus) → IsUnanswered t (asks_of b.story.met) begin before.station_faults now.station_faults helper' why → Stopped t start now desk helper' why
    by status.Done u = elim u.stopped.stops [ ]
    by status.Refused u = elim u.stopped.stops [ ]
    by status.Usage u = elim u.stopped.stops [ ]
    by status.TreeFault u = elim u.stopped.stops [ ]
    by status.RuleFile u = elim u.stopped.stops [ ]
    by status.WriteFault u = elim u.stopped.stops [ ]
    by status.StationFault u = record {
      story = at_helper b.story u.stopped.line;
      of = story u;
      stops = inr (inr (inl (record { challenge = challenge t begin false; ask = u.ask; consulting = consulting u; written = u.stopped.stops })));
      cause = cause u.stopped.cause;
    }
    by status.NoMemory u = record {
      story = at_helper b.story u.stopped.line;
      of = story u;
      stops = inr (inr (inl (record { challenge = challenge t begin false; ask = u.ask; consulting = consulting u; written = u.stopped.stops })));
      cause = tt;
    }
    by (status.BadShake fault) u = record {
      story = at_helper b.story u.stopped.line;
      of = story u;
      stops = (u.stopped.stops.0, inr (record { challenge = challenge t begin false; ask = u.ask; consulting = consulting u; first = u.stopped.stops.2; helper = u.stopped.stops.1; knocking = u.stopped.stops.3 }), u.stopped.stops.4);
      cause = tt;
    }
    by (status.BadBytes kind at) u = record {
      story = at_helper b.story u.stopped.line;
      of = story u;
      stops = (u.stopped.stops.0, inr (inr (record { challenge = challenge t begin false; ask = u.ask; consulting = consulting u; helper = u.stopped.stops.1; consulted = u.stopped.stops.2 })), u.stopped.stops.3);
      cause = tt;
    }
    by status.Cut u = record {
      story = at_helper b.story u.stopped.line;
      of = story u;
      stops = (u.stopped.stops.0, (u.stopped.stops.2, cut_helper t (at_helper b.story u.stopped.line) (challenge t begin false) u.ask u.stopped.stops.0 (consulting u) u.stopped.stops.1 u.stopped.stops.3));
      cause = tt;
    }

-- What is answered is known.
pub record Answering (t : Task) (start now : Outside) (desk : LineNow) (helper : Option LineNow) (begin : AgentBegin) (reply : AgentReply) : Type 0 where
  pub story : Story
  pub last : Challenge
  pub last_is : last.begin ≡ begin
  pub reply_is : reply ≡ reply_of last
  pub of : IsStoryOf t start now desk helper story
  pub meeting : IsMeeting t story last
  pub written : story.desk.written ≡ desk_bytes t.uid t.session story.met
  pub printed : story.printed ≡ lines_of story.met
  pub rest : desk.rest ≡ story.desk.rest
  pub sent : desk.sent ≡ length story.met + 1
  pub sound : IsSound desk
  pub at : HelperIsAt t.helper (asks_of (story.met ++ last ∷ [])) helper story.helper

pub meet_answered : (t : Task) (start before now : Outside) (desk : LineNow) (helper helper' : Option LineNow) (begin : AgentBegin) (reply : AgentReply) (b : Beginning t start before desk helper begin)
    → IsAnswered t (asks_of b.story.met) begin helper' reply → DialsHelper t.helper before.station now.station helper helper' → now.output ≡ before.output
    → before.station_faults ≤ now.station_faults → before.output_faults ≤ now.output_faults → Answering t start now desk helper' begin reply
meet_answered t start before now desk helper helper' begin reply b a dials output later output_later = record {
  story = at_helper b.story a.replied.line;
  last = challenge t begin a.refused;
  last_is = refl;
  reply_is = a.reply_is;
  of = of_helper t start before now desk helper helper' b.story a.replied.line b.of dials output later output_later (helper_told t.helper _ helper' a.replied.line a.replied.at) (helper_path t.helper _ helper' a.replied.line a.replied.at);
  meeting = meeting_helper t b.story (challenge t begin a.refused) a.replied.line (b.meeting a.refused);
  written = b.written;
  printed = b.printed;
  rest = b.rest;
  sent = b.sent;
  sound = b.sound;
  at = subst (λ (asks : List Ask). HelperIsAt t.helper asks helper' a.replied.line) (sym (asks_of-last b.story.met (challenge t begin a.refused))) a.replied.at;
}

-- # The answer

-- the message of the answer
abbrev pub answer_message : LineNow → AgentReply → ℕ → Bytes
answer_message before reply to = message_bytes false (under (before.sent + 1) (reply_for reply to))

desk_bytes-last : (t : Task) (met : List Challenge) (c : Challenge) (n : ℕ) → n ≡ 2 + length met → desk_bytes t.uid t.session (met ++ c ∷ []) ≡ desk_bytes t.uid t.session met ++ reply_bytes n c
desk_bytes-last t met c n e =
    ap (λ x. opening_bytes t.uid t.session ++ x) (replies_from-last 2 met c n e)
    ∙ sym (append_assoc (opening_bytes t.uid t.session) (replies_from 2 met) (reply_bytes n c))

-- what is due behind the answers so far
answer_due : (t : Task) (start now : Outside) (desk : LineNow) (helper : Option LineNow) (begin : AgentBegin) (reply : AgentReply) (a : Answering t start now desk helper begin reply)
    → desk_bytes t.uid t.session (a.story.met ++ a.last ∷ []) ≡ a.story.desk.written ++ answer_message desk reply begin.serial
answer_due t start now desk helper begin reply a =
    desk_bytes-last t a.story.met a.last (desk.sent + 1) (omega (arith, a.sent))
    ∙ ap (λ x. x ++ reply_bytes (desk.sent + 1) a.last) (sym a.written)
    ∙ ap (λ (r : AgentReply). a.story.desk.written ++ message_bytes false (under (desk.sent + 1) (reply_for r a.last.begin.serial))) (sym a.reply_is)
    ∙ ap (λ (b : AgentBegin). a.story.desk.written ++ answer_message desk reply b.serial) a.last_is

-- the meeting does not speak of what was written
meeting_writes : (t : Task) (s : Story) (c : Challenge) (written : Bytes) → IsMeeting t s c → IsMeeting t (at_desk s (writes s.desk written)) c
meeting_writes t s c written m = record {
  path = m.path;
  registered = record {
    begun = record { behind = m.registered.begun.behind; begun = m.registered.begun.begun; follow = m.registered.begun.follow };
    later = m.registered.later;
    reply = m.registered.reply;
    begins_are = m.registered.begins_are;
  };
  by_rules = m.by_rules;
  few = m.few;
}

-- the answer was sent in part
pub meet_part : (t : Task) (start now : Outside) (before desk : LineNow) (helper : Option LineNow) (begin : AgentBegin) (reply : AgentReply) (why : LinkStop) → Answering t start now before helper begin reply
    → Sends (answer_message before reply begin.serial) before desk (Err why) → Stopped t start now desk helper (status_of why)
meet_part t start now before desk helper begin reply why a s = by why s
  where
    story : {why : LinkStop} (s : Sends (answer_message before reply begin.serial) before desk (Err why)) → IsStoryOf t start now desk helper (at_desk a.story (writes a.story.desk s.written))
    story s = of_desk t start now before desk helper a.story (writes a.story.desk s.written) a.of s.origin (sent_told a.story.desk s a.of.desk_told) refl

    under_way : {why : LinkStop} (s : Sends (answer_message before reply begin.serial) before desk (Err why)) → IsFront s.written (answer_message before reply begin.serial) → IsUnderWay t (at_desk a.story (writes a.story.desk s.written))
    under_way s f = inr (inr (inr (record {
      challenge = a.last;
      meeting = meeting_writes t a.story a.last s.written a.meeting;
      helped = helper_helped t.helper (asks_of (a.story.met ++ a.last ∷ [])) helper a.story.helper a.at;
      written = front_along _ _ _ _ refl (answer_due t start now before helper begin reply a) (front_more a.story.desk.written s.written (answer_message before reply begin.serial) f);
      printed = front_along _ _ _ _ a.printed (lines_of-last a.story.met a.last) (front_before (lines_of a.story.met) (line_of a.last));
    })))

    by : (why : LinkStop) → Sends (answer_message before reply begin.serial) before desk (Err why) → Stopped t start now desk helper (status_of why)
    by stop.Failed s = record {
      story = at_desk a.story (writes a.story.desk s.written);
      of = story s;
      stops = under_way s s.is_written;
      cause = inr (inl (fails_write desk (s.reads ∙ a.sound.reads) (s.writes ∙ ap one_more a.sound.writes)));
    }
    by (stop.BadShake fault) s = elim s.is_written [ ]
    by (stop.BadBytes kind at) s = elim s.is_written [ ]
    by stop.Cut s = elim s.is_written [ ]
    by stop.NoMemory s = record {
      story = at_desk a.story (writes a.story.desk s.written);
      of = story s;
      stops = under_way s s.is_written;
      cause = tt;
    }

-- The answer was sent.
pub record Answered (t : Task) (start now : Outside) (before desk : LineNow) (helper : Option LineNow) (begin : AgentBegin) (reply : AgentReply) : Type 0 where
  pub story : Story
  pub last : Challenge
  pub last_is : last.begin ≡ begin
  pub reply_is : reply ≡ reply_of last
  pub of : IsStoryOf t start now desk helper story
  pub meeting : IsMeeting t story last
  pub written : story.desk.written ≡ desk_bytes t.uid t.session (story.met ++ last ∷ [])
  pub printed : story.printed ≡ lines_of story.met
  pub rest : desk.rest ≡ story.desk.rest
  pub sent : desk.sent ≡ length story.met + 2
  pub one_sent : desk.sent ≡ before.sent + 1
  pub sound : IsSound desk
  pub at : HelperIsAt t.helper (asks_of (story.met ++ last ∷ [])) helper story.helper

pub meet_sent : (t : Task) (start now : Outside) (before desk : LineNow) (helper : Option LineNow) (begin : AgentBegin) (reply : AgentReply) → Answering t start now before helper begin reply
    → Sends (answer_message before reply begin.serial) before desk (Ok tt) → desk.sent ≡ before.sent + 1 → Answered t start now before desk helper begin reply
meet_sent t start now before desk helper begin reply a s n = record {
  story = at_desk a.story (writes a.story.desk s.written);
  last = a.last;
  last_is = a.last_is;
  reply_is = a.reply_is;
  of = of_desk t start now before desk helper a.story (writes a.story.desk s.written) a.of s.origin (sent_told a.story.desk s a.of.desk_told) refl;
  meeting = meeting_writes t a.story a.last s.written a.meeting;
  written = ap (λ x. a.story.desk.written ++ x) s.is_written ∙ sym (answer_due t start now before helper begin reply a);
  printed = a.printed;
  rest = s.rest ∙ a.rest;
  sent = omega (arith, n, a.sent);
  one_sent = n;
  sound = record { reads = s.reads ∙ a.sound.reads; writes = s.writes ∙ a.sound.writes };
  at = a.at;
}

-- # The line

-- the story with more printed
abbrev pub at_print : Story → List Challenge → Bytes → Story
at_print s met written = record { desk = s.desk; helper = s.helper; met = met; printed = s.printed ++ written }

of_print : (t : Task) (start before now : Outside) (desk : LineNow) (helper : Option LineNow) (s : Story) (met : List Challenge) (written : Bytes) → IsStoryOf t start before desk helper s → now.station ≡ before.station → now.station_faults ≡ before.station_faults
    → Got before.output now.output written → before.output_faults ≤ now.output_faults → IsStoryOf t start now desk helper (at_print s met written)
of_print t start before now desk helper s met written of station faults got later = record {
  desk_told = of.desk_told;
  desk_path = of.desk_path;
  helper_path = of.helper_path;
  helper_told = of.helper_told;
  dialled = subst (λ (x : Option StationTold). AreDialled t start.station x desk helper) (sym station) of.dialled;
  printed = Got-more start.output before.output now.output s.printed written of.printed got;
  station_later = omega (arith, of.station_later, faults);
  output_later = omega (arith, of.output_later, later);
}

-- the line that is due
line_due : (last : Challenge) (begin : AgentBegin) (reply : AgentReply) → last.begin ≡ begin → reply ≡ reply_of last → begin.action ++ word_of reply ≡ line_of last
line_due last begin reply e r = ap (λ (b : AgentBegin). b.action ++ word_of reply) (sym e) ∙ ap (λ (x : AgentReply). last.begin.action ++ word_of x) r

-- the line was printed in part
pub meet_unprinted : (t : Task) (start before now : Outside) (old desk : LineNow) (helper : Option LineNow) (begin : AgentBegin) (reply : AgentReply) (failed : Failed) → Answered t start before old desk helper begin reply → now.station ≡ before.station → now.station_faults ≡ before.station_faults
    → Prints begin.action reply before.output now.output (Err failed) → Rose before.output_faults now.output_faults → before.output_faults ≤ now.output_faults → Stopped t start now desk helper status.WriteFault
meet_unprinted t start before now old desk helper begin reply failed a station faults p rose later = record {
  story = at_print a.story a.story.met p.written;
  of = of_print t start before now desk helper a.story a.story.met p.written a.of station faults p.got later;
  stops = inr (inr (inr (record {
    challenge = a.last;
    meeting = record { path = a.meeting.path; registered = a.meeting.registered; by_rules = a.meeting.by_rules; few = a.meeting.few };
    helped = helper_helped t.helper (asks_of (a.story.met ++ a.last ∷ [])) helper a.story.helper a.at;
    written = front_all _ _ a.written;
    printed = front_along _ _ _ _ (ap (λ x. x ++ p.written) a.printed) (lines_of-last a.story.met a.last ∙ ap (λ x. lines_of a.story.met ++ x) (sym (line_due a.last begin reply a.last_is a.reply_is))) (front_more (lines_of a.story.met) p.written (begin.action ++ word_of reply) p.printed);
  })));
  cause = rose_since start.output_faults before.output_faults now.output_faults a.of.output_later rose;
}

-- it was printed
pub meet_printed : (t : Task) (start before now : Outside) (old desk : LineNow) (helper : Option LineNow) (begin : AgentBegin) (reply : AgentReply) → Answered t start before old desk helper begin reply → now.station ≡ before.station → now.station_faults ≡ before.station_faults
    → Prints begin.action reply before.output now.output (Ok tt) → before.output_faults ≤ now.output_faults → Standing t start now desk helper × (desk.sent ≡ old.sent + 1)
meet_printed t start before now old desk helper begin reply a station faults p later = (
  record {
    story = at_print a.story (a.story.met ++ a.last ∷ []) p.written;
    of = of_print t start before now desk helper a.story (a.story.met ++ a.last ∷ []) p.written a.of station faults p.got later;
    ready = record {
      path = a.meeting.path;
      registered = subst (λ (b : List AgentBegin). IsRegistered a.story.desk b) (sym (begins_of-last a.story.met a.last)) a.meeting.registered;
      by_rules = a.meeting.by_rules;
      helped = helper_helped t.helper (asks_of (a.story.met ++ a.last ∷ [])) helper a.story.helper a.at;
      written = a.written;
      printed = ap (λ x. x ++ p.written) a.printed ∙ ap (λ x. lines_of a.story.met ++ x) (p.printed ∙ line_due a.last begin reply a.last_is a.reply_is) ∙ sym (lines_of-last a.story.met a.last);
    };
    rest = a.rest;
    sent = a.sent ∙ longer a.story.met a.last;
    sound = a.sound;
    at = a.at;
  },
  a.one_sent,
)
  where
    longer : (met : List Challenge) (c : Challenge) → length met + 2 ≡ length (met ++ c ∷ []) + 1
    longer met c = let e : length (met ++ c ∷ []) ≡ length met + 1 = length-append met (c ∷ []) in omega (arith, e)
