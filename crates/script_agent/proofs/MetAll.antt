-- One challenge, from what its calls ensure.
use Rattle.std.proofs.Common.{◌≡◌, ℕ, ◌+◌, ◌≤◌, Bool, List, [], Option, Result, Ok, Err, refl, sym, ap, ◌∙◌, subst, arith}
use Rattle.pk_outside.specs.Causes.{HasCause, Rose, one_more}
use Rattle.pk_outside.specs.declared.stream.Failed.{Failed}
use Rattle.authority_model.specs.Words.{Bytes}
use Rattle.client_messages.specs.declared.agent.AgentBegin.{AgentBegin}
use Rattle.client_messages.specs.declared.agent.AgentReply.{AgentReply}
use Rattle.client_messages.specs.Agents.{begin_of}
use Rattle.client_link.specs.declared.stop.LinkStop.{LinkStop}
use Rattle.script_agent.specs.declared.status.AgentStatus.{AgentStatus}
use Rattle.script_agent.specs.declared.status.AgentStatus.TheVariants as status
use Rattle.script_agent.specs.declared.task.Task.{Task}
use Rattle.script_agent.specs.Challenges.{asks_of}
use Rattle.script_agent.specs.Lines.{LineNow}
use Rattle.script_agent.specs.Steps.{Answers, DialsHelper, Outside, Prints, Standing, Stopped}
use Rattle.script_agent.specs.Stops.{status_of}
use Rattle.script_agent.specs.Waits.{Sends, Waits}
use Rattle.script_agent.proofs.MeetSteps.{Answered, Answering, answer_message, meet_answered, meet_begun, meet_part, meet_printed, meet_sent, meet_stopped, meet_unanswered, meet_unprinted}

pub met_stopped : (t : Task) (start now : Outside) (before desk : LineNow) (helper : Option LineNow) (why : LinkStop) → Standing t start now before helper → before.sent ≤ t.count → Waits begin_of before desk (Err why) → Stopped t start now desk helper (status_of why)
met_stopped t start now before desk helper why st few w = meet_stopped t start now before desk helper why st few w

pub met_unanswered : (t : Task) (start before now : Outside) (old desk : LineNow) (helper helper' : Option LineNow) (begin : AgentBegin) (why : AgentStatus) → Standing t start before old helper → old.sent ≤ t.count → Waits begin_of old desk (Ok begin)
    → Answers t begin before.station_faults now.station_faults helper helper' (Err why) → DialsHelper t.helper before.station now.station helper helper' → now.output ≡ before.output → before.station_faults ≤ now.station_faults → before.output_faults ≤ now.output_faults → Stopped t start now desk helper' why
met_unanswered t start before now old desk helper helper' begin why st few w a dials output later output_later =
    let b = meet_begun t start before old desk helper begin st few w in
    meet_unanswered t start before now desk helper helper' begin why b (a (asks_of b.story.met) b.story.helper b.at) dials output later output_later

pub met_answered : (t : Task) (start before now : Outside) (old desk : LineNow) (helper helper' : Option LineNow) (begin : AgentBegin) (reply : AgentReply) → Standing t start before old helper → old.sent ≤ t.count → Waits begin_of old desk (Ok begin)
    → Answers t begin before.station_faults now.station_faults helper helper' (Ok reply) → DialsHelper t.helper before.station now.station helper helper' → now.output ≡ before.output → before.station_faults ≤ now.station_faults → before.output_faults ≤ now.output_faults
    → Answering t start now desk helper' begin reply
met_answered t start before now old desk helper helper' begin reply st few w a dials output later output_later =
    let b = meet_begun t start before old desk helper begin st few w in
    meet_answered t start before now desk helper helper' begin reply b (a (asks_of b.story.met) b.story.helper b.at) dials output later output_later

pub met_part : (t : Task) (start now : Outside) (before desk : LineNow) (helper : Option LineNow) (begin : AgentBegin) (reply : AgentReply) (why : LinkStop) → Answering t start now before helper begin reply
    → Sends (answer_message before reply begin.serial) before desk (Err why) → Stopped t start now desk helper (status_of why)
met_part t start now before desk helper begin reply why a s = meet_part t start now before desk helper begin reply why a s

pub met_sent : (t : Task) (start now : Outside) (before desk : LineNow) (helper : Option LineNow) (begin : AgentBegin) (reply : AgentReply) → Answering t start now before helper begin reply
    → Sends (answer_message before reply begin.serial) before desk (Ok tt) → desk.sent ≡ before.sent + 1 → Answered t start now before desk helper begin reply
met_sent t start now before desk helper begin reply a s n = meet_sent t start now before desk helper begin reply a s n

pub met_unprinted : (t : Task) (start before now : Outside) (old desk : LineNow) (helper : Option LineNow) (begin : AgentBegin) (reply : AgentReply) (failed : Failed) → Answered t start before old desk helper begin reply → now.station ≡ before.station → now.station_faults ≡ before.station_faults
    → Prints begin.action reply before.output now.output (Err failed) → HasCause {T = Unit {0}} before.output_faults now.output_faults (Err failed) → Stopped t start now desk helper status.WriteFault
met_unprinted t start before now old desk helper begin reply failed a station faults p cause =
    meet_unprinted t start before now old desk helper begin reply failed a station faults p (rose before.output_faults now.output_faults cause.failed) cause.later
  where
    rose : (x y : ℕ) → y ≡ one_more x → Rose x y
    rose x y e = omega (arith, e)

pub met_printed : (t : Task) (start before now : Outside) (first old desk : LineNow) (helper : Option LineNow) (begin : AgentBegin) (reply : AgentReply) → Waits begin_of first old (Ok begin) → Answered t start before old desk helper begin reply → now.station ≡ before.station → now.station_faults ≡ before.station_faults
    → Prints begin.action reply before.output now.output (Ok tt) → HasCause {E = Failed} before.output_faults now.output_faults (Ok (tt {0})) → Standing t start now desk helper × (desk.sent ≡ first.sent + 1)
met_printed t start before now first old desk helper begin reply w a station faults p cause =
    let r = meet_printed t start before now old desk helper begin reply a station faults p cause.later in (r.0, r.1 ∙ ap (λ (n : ℕ). n + 1) w.sent)
