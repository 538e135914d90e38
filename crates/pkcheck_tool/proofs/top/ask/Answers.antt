-- The link was dialled, used and hung up.
use Rattle.std.proofs.Common.{◌∙◌, subst, sym, ℕ, Ok, Err}
use Rattle.client_link.specs.Faults.{LinkFaults}
use Rattle.pkcheck_tool.specs.declared.reply.Reply.{Reply}
use Rattle.pkcheck_tool.specs.declared.status.CheckStatus.{CheckStatus}
use Rattle.pkcheck_tool.specs.Checks.{Asks}
use Rattle.pk_outside.specs.Stations.{has_fault}
use Rattle.pkcheck_tool.proofs.Asked.{asked}
use Rattle.pkcheck_tool.proofs.Visiting.{le_both, where_later}
use Rattle.pkcheck_tool.proofs.top.ask.Goals as goal

pub returns-in-Ok-reply-clause-asks : goal.returns-in-Ok-reply-clause-asks
returns-in-Ok-reply-clause-asks g c =
    let rf = g.N.Link.In.Source.faults c.converse-reply.new.source in
    let wf = g.N.Link.Out.Sink.faults c.converse-reply.new.sink in
    asked c.args.plan.now (g.N.Station.told c.args.station.now) (g.N.Station.told c.hang.new.self) (g.N.Station.faults c.args.station.now) (g.N.Station.faults c.hang.new.self) rf wf (Ok c.in-Ok-reply.reply)
    (record {
      b = g.N.Station.told c.dial.new.self;
      between = g.N.Station.faults c.dial.new.self;
      origin = g.N.Link.Link.origin c.in-Ok.link;
      origin' = g.N.Link.In.Source.origin c.converse-reply.new.source;
      left0 = g.N.Link.In.Source.left c.split-ends.result.input;
      left = g.N.Link.In.Source.left c.converse-reply.new.source;
      held0 = g.N.Link.Out.Sink.held c.split-ends.result.output;
      held = g.N.Link.Out.Sink.held c.converse-reply.new.sink;
      ended = g.N.Link.In.Source.ended c.converse-reply.new.source;
      dials = c.in-Ok.ensures.link;
      later = c.in-Ok.ensures.cause.later;
      same = c.in-Ok-reply.ensures.same ∙ c.split-ends.ensures.origin;
      first = c.split-ends.ensures.unread;
      unwritten = c.split-ends.ensures.unwritten;
      converses = c.in-Ok-reply.ensures.converses;
      faults = subst (λ (n : ℕ). LinkFaults {A = Reply} n rf 0 wf (Ok c.in-Ok-reply.reply)) c.split-ends.ensures.read_faults
          (subst (λ (n : ℕ). LinkFaults {A = Reply} (g.N.Link.In.Source.faults c.split-ends.result.input) rf n wf (Ok c.in-Ok-reply.reply)) c.split-ends.ensures.write_faults c.in-Ok-reply.ensures.faults);
      hangs = c.hang.ensures.hung;
      count = c.hang.ensures.count;
      all = c.in-Ok-reply.ensures.all;
    })

pub returns-in-Err-clause-asks : goal.returns-in-Err-clause-asks
returns-in-Err-clause-asks g c =
    let rf = g.N.Link.In.Source.faults c.converse-reply.new.source in
    let wf = g.N.Link.Out.Sink.faults c.converse-reply.new.sink in
    subst
    (λ (s : CheckStatus). Asks c.args.plan.now (g.N.Station.told c.args.station.now) (g.N.Station.told c.hang.new.self) (g.N.Station.faults c.args.station.now) (g.N.Station.faults c.hang.new.self) (Err s))
    (sym c.status_of.ensures.status)
    (asked c.args.plan.now (g.N.Station.told c.args.station.now) (g.N.Station.told c.hang.new.self) (g.N.Station.faults c.args.station.now) (g.N.Station.faults c.hang.new.self) rf wf (Err c.in-Err.stop)
    (record {
      b = g.N.Station.told c.dial.new.self;
      between = g.N.Station.faults c.dial.new.self;
      origin = g.N.Link.Link.origin c.in-Ok.link;
      origin' = g.N.Link.In.Source.origin c.converse-reply.new.source;
      left0 = g.N.Link.In.Source.left c.split-ends.result.input;
      left = g.N.Link.In.Source.left c.converse-reply.new.source;
      held0 = g.N.Link.Out.Sink.held c.split-ends.result.output;
      held = g.N.Link.Out.Sink.held c.converse-reply.new.sink;
      ended = g.N.Link.In.Source.ended c.converse-reply.new.source;
      dials = c.in-Ok.ensures.link;
      later = c.in-Ok.ensures.cause.later;
      same = c.in-Err.ensures.same ∙ c.split-ends.ensures.origin;
      first = c.split-ends.ensures.unread;
      unwritten = c.split-ends.ensures.unwritten;
      converses = c.in-Err.ensures.converses;
      faults = subst (λ (n : ℕ). LinkFaults {A = Reply} n rf 0 wf (Err c.in-Err.stop)) c.split-ends.ensures.read_faults
          (subst (λ (n : ℕ). LinkFaults {A = Reply} (g.N.Link.In.Source.faults c.split-ends.result.input) rf n wf (Err c.in-Err.stop)) c.split-ends.ensures.write_faults c.in-Err.ensures.faults);
      hangs = c.hang.ensures.hung;
      count = c.hang.ensures.count;
      all = c.in-Err.ensures.all;
    }))

pub returns-in-Ok-reply-clause-later : goal.returns-in-Ok-reply-clause-later
returns-in-Ok-reply-clause-later g c =
    le_both (g.N.Station.faults c.args.station.now) (g.N.Station.faults c.dial.new.self) (g.N.Station.faults c.hang.new.self) c.in-Ok.ensures.cause.later
    (where_later (has_fault (g.N.Link.In.Source.faults c.converse-reply.new.source) (g.N.Link.Out.Sink.faults c.converse-reply.new.sink)) (g.N.Station.faults c.dial.new.self) (g.N.Station.faults c.hang.new.self) c.hang.ensures.count)
