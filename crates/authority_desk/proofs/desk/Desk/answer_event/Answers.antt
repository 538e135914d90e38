use Rattle.std.proofs.Common.{subst}
use Rattle.authority_model.specs.Given.{event_given, next}
use Rattle.authority_desk.specs.Seen.{IsDeskFor, desk_seen}
use Rattle.authority_desk.proofs.Stepping.{event_next}
use Rattle.authority_desk.proofs.desk.Desk.answer_event.Goals as goal

pub append-requires : goal.append-requires
append-requires c =
    let d = desk_seen c.self.inside.lookups in
    let one = c.self.invariant.1 in
    record {
      next = record {
        past = one.past;
        item = next one.past (event_given c.args.caller c.args.moment c.args.salt c.args.event);
        next = event_next d c.args.self.now c.self.view_is c.args.caller c.args.moment c.moment_at-moment.result c.moment_at-moment.ensures.later c.requires.moment c.in-Ok.answered.outputs c.in-Ok.answered.change c.args.salt c.args.event c.requires.event c.in-Ok.ensures.outputs c.in-Ok.ensures.change
            one.past one.legal (subst (IsDeskFor one.past) c.self.view_is one.is);
      };
    }
