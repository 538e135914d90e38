use Rattle.usual_calls.proofs.Forms.{begins_process, begins_with_uid}
use Rattle.usual_calls.proofs.subjects.process_from.Goals as goal

pub returns-then-size-eq48 : goal.returns-then-size-eq48
returns-then-size-eq48 c = record { subject = begins_process c.in_ok-size.size c.in_ok-size.pid c.in_ok-size.start c.args.body.now c.in_ok-size.rest.now c.in_ok-size.ensures.pid c.in_ok-size.ensures.start c.in_ok-size.ensures.numbers c.if-size-eq48.true }

pub returns-then-size-eq64 : goal.returns-then-size-eq64
returns-then-size-eq64 c = record {
  subject = begins_with_uid c.in_ok-size.size c.in_ok-size.pid c.in_ok-size.start c.in_ok-_uid._uid c.args.body.now c.in_ok-size.rest.now c.in_ok-bytes.bytes.now c.in_ok-_uid.rest.now c.in_ok-size.ensures.pid c.in_ok-size.ensures.start c.in_ok-_uid.ensures.small c.in_ok-size.ensures.numbers c.if-size-eq64.true c.in_ok-bytes.ensures.front c.in_ok-_uid.ensures.number;
}
