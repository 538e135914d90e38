-- The input ended inside a message, or behind one.
use Rattle.std.proofs.Common.{◌∙◌, sym}
use Rattle.pipe_run.proofs.Departing.{ends_done, ends_stopped, ends_unwritten}
use Rattle.pipe_run.proofs.Exits.{positive, truncated}
use Rattle.pipe_run.proofs.Promised.{may_answer, may_now}
use Rattle.pipe_run.proofs.running.end_of_input.Goals as goal

pub returns-then-rest-ne0-clause-run : goal.returns-then-rest-ne0-clause-run
returns-then-rest-ne0-clause-run g c s faults left_before left pending ended r partial all is =
    truncated s _ left_before left pending ended c.args.rest r c.requires.waits c.requires.written partial all is (positive c.args.rest c.if-rest-ne0.true)

pub returns-in-Ok-clause-run : goal.returns-in-Ok-clause-run
returns-in-Ok-clause-run g c s faults left_before left pending ended r partial all is =
    ends_done s _ _ _ left_before left pending ended c.depart.new.served _ c.write_out.new.self.unsent r c.requires.waits all (sym is ∙ c.if-rest-ne0.false) partial c.in_default.ensures.departs c.in_default.ensures.legal
    c.in-Ok.ensures.written.out c.in-Ok.ensures.all

pub returns-in-Err-write_out-clause-run : goal.returns-in-Err-write_out-clause-run
returns-in-Err-write_out-clause-run g c s faults left_before left pending ended r partial all is =
    rw c.end-in-Err-write_out.ensures.end
    (ends_unwritten s _ _ _ left_before left pending ended c.depart.new.served _ c.write_out.new.self.unsent c.in-Err-write_out.stopped c.in-Err-write_out.ensures.refused r c.requires.waits all (sym is ∙ c.if-rest-ne0.false) partial
    c.in_default.ensures.departs c.in_default.ensures.legal c.in-Err-write_out.ensures.written.out)

pub returns-in-Err-clause-run : goal.returns-in-Err-clause-run
returns-in-Err-clause-run g c s faults left_before left pending ended r partial all is =
    rw c.end.ensures.end
    (ends_stopped s _ _ _ left_before left pending ended c.depart.new.served c.in-Err.stopped r c.requires.waits c.requires.written all (sym is ∙ c.if-rest-ne0.false) partial c.in-Err.ensures.departs c.in-Err.ensures.legal)

pub write_out-requires-clause-may : goal.write_out-requires-clause-may
write_out-requires-clause-may g c κs within =
    may_now _ _ _ (may_answer _ _ c.args.served.now c.depart.new.served c.in_default.ensures.departs.g c.in_default.ensures.departs.answers c.in_default.ensures.legal c.requires.may)
