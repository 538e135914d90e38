use Rattle.std.proofs.Common.{◌≡◌, refl, sym, subst, ◌∙◌, ◌++◌, Option, Result}
use Rattle.pk_outside.proofs.Going.{may_go_free}
use Rattle.pk_outside.specs.Causes.{HasCause}
use Rattle.pk_outside.specs.Streams.{Got, GotFront}
use Rattle.authority_model.specs.Words.{Bytes}
use Rattle.script_agent.specs.Steps.{Prints}
use Rattle.script_agent.proofs.Fronts.{err_along}
use Rattle.script_agent.proofs.Printing.{cause_rest, print_part, print_rest}
use Rattle.script_agent.proofs.meeting.print.Goals as goal

pub write_all-requires-clause-may : goal.write_all-requires-clause-may
write_all-requires-clause-may g c κs within = may_go_free g.O.Sink.allowed _ _ c.requires.free

pub write_all-requires-2-clause-may : goal.write_all-requires-2-clause-may
write_all-requires-2-clause-may g c κs within = may_go_free g.O.Sink.allowed _ _ c.requires.free

pub returns-in_err-write_all-clause-prints : goal.returns-in_err-write_all-clause-prints
returns-in_err-write_all-clause-prints g c =
    err_along (Prints c.args.action.now c.args.reply (g.O.Sink.held c.args.output.now) (g.O.Sink.held c.write_all.new.output)) c.from_residual.result c.in_err-write_all.field-0.0 c.from_residual.ensures.1
    (print_part c.args.action.now c.args.reply _ _ _ (subst (GotFront (g.O.Sink.held c.args.output.now) (g.O.Sink.held c.write_all.new.output)) c.bytes.ensures.bytes c.in_err-write_all.ensures.err))

pub returns-in_err-write_all-clause-cause : goal.returns-in_err-write_all-clause-cause
returns-in_err-write_all-clause-cause g c =
    err_along (HasCause (g.O.Sink.faults c.args.output.now) (g.O.Sink.faults c.write_all.new.output)) c.from_residual.result c.in_err-write_all.field-0.0 c.from_residual.ensures.1 (record { later = c.in_err-write_all.ensures.cause.later; failed = c.in_err-write_all.ensures.cause.failed })

pub returns-clause-prints : goal.returns-clause-prints
returns-clause-prints g c =
    print_rest c.args.action.now c.args.reply _ _ _ c.as_bytes.result.now c.write_all-2.result (c.as_bytes.ensures.value ∙ c.ending.ensures.word)
    (subst (Got (g.O.Sink.held c.args.output.now) (g.O.Sink.held c.write_all.new.output)) c.bytes.ensures.bytes c.in_ok-write_all.ensures.ok) c.write_all-2.ensures.ok c.write_all-2.ensures.err

pub returns-clause-cause : goal.returns-clause-cause
returns-clause-cause g c = cause_rest _ _ _ c.write_all-2.result c.in_ok-write_all.ensures.quiet c.write_all-2.ensures.cause
