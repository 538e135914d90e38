-- The message was sent, or a prefix of it.
use Rattle.std.proofs.Common.{◌∙◌, [], refl, subst, List, ℕ}
use Rattle.pk_outside.specs.Streams.{Got, GotFront}
use Rattle.pk_outside.proofs.Written.{Got-none}
use Rattle.client_link.specs.declared.stop.LinkStop.TheVariants as stop
use Rattle.client_link.proofs.Refused.{sends_refused}
use Rattle.client_link.proofs.sending.send_reply.Goals as goal

pub returns-in_err-bytes-clause-sends : goal.returns-in_err-bytes-clause-sends
returns-in_err-bytes-clause-sends g c = sends_refused _ _ _ c.from_residual.result stop.NoMemory c.from_residual.ensures.1 (_, ([], refl, Got-none _))

pub returns-in_err-write_all-clause-sends : goal.returns-in_err-write_all-clause-sends
returns-in_err-write_all-clause-sends g c =
    sends_refused _ _ _ c.from_residual-in_err-write_all.result stop.Failed c.from_residual-in_err-write_all.ensures.1
    (subst (λ (bytes : List ℕ). GotFront (g.O.Sink.held c.args.sink.now) (g.O.Sink.held c.write_all.new.output) bytes) (c.as_slice.ensures.items ∙ c.in_ok-bytes.ensures.exact) c.in_err-write_all.ensures.err)

pub returns-clause-sends : goal.returns-clause-sends
returns-clause-sends g c = subst (λ (bytes : List ℕ). Got (g.O.Sink.held c.args.sink.now) (g.O.Sink.held c.write_all.new.output) bytes) (c.as_slice.ensures.items ∙ c.in_ok-bytes.ensures.exact) c.in_ok-write_all.ensures.ok
