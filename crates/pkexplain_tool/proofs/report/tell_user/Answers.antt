-- A prefix of the user's lines was written.
use Rattle.std.proofs.Common.{List, ℕ, subst}
use Rattle.std.proofs.lemmas.Result.{on_err_weaker}
use Rattle.pk_outside.proofs.Written.{on_err}
use Rattle.pk_outside.specs.Streams.{GotFront}
use Rattle.pkexplain_tool.proofs.Writing.{front_none}
use Rattle.pkexplain_tool.proofs.report.tell_user.Goals as goal

pub returns-in_err-explain_user-clause-err : goal.returns-in_err-explain_user-clause-err
returns-in_err-explain_user-clause-err g c = on_err _ (front_none _ _)

pub returns-clause-err : goal.returns-clause-err
returns-clause-err g c =
    on_err_weaker c.write_many.result
    (λ front. subst (λ (text : List ℕ). GotFront (g.O.Sink.held c.args.output.now) (g.O.Sink.held c.write_many.new.output) text) c.in_ok-explain_user.ensures.explains.lines front)
    c.write_many.ensures.err
