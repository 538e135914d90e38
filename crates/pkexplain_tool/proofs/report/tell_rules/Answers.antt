-- A prefix of what is ready was written.
use Rattle.std.proofs.Common.{List, ℕ, subst}
use Rattle.std.proofs.lemmas.Result.{on_err_weaker}
use Rattle.pk_outside.proofs.Written.{on_err}
use Rattle.pk_outside.specs.Streams.{GotFront}
use Rattle.pkexplain_tool.proofs.Writing.{front_none}
use Rattle.pkexplain_tool.proofs.report.tell_rules.Goals as goal

pub returns-in_err-push_rules-clause-err : goal.returns-in_err-push_rules-clause-err
returns-in_err-push_rules-clause-err g c = on_err _ (front_none _ _)

pub returns-clause-err : goal.returns-clause-err
returns-clause-err g c =
    on_err_weaker c.write_ready.result
    (λ front. subst (λ (text : List ℕ). GotFront (g.O.Sink.held c.args.output.now) (g.O.Sink.held c.write_ready.new.output) text) c.in_ok-push_rules.ensures.added front)
    c.write_ready.ensures.err
