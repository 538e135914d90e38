-- The text of the load is what it skipped, its cases and its rules.
use Rattle.std.proofs.Common.{List, ℕ, subst}
use Rattle.std.proofs.lemmas.Result.{on_err_weaker, on_ok_weaker}
use Rattle.pk_outside.proofs.Written.{on_err}
use Rattle.pk_outside.specs.Streams.{Got, GotFront}
use Rattle.pkexplain_tool.proofs.Ending.{load_text}
use Rattle.pkexplain_tool.proofs.Writing.{front_none}
use Rattle.pkexplain_tool.proofs.report.tell_load.Goals as goal

pub returns-in_err-account-clause-err : goal.returns-in_err-account-clause-err
returns-in_err-account-clause-err g c = on_err _ (front_none _ _)

pub returns-in_err-book-clause-err : goal.returns-in_err-book-clause-err
returns-in_err-book-clause-err g c = on_err _ (front_none _ _)

pub returns-clause-ok : goal.returns-clause-ok
returns-clause-ok g c =
    on_ok_weaker c.tell_book.result
    (λ got. subst (λ (text : List ℕ). Got (g.O.Sink.held c.args.output.now) (g.O.Sink.held c.tell_book.new.output) text)
    (load_text c.args.loaded c.in_ok-book.book c.in_ok-account.account.text.items c.in_ok-account.ensures.text c.in_ok-book.ensures.book) got)
    c.tell_book.ensures.ok

pub returns-clause-err : goal.returns-clause-err
returns-clause-err g c =
    on_err_weaker c.tell_book.result
    (λ front. subst (λ (text : List ℕ). GotFront (g.O.Sink.held c.args.output.now) (g.O.Sink.held c.tell_book.new.output) text)
    (load_text c.args.loaded c.in_ok-book.book c.in_ok-account.account.text.items c.in_ok-account.ensures.text c.in_ok-book.ensures.book) front)
    c.tell_book.ensures.err
