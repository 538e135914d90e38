-- The cases were told, and then the rules.
use Rattle.std.proofs.Common.{◌≡◌, ◌∙◌, ◌++◌, List, ap, sym, subst}
use Rattle.std.proofs.lemmas.Result.{on_err_weaker}
use Rattle.pk_outside.proofs.Written.{on_err}
use Rattle.pk_outside.specs.Streams.{GotFront}
use Rattle.authority_model.specs.declared.load.Loaded.{Loaded}
use Rattle.authority_model.specs.declared.world.User.{User}
use Rattle.pkexplain_tool.specs.Accounts.{AreFirsts, Tells}
use Rattle.pkexplain_tool.specs.Cases.{cases_of}
use Rattle.pkexplain_tool.specs.Lines.{case_lines, rule_lines, text_of}
use Rattle.pkexplain_tool.proofs.Writing.{are_firsts, book_cut, book_front, cases_text, users_cases}
use Rattle.pkexplain_tool.proofs.report.tell_book.Goals as goal

pub returns-in_err-tell_users-clause-err : goal.returns-in_err-tell_users-clause-err
returns-in_err-tell_users-clause-err g c =
    let book = c.args.book.now in
    let users : c.as_slice.result.now ≡ book.world.users = c.as_slice.ensures.items ∙ ap (λ (l : Loaded). l.world.users) c.loaded-loaded.ensures.loaded in
    on_err _
    (book_cut c.args.account.text.items (case_lines book (cases_of book)) (rule_lines book) _ _
    (subst (λ (us : List User). GotFront (g.O.Sink.held c.args.output.now) (g.O.Sink.held c.tell_users.new.output) (c.args.account.text.items ++ cases_text book (users_cases book us))) users c.in_err-tell_users.ensures.err))

pub tell_rules-requires-clause-firsts : goal.tell_rules-requires-clause-firsts
tell_rules-requires-clause-firsts g c κs within =
    let book = c.args.book.now in
    let users : c.as_slice.result.now ≡ book.world.users = c.as_slice.ensures.items ∙ ap (λ (l : Loaded). l.world.users) c.loaded-loaded.ensures.loaded in
    let told = subst (λ (us : List User). Tells book (users_cases book us) c.args.account c.tell_users.new.account (g.O.Sink.held c.args.output.now) (g.O.Sink.held c.tell_users.new.output)) users c.in_ok-tell_users.ensures.ok in
    subst (λ (l : Loaded). AreFirsts l c.tell_users.new.account.firsts) (sym c.loaded-loaded.ensures.loaded) (are_firsts book c.args.account.firsts c.tell_users.new.account.firsts c.requires.firsts told.firsts)

pub returns-clause-err : goal.returns-clause-err
returns-clause-err g c =
    let book = c.args.book.now in
    let users : c.as_slice.result.now ≡ book.world.users = c.as_slice.ensures.items ∙ ap (λ (l : Loaded). l.world.users) c.loaded-loaded.ensures.loaded in
    let told = subst (λ (us : List User). Tells book (users_cases book us) c.args.account c.tell_users.new.account (g.O.Sink.held c.args.output.now) (g.O.Sink.held c.tell_users.new.output)) users c.in_ok-tell_users.ensures.ok in
    on_err_weaker c.tell_rules.result
    (λ front. book_front c.args.account.text.items c.tell_users.new.account.text.items (case_lines book (cases_of book)) (rule_lines book) _ _ _ told.written
    (subst (λ (l : Loaded). GotFront (g.O.Sink.held c.tell_users.new.output) (g.O.Sink.held c.tell_rules.new.output) (c.tell_users.new.account.text.items ++ text_of (rule_lines l))) c.loaded-loaded.ensures.loaded front))
    c.tell_rules.ensures.err
