-- One more action of the row.
use Rattle.std.proofs.Common.{◌∷◌, [], sym, subst, take, List}
use Rattle.pkexplain_tool.specs.Accounts.{Explains}
use Rattle.pkexplain_tool.specs.Cases.{case_of, row_of}
use Rattle.pkexplain_tool.specs.declared.case.Case.{Case}
use Rattle.pkexplain_tool.proofs.Explaining.{explains_more, explains_none, row_more}
use Rattle.pkexplain_tool.proofs.cases.explain_row.Goals as goal

pub loop-action-init : goal.loop-action-init
loop-action-init c = explains_none c.args.book.now c.args.account.now

pub loop-action-preserved : goal.loop-action-preserved
loop-action-preserved c =
    subst (λ (cases : List Case). Explains c.args.book.now cases c.args.account.now c.explain_case.new.account)
    (sym (row_more c.args.uid c.args.category c.args.actions.now c.loop-action.action-index c.action-item.result c.loop-action-test.true c.action-item.is))
    (explains_more c.args.book.now (row_of c.args.uid c.args.category (take c.loop-action.action-index c.args.actions.now)) (case_of c.args.uid c.args.category c.action-item.result ∷ []) _ _ _
    c.loop-action.invariant c.in_ok-explain_case.ensures.explains)
