use Rattle.std.proofs.Common.{take}
use Rattle.pkexplain_tool.specs.Accounts.{Explains}
use Rattle.pkexplain_tool.specs.Cases.{row_of}
use Rattle.pkexplain_tool.proofs.cases.explain_row.Given as goal

-- the cases of the actions so far were explained
abbrev pub invariant-loop-action : goal.invariant-loop-action
invariant-loop-action l = Explains l.book (row_of l.uid l.category (take l.action-index l.actions)) l.initial.account l.account
