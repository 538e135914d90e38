-- The call has no details.
use Rattle.std.proofs.Common.{◌∙◌, arith, rules}
use Rattle.pkcheck_tool.proofs.InRange.{check_short}
use Rattle.pkcheck_tool.proofs.asking.check_call.Goals as goal

pub returns-clause-short : goal.returns-clause-short
returns-clause-short c =
    check_short c.args.pid c.args.start c.args.action.now _ _ _ _ c.args.ask (c.in_ok-action.ensures.text ∙ c.bytes.ensures.bytes) c.new.ensures.empty c.flags_of.ensures.exact c.new-2.ensures.empty (first_of (search rules, omega arith, grind arith)) c.bytes.ensures.text
