use Rattle.std.proofs.Common.{◌≡◌, None, replicate}
use Rattle.pkexplain_tool.proofs.account.no_firsts.Given as goal

-- a place for each rule so far
abbrev pub invariant-loop : goal.invariant-loop
invariant-loop l = l.firsts ≡ replicate l.counter None
