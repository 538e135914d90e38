use Rattle.std.proofs.Common.{◌≡◌, take}
use Rattle.pkcheck_tool.specs.Replies.{pair_lines}
use Rattle.pkcheck_tool.proofs.telling.pair_lines.Given as goal

-- The lines so far.
abbrev pub invariant-loop-pair : goal.invariant-loop-pair
invariant-loop-pair l = l.text.items ≡ pair_lines (take l.pair-index l.pairs)
