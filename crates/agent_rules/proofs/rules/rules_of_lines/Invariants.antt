use Rattle.std.proofs.Common.{◌≡◌, map, drop}
use Rattle.agent_rules.specs.Rules.{rules_in_lines}
use Rattle.agent_rules.proofs.Ahead.{ahead}
use Rattle.agent_rules.proofs.rules.rules_of_lines.Given as goal

-- what was read is ahead of the lines that are left
abbrev pub invariant-loop-line : goal.invariant-loop-line
invariant-loop-line l = ahead l.rules (rules_in_lines (map (λ line. line.now) (drop l.line-index l.lines))) ≡ rules_in_lines (map (λ line. line.now) l.lines)
