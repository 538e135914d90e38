use Rattle.std.proofs.Common.{◌≡◌, ◌++◌, map}
use Rattle.std.specs.List.{range_with_len}
use Rattle.pkexplain_tool.specs.Lines.{rule_line, text_of}
use Rattle.pkexplain_tool.proofs.rules.push_rules.Given as goal

-- the lines of the rules so far
abbrev pub invariant-loop-place : goal.invariant-loop-place
invariant-loop-place l = l.text.items ≡ l.initial.text.items ++ text_of (map (rule_line l.loaded) (range_with_len 0 l.place))
