use Rattle.std.proofs.Common.{◌≤◌, take, All}
use Rattle.audit_text.specs.Lines.{line}
use Rattle.audit_text.specs.Writes.{IsWithin, item_lines}
use Rattle.audit_text.proofs.measuring.longest.Given as goal

abbrev pub invariant-loop-value : goal.invariant-loop-value
invariant-loop-value g l = record {
  within : All (IsWithin l.most) (item_lines (line l.word g.T.Spell.codec) (take l.value-index l.items));
  more : l.so_far ≤ l.most;
}
