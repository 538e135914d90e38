use Rattle.std.proofs.Common.{◌≤◌, take, All}
use Rattle.std.specs.List.{flat_map}
use Rattle.audit_text.specs.Writes.{IsWithin, load_lines}
use Rattle.audit_text.proofs.measuring.longest_of_loads.Given as goal

abbrev pub invariant-loop-load : goal.invariant-loop-load
invariant-loop-load l = record {
  within : All (IsWithin l.most) (flat_map load_lines (take l.load-index l.items));
  more : l.so_far ≤ l.most;
}
