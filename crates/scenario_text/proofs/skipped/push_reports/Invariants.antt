use Rattle.std.proofs.Common.{◌≡◌, ◌++◌, take, string_bytes}
use Rattle.scenario_text.specs.Skipped.{skipped_lines}
use Rattle.scenario_text.proofs.skipped.push_reports.Given as goal

abbrev pub invariant-loop-fault : goal.invariant-loop-fault
invariant-loop-fault l = string_bytes l.text ≡ string_bytes l.fn.text ++ skipped_lines (take l.fault-index l.faults)
