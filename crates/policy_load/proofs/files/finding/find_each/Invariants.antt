use Rattle.std.proofs.Common.{◌≡◌, map, take}
use Rattle.policy_load.specs.Kept.{found_with}
use Rattle.policy_load.proofs.files.finding.find_each.Given as goal

-- what the files so far come to
abbrev pub invariant-loop-file : goal.invariant-loop-file
invariant-loop-file l = l.findings.items ≡ map found_with (take l.file-index l.files)
